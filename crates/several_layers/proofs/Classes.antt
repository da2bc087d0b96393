-- Sheets are classes (`sheet_classes`): in a block map each live dart lies in exactly one (`one_sheet`), and the sheets of two darts are
-- one exactly if each is in the other's (`sheets_exactly`). Two seeds get equal marks 1 exactly then (`ones_exactly`), and then all
-- their marks are equal (`marks_same`).
use Prim.Native.Nat.{ℕ, ◌≤◌}
use mathlib.Core.Path.{◌≡◌, refl, sym, ap, ◌∙◌}
use mathlib.Core.Logic.{◌↔◌}
use mathlib.Core.Bool.{true}
use mathlib.Core.List.{List, [], ◌∷◌}
use native.Mathlib.Omega.{arith}
use Rattle.model.specs.Table.{slots, link, walk, live}
use Rattle.model.specs.Sheet.{sheet, sheet_marks}
use Rattle.model.specs.Meaning.Maps.{BlockTable, Rule}
use Rattle.model.specs.Meaning.Sets.{ByLink, SheetStep, along, across, beside}
use Rattle.model.specs.Meaning.Sheets.{BlockDart, marks_of}
use Rattle.theorems.proofs.Sets.Least.{sheet_is}
use Rattle.theorems.proofs.Sets.Classes.{Reversible, class_sub, class_own, class_back, class_same}
use Rattle.theorems.proofs.Maps.Tables.{map_table, live_below, rule_at, links_reversible}
use Rattle.theorems.proofs.Layers.Sheet.{edge_live, sheet_own, sheet_live}
use Rattle.theorems.proofs.Layers.Marks.{marks_one}
use Rattle.several_layers.specs.Classes.{LiesIn, Classes, OneSheet, SameOnes, InEachOther}

module _ {n : ℕ} {t : List ℕ} (B : BlockTable n t) where
  abbrev Lives : ℕ → Type 0
  Lives x = live t x ≡ true

  rule : (x : ℕ) → Lives x → Rule n t x
  rule = rule_at (map_table B)

  edge_back : (x : ℕ) → Lives x → walk t (1 ∷ 0 ∷ 1 ∷ []) (walk t (1 ∷ 0 ∷ 1 ∷ []) x) ≡ x
  unfolding walk
  edge_back x l =
      let a = (rule x l).goes 1 (omega arith) in
      let b = (rule (link t 1 x) a).goes 0 (omega arith) in
      rw (
        (rule (link t 0 (link t 1 x)) b).comes 1 (omega arith),
        (rule (link t 1 x) a).comes 0 (omega arith),
        (rule x l).comes 1 (omega arith),
      )

  links_back : Reversible (slots t) Lives (ByLink t (λ j. (j ≤ n) × (2 ≤ j)))
  links_back = let top = B.dim.1 in links_reversible (map_table B) (λ j low. omega arith)

  -- the steps of a sheet lead from live darts to live darts, and back
  sheet_reversible : Reversible (slots t) Lives (SheetStep n t)
  sheet_reversible = record { below = live_below (map_table B); goes = goes; back = back }
    where
      goes : (x y : ℕ) → Lives x → SheetStep n t x y → Lives y
      goes x y l (along e) = rw e ((rule x l).goes 0 (omega arith))
      goes x y l (across e) = rw e (edge_live B x l)
      goes x y l (beside b) = links_back.goes x y l b

      back : (x y : ℕ) → Lives x → SheetStep n t x y → SheetStep n t y x
      back x y l (along e) = along (sym (ap (link t 0) e ∙ (rule x l).comes 0 (omega arith)))
      back x y l (across e) = across (sym (ap (walk t (1 ∷ 0 ∷ 1 ∷ [])) e ∙ edge_back x l))
      back x y l (beside b) = beside (links_back.back x y l b)

  pub step_live : (x y : ℕ) → live t x ≡ true → SheetStep n t x y → live t y ≡ true
  step_live = sheet_reversible.goes

  sheet_back : (d x : ℕ) → Lives d → LiesIn n t x d → LiesIn n t d x
  sheet_back = class_back (sheet n t) (sheet_is n t) sheet_reversible

  pub sheet_classes : Classes n t
  sheet_classes = record {
    own = class_own (sheet n t) (sheet_is n t) sheet_reversible;
    both = λ x y lx ly. (sheet_back y x ly, sheet_back x y lx);
    through = λ x y z h k. class_sub (sheet n t) (sheet_is n t) z y k x h;
    lives = λ x y l. sheet_live (record { table = B; lives = l }) x;
  }

  -- what lies in a sheet has that sheet
  sheet_same : (d x : ℕ) → live t d ≡ true → LiesIn n t x d → sheet n t x ≡ sheet n t d
  sheet_same = class_same (sheet n t) (sheet_is n t) sheet_reversible

  -- "each live dart lies in exactly one sheet"
  pub one_sheet : (x : ℕ) → live t x ≡ true → OneSheet n t x
  one_sheet x l = record {
    own = sheet n t x;
    made = record { seed = x; lives = l; is = refl };
    holds = sheet_classes.own x l;
    only = λ s p m. p.is ∙ sym (sheet_same p.seed x p.lives (rw p.is at m));
  }

-- ---- two seeds

module _ {n : ℕ} {t : List ℕ} {d e : ℕ} (D : BlockDart n t d) (E : BlockDart n t e) where
  -- either of the two is enough
  pub each_other : LiesIn n t e d → InEachOther n t d e
  each_other h = (h, sheet_back D.table d e D.lives h)

  -- the sheets are one exactly then
  pub sheets_exactly : (sheet n t d ≡ sheet n t e) ↔ InEachOther n t d e
  sheets_exactly = (
    λ q. each_other (rw q (sheet_own E)),
    λ h. sym (sheet_same D.table d e D.lives h.0),
  )

  -- and then all marks are equal
  pub marks_same : InEachOther n t d e → marks_of n t d ≡ marks_of n t e
  marks_same h = ap (sheet_marks n t) (sheets_exactly.1 h)

  -- "two seeds get equal marks 1 exactly if each is in the other's sheet"
  pub ones_exactly : SameOnes (marks_of n t d) (marks_of n t e) ↔ InEachOther n t d e
  ones_exactly = (
    λ same. each_other ((marks_one D e).0 ((same e).1 ((marks_one E e).1 (sheet_own E)))),
    λ h x. rw (marks_same h) (λ q. q, λ q. q),
  )
