-- The sheet of a live dart of a block map: S is the least set that holds the dart and is closed under link 0, the opposite edge
-- 1.0.1 and the links 2..n (sheet_least). 13: some dart of S has its link 1 in S (crosses_some).
use Prim.Native.Nat.{ℕ, suc, ◌≤◌}
use mathlib.Core.Path.{◌≡◌, refl}
use mathlib.Core.Logic.{◌⊎◌, ◌↔◌, ⊎_elim}
use mathlib.Core.Bool.{true, false}
use mathlib.Core.List.Memᴰ.{cases_cons as in-cons}
use mathlib.Core.List.Memᴰ.{not-nil}
use mathlib.Core.List.{List, [], ◌∷◌, Memᴰ as In}
use mathlib.Core.List.Memᴰ.{eq_of_singleton as sole}
use mathlib.Core.List.Memᴰ.{head as here}
use mathlib.Core.List.Memᴰ.{tail as there}
use native.Mathlib.Omega.{arith}
use lib.ListN.{get_or}
use lib.Dec.{eqb, leb}
use borrow.Author.Tests.{eqb-true, eq-eqb, le-leb}
use Rattle.model.specs.Lists.{ones}
use Rattle.model.specs.Table.{slots, link, walk, live}
use Rattle.model.specs.Reach.{steps, links, in_set}
use Rattle.model.specs.Sheet.{sheet_words, sheet}
use Rattle.model.specs.Split.{crosses}
use Rattle.model.specs.Meaning.Maps.{BlockTable}
use Rattle.model.specs.Meaning.Sets.{Least, Marked}
use Rattle.model.specs.Meaning.Sheets.{BlockDart, Sheet, Crossing}
use Rattle.theorems.proofs.Lists.Scan.{test, clash}
use Rattle.theorems.proofs.Lists.Ones.{ones_of, ones_in, ones_distinct}
use Rattle.theorems.proofs.Sets.Closure.{closure_least}
use Rattle.theorems.proofs.Sets.Links.{step_in, step_of}
use Rattle.theorems.proofs.Maps.Tables.{map_table, live_below, rule_at}

-- ---- the steps of a sheet lead from live darts to live darts

module _ {n : ℕ} {t : List ℕ} (B : BlockTable n t) where
  goes : (x j : ℕ) → j ≤ n → live t x ≡ true → live t (link t j x) ≡ true
  goes x j b l = let low = B.dim.1 in (rule_at (map_table B) x l).goes j (omega arith)

  pub edge_live : (x : ℕ) → live t x ≡ true → live t (walk t (1 ∷ 0 ∷ 1 ∷ []) x) ≡ true
  unfolding walk
  edge_live x l = let two = B.dim.0 in goes _ 1 (omega arith) (goes _ 0 (omega arith) (goes x 1 (omega arith) l))

-- ---- the sheet

module _ {n : ℕ} {t : List ℕ} {d : ℕ} (D : BlockDart n t d) where
  abbrev S : List ℕ
  S = sheet n t d

  abbrev B : BlockTable n t
  B = D.table

  pub sheet_least : Least (steps t (sheet_words n)) (slots t) (d ∷ []) S
  unfolding sheet
  sheet_least = closure_least t (sheet_words n) (d ∷ [])

  pub sheet_own : Marked S d
  sheet_own = sheet_least.holds d (here refl) (live_below (map_table B) d D.lives)

  pub sheet_live : (x : ℕ) → Marked S x → live t x ≡ true
  unfolding sheet_words steps links walk
  sheet_live = sheet_least.within (λ x. live t x ≡ true) (λ x i _. rw (sole i) D.lives)
      (λ x y _ l i _. step x y l (in-cons i))
    where
      far : (x y : ℕ) → live t x ≡ true → In y (steps t (links n (λ j. leb 2 j)) x) → live t y ≡ true
      far x y l i = let (j, low, far, at) = step_of t x (λ j. leb 2 j) (suc n) 0 y i in rw at (goes B x j (omega arith) l)

      step : (x y : ℕ) → live t x ≡ true
          → (y ≡ link t 0 x) ⊎ In y (walk t (1 ∷ 0 ∷ 1 ∷ []) x ∷ steps t (links n (λ j. leb 2 j)) x) → live t y ≡ true
      step x y l = ⊎_elim (λ e. rw e (goes B x 0 (omega arith) l)) (λ i. ⊎_elim (λ e. rw e (edge_live B x l)) (far x y l) (in-cons i))

  closed : (x y : ℕ) → In y (steps t (sheet_words n) x) → Marked S x → live t y ≡ true → Marked S y
  closed x y i h l = sheet_least.closed x y h i (live_below (map_table B) y l)

  pub sheet_of : Sheet n t (ones S)
  unfolding sheet_words steps links walk
  sheet_of = record {
    once = ones_distinct S 0;
    lives = λ x i. sheet_live x (ones_of S x i);
    along = λ x i. into x _ i (here refl) (goes B x 0 (omega arith));
    over = λ x i. into x _ i (there (here refl)) (edge_live B x);
    far = λ x j two low i.
        let step = step_in t x (λ j. leb 2 j) (suc n) 0 j (omega arith) (omega arith) (le-leb 2 j two) in
        into x _ i (there (there step)) (goes B x j low);
  }
    where
      into : (x y : ℕ) → In x (ones S) → In y (steps t (sheet_words n) x) → (live t x ≡ true → live t y ≡ true) → In y (ones S)
      into x y i step l = let h = ones_of S x i in ones_in S y (closed x y step h (l (sheet_live x h)))

-- ---- 13

module _ (t s : List ℕ) where
  crosses_at : (gs : List ℕ) → crosses t s gs ≡ true → (g : ℕ) × In g gs × Marked s (link t 1 g)
  unfolding crosses in_set
  crosses_at [] h = absurd (clash h refl)
  crosses_at (g ∷ gs) h =
      let rec = crosses_at gs in
      test (eqb (get_or s (link t 1 g) 0) 1) (λ e. (g, here refl, eqb-true _ _ e))
      (λ e. let (x, i, m) = rec (rw e at h) in (x, there i, m))

  at_crosses : (gs : List ℕ) (g : ℕ) → In g gs → Marked s (link t 1 g) → crosses t s gs ≡ true
  unfolding crosses in_set
  at_crosses [] g i m = absurd (not-nil i)
  at_crosses (y ∷ gs) g i m =
      let rec = at_crosses gs g in
      test (eqb (get_or s (link t 1 y) 0) 1) (λ e. rw e) (λ e. rw e (rec (later e (in-cons i)) m))
    where
      later : eqb (get_or s (link t 1 y) 0) 1 ≡ false → (g ≡ y) ⊎ In g gs → In g gs
      later e = ⊎_elim (λ q. absurd (clash (eq-eqb _ _ (rw q at m)) e)) (λ i. i)

  -- "some g in S has g.1 in S", where s marks S
  pub crosses_some : (crosses t s (ones s) ≡ true) ↔ Crossing t s
  crosses_some = (
    λ h. let (g, i, m) = crosses_at (ones s) h in (g, ones_of s g i, m),
    λ c. at_crosses (ones s) c.0 (ones_in s c.0 c.1) c.2,
  )

  pub crosses_none : crosses t s (ones s) ≡ false → (x : ℕ) → In x (ones s) → In (link t 1 x) (ones s) → ⊥
  crosses_none h x i j = clash (at_crosses (ones s) x i (ones_of s (link t 1 x) j)) h
