-- Marks that are settled are those that the model says (`settled_marks`); ones that are closed are the sheet (`closed_all`, `closed_size`). No
-- dart waits: so the marks are settled then (`spread_marks`), and the darts found are the sheet (`found_size`).
use Prim.Native.Nat.{ℕ, ◌≤◌, ◌<◌}
use mathlib.Core.Path.{◌≡◌, sym, ◌∙◌}
use mathlib.Core.Logic.{inl, inr, ◌≢◌, ◌↔◌, ⊎_elim}
use mathlib.Core.Bool.{true}
use mathlib.Core.List.{List}
use native.Mathlib.Omega.{arith}
use lib.ListN.{length, get_or}
use lib.Seq.{ext_get_or}
use Rattle.model.specs.Lists.{count}
use Rattle.model.specs.Table.{slots, link, live}
use Rattle.model.specs.Sheet.{sheet, sheet_marks}
use Rattle.model.specs.Meaning.Maps.{MapTable}
use Rattle.model.specs.Meaning.Sets.{Marked, SheetStep, along, across, beside}
use Rattle.model.specs.Meaning.Places.{place}
use Rattle.model.specs.Meaning.Sheets.{BlockDart, InCells, Touches, half}
use Rattle.theorems.proofs.Lists.Scan.{if_eq}
use Rattle.theorems.proofs.Lists.Ones.{ones_of, ones_in}
use Rattle.theorems.proofs.Sets.Least.{cell_is, sheet_is}
use Rattle.theorems.proofs.Sets.Sizes.{size_into}
use Rattle.theorems.proofs.Maps.Tables.{map_table}
use Rattle.theorems.proofs.Cells.Cell.{cell_own}
use Rattle.theorems.proofs.Layers.Walk.{link_back}
use Rattle.theorems.proofs.Layers.Sheet.{sheet_live, sheet_of}
use Rattle.theorems.proofs.Layers.Marks.{marks_one, marks_two, marks_three, marks_zero, sheet_layer}
use Rattle.sheets.specs.Spread.{Inner}
use Rattle.sheets.specs.Found.{Awaits, Spreading}
use Rattle.sheets.proofs.Halves.{half_along, half_across, half_beside}

-- ---- the marks of a sheet, settled

-- 1 at the darts of the sheet of d, 2 only in its cells; 3 leads to a 1 or a 2, and from a 2 no link n leads to a 0
pub record Settling (n : ℕ) (t : List ℕ) (d : ℕ) (m : List ℕ) : Type 0 where
  pub long : length m ≡ slots t
  pub few : (x : ℕ) → get_or m x 0 ≤ 3
  pub ones : (x : ℕ) → (get_or m x 0 ≡ 1) ↔ Marked (sheet n t d) x
  pub cells : (x : ℕ) → Inner m x → InCells n t (sheet n t d) x
  pub outer : (x : ℕ) → get_or m x 0 ≡ 3 → (live t x ≡ true) × Inner m (link t n x)
  pub led : (x : ℕ) → get_or m x 0 ≡ 2 → get_or m (link t n x) 0 ≢ 0

module _ {n : ℕ} {t : List ℕ} {d : ℕ} (D : BlockDart n t d) where
  abbrev S : List ℕ
  S = sheet n t d

  abbrev T : MapTable n t
  T = map_table D.table

  -- and 1 or 2 at all darts of its cells
  module _ {m : List ℕ} (P : Settling n t d m) (inner : (x : ℕ) → InCells n t (sheet n t d) x → Inner m x) where
    own : (x : ℕ) → Marked S x → InCells n t S x
    own x s = (x, s, cell_own T x (sheet_live D x s))

    outside : (x : ℕ) → get_or m x 0 ≢ 1 → get_or m x 0 ≢ 2 → InCells n t S x → ⊥
    outside x one two i = ⊎_elim one two (inner x i)

    -- what touches the cells has a mark: link n leads to it from a 2, since from a 1 it leads to a 1
    touches_some : (x : ℕ) → Touches n t S x → get_or m x 0 ≢ 0
    touches_some x (l, off, i) z = ⊎_elim
        (λ one. off (own x (rw back at
        (ones_of S (link t n y) ((sheet_of D).far y n D.table.dim.0 (omega arith) (ones_in S y ((P.ones y).0 one)))))))
        (λ two. P.led y two (rw back z)) (inner y i)
      where
        y : ℕ
        y = link t n x

        back : link t n y ≡ x
        back = link_back D.table x l

    mark_at_lem : (x : ℕ) → get_or m x 0 ≡ get_or (sheet_marks n t S) x 0
    mark_at_lem x = if_eq (get_or m x 0) 1 (λ one. one ∙ sym ((marks_one D x).1 ((P.ones x).0 one))) (λ one.
        let apart : Marked S x → ⊥ = λ s. one ((P.ones x).1 s) in
        if_eq (get_or m x 0) 2 (λ two. two ∙ sym ((marks_two D x).1 (apart, P.cells x (inr two)))) (λ two.
        if_eq (get_or m x 0) 3
        (λ three.
        let (l, in_Cell) = P.outer x three in
        three ∙ sym ((marks_three D x).1 (l, outside x one two, P.cells (link t n x) in_Cell)))
        (λ three.
        let few = P.few x in
        let none : get_or m x 0 ≡ 0 = omega arith in
        none ∙ sym ((marks_zero D x).1 (apart, outside x one two, λ k. touches_some x k none)))))

    pub settled_marks : m ≡ sheet_marks n t (sheet n t d)
    settled_marks = ext_get_or 0 m (sheet_marks n t S) (P.long ∙ sym (sheet_layer D).long) (λ x _. mark_at_lem x)

  -- ---- all of a sheet

  -- the ones are darts of the sheet, closed under its steps, with d
  pub record Closed (m : List ℕ) : Type 0 where
    pub within : (x : ℕ) → get_or m x 0 ≡ 1 → Marked (sheet n t d) x
    pub firsts : (x p : ℕ) → get_or m x 0 ≡ 1 → p < half n → get_or m (place n t x p) 0 ≡ 1
    pub over : (x : ℕ) → get_or m x 0 ≡ 1 → get_or m (link t n x) 0 ≡ 1
    pub begun : get_or m d 0 ≡ 1

  module _ {m : List ℕ} (P : Closed m) where
    step_one : (x y : ℕ) → get_or m x 0 ≡ 1 → SheetStep n t x y → get_or m y 0 ≡ 1
    step_one x y one s = go s
      where
        l : live t x ≡ true
        l = sheet_live D x (P.within x one)

        first : {z : ℕ} → (p : ℕ) × (p < half n) × (z ≡ place n t x p) → get_or m z 0 ≡ 1
        first (p, h, e) = rw e (P.firsts x p one h)

        far : (j : ℕ) → j ≤ n → 2 ≤ j → get_or m (link t j x) 0 ≡ 1
        far j top two = if_eq j n (λ e. rw e (P.over x one)) (λ e.
            let three = D.table.dim.1 in
            let is : j ≡ 2 = omega arith in
            rw is (first (half_beside D.table x l (omega arith))))

        go : SheetStep n t x y → get_or m y 0 ≡ 1
        go (along e) = rw e (first (half_along D.table x l))
        go (across e) = rw e (first (half_across D.table x l))
        go (beside b) = rw b.leads (far b.by b.allowed.0 b.allowed.1)

    pub closed_all : (x : ℕ) → Marked (sheet n t d) x → get_or m x 0 ≡ 1
    closed_all = (sheet_is n t d).within (λ x. get_or m x 0 ≡ 1) (λ x e _. rw e P.begun) (λ x y _ one s _. step_one x y one s)

    pub closed_size : count 1 m ≡ count 1 (sheet n t d)
    closed_size =
        let less = size_into (λ x. x) m S (λ x y _ _ e. e) (λ x e. P.within x e) in
        let more = size_into (λ x. x) S m (λ x y _ _ e. e) (λ x e. closed_all x e) in
        omega arith

  -- ---- no dart waits

  module _ {m w : List ℕ} {found : ℕ} (P : Spreading n t d m w 0 found) where
    ended : {A : Type 0} (y : ℕ) → Awaits n t w 0 y → A
    ended y (i, _, h, _, _) = absurd (omega arith)

    closed : Closed m
    closed = record {
      within = P.within;
      firsts = P.firsts;
      over = λ x one. ⊎_elim (λ h. h) (ended (link t n x)) (P.across x one);
      begun = ⊎_elim (λ h. h) (ended d) P.begun;
    }

    all_inner : (x : ℕ) → InCells n t S x → Inner m x
    all_inner x (g, s, c) = (cell_is n t g).within (Inner m) (λ y e _. rw e (inl (closed_all closed g s)))
        (λ y z _ h b _. rw b.leads (P.whole y b.by b.allowed h)) x c

    pub spread_marks : m ≡ sheet_marks n t (sheet n t d)
    spread_marks = settled_marks (record {
      long = P.long;
      few = P.few;
      ones = λ x. (P.within x, closed_all closed x);
      cells = P.cells;
      outer = P.outer;
      led = P.led;
    }) all_inner

    pub found_size : found ≡ count 1 (sheet n t d)
    found_size = P.number ∙ closed_size closed
