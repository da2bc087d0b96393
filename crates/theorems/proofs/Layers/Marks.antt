-- The marks of a sheet S: "1 in S, 2 for other darts of cells that hold a dart of S", 3 for what touches these cells, "0
-- elsewhere" (marks_one, marks_two, marks_three, marks_zero). 1 and 2 mark whole cells (sheet_layer).
use Prim.Native.Nat.{ℕ, ◌≤◌, ◌<◌}
use mathlib.Core.Path.{◌≡◌, sym, ◌∙◌, subst}
use mathlib.Core.Logic.{◌⊎◌, inl, inr, ⊎_elim, ◌≢◌, ◌↔◌}
use mathlib.Core.Bool.{true, false}
use mathlib.Core.List.Memᴰ.{eq_of_singleton as sole}
use mathlib.Core.List.{List, [], ◌∷◌, Memᴰ as In}
use native.Mathlib.Omega.{arith}
use lib.ListN.{length, get_or, get_or-eq_default}
use lib.Dec.{eqb}
use borrow.Author.Tests.{eq-eqb, ne_eqb}
use Rattle.model.specs.Lists.{ones}
use Rattle.model.specs.Table.{slots, link, live}
use Rattle.model.specs.Reach.{steps, closure, in_set}
use Rattle.model.specs.Cell.{cell_words, cell_of}
use Rattle.model.specs.Sheet.{sheet, mark_of, mark_at, sheet_marks}
use Rattle.model.specs.Remove.{cell_mark, marked}
use Rattle.model.specs.Meaning.Maps.{MapTable}
use Rattle.model.specs.Meaning.Sets.{Least, Marked}
use Rattle.model.specs.Meaning.Sheets.{BlockDart, marks_of, InCells, Touches}
use Rattle.model.specs.Meaning.Walks.{Layer}
use Rattle.theorems.proofs.Lists.Scan.{or_i, test, if_eq, if_lt, clash, length_tab, get_or_tab}
use Rattle.theorems.proofs.Lists.Ones.{ones_of, ones_in}
use Rattle.theorems.proofs.Sets.Closure.{closure_least, marked_in}
use Rattle.theorems.proofs.Maps.Tables.{map_table, live_below}
use Rattle.theorems.proofs.Cells.Cell.{cell_own, cell_live, cell_goes}
use Rattle.theorems.proofs.Sewing.Side.{live_before}
use Rattle.theorems.proofs.Layers.Sheet.{sheet_least, sheet_own, sheet_live}

-- ---- the mark by what holds of a dart

module _ (n : ℕ) (t s c : List ℕ) (x : ℕ) where
  pub mark_within : Marked s x → mark_at n t s c x ≡ 1
  unfolding mark_at mark_of in_set
  mark_within h = rw (eq-eqb (get_or s x 0) 1 h, mark_of)

  module _ (out : Marked s x → ⊥) where
    pub mark_beside : Marked c x → mark_at n t s c x ≡ 2
    unfolding mark_at mark_of in_set
    mark_beside h = rw (ne_eqb (get_or s x 0) 1 out, eq-eqb (get_or c x 0) 1 h, mark_of)

    module _ (off : Marked c x → ⊥) where
      pub mark_touching : live t x ≡ true → Marked c (link t n x) → mark_at n t s c x ≡ 3
      unfolding mark_at mark_of in_set
      mark_touching l h =
          rw (ne_eqb (get_or s x 0) 1 out, ne_eqb (get_or c x 0) 1 off, l, eq-eqb (get_or c (link t n x) 0) 1 h, mark_of)

      pub mark_none : (live t x ≡ true → Marked c (link t n x) → ⊥) → mark_at n t s c x ≡ 0
      unfolding mark_at mark_of in_set
      mark_none no_lead = test (live t x)
          (λ l. rw (ne_eqb (get_or s x 0) 1 out, ne_eqb (get_or c x 0) 1 off, l, ne_eqb (get_or c (link t n x) 0) 1 (no_lead l), mark_of))
          (λ l. rw (ne_eqb (get_or s x 0) 1 out, ne_eqb (get_or c x 0) 1 off, l, mark_of))

-- ---- 1 or 2, and neither

marked_of : (m : List ℕ) (x : ℕ) → (get_or m x 0 ≡ 1) ⊎ (get_or m x 0 ≡ 2) → marked m x ≡ true
unfolding marked cell_mark
marked_of m x h =
    or_i (eqb (get_or m x 0) 1) (eqb (get_or m x 0) 2) (⊎_elim (λ e. inl (eq-eqb _ 1 e)) (λ e. inr (eq-eqb _ 2 e)) h)

pub unmarked_of : (m : List ℕ) (x : ℕ) → get_or m x 0 ≢ 1 → get_or m x 0 ≢ 2 → marked m x ≡ false
unfolding marked cell_mark
unmarked_of m x one two = rw (ne_eqb (get_or m x 0) 1 one, ne_eqb (get_or m x 0) 2 two)

-- ---- the marks of a sheet

module _ {n : ℕ} {t : List ℕ} {d : ℕ} (D : BlockDart n t d) where
  abbrev S : List ℕ
  S = sheet n t d

  abbrev T : MapTable n t
  T = map_table D.table

  abbrev m : List ℕ
  m = marks_of n t d

  abbrev cells : List ℕ
  cells = closure t (cell_words n) (ones S)

  cells_least : Least (steps t (cell_words n)) (slots t) (ones S) cells
  cells_least = closure_least t (cell_words n) (ones S)

  cell_least : (g : ℕ) → Least (steps t (cell_words n)) (slots t) (g ∷ []) (cell_of n t g)
  unfolding cell_of
  cell_least g = closure_least t (cell_words n) (g ∷ [])

  sheet_cell : (g : ℕ) → Marked S g → Marked (cell_of n t g) g
  sheet_cell g h = cell_own T g (sheet_live D g h)

  cells_of_lem : (x : ℕ) → Marked cells x → InCells n t S x
  cells_of_lem = cells_least.within (InCells n t S) (λ g i _. let h = ones_of S g i in (g, h, sheet_cell g h)) step
    where
      step : (x y : ℕ) → x < slots t → InCells n t S x → In y (steps t (cell_words n) x) → y < slots t → InCells n t S y
      step x y _ (g, h, c) i low = (g, h, (cell_least g).closed x y c i low)

  of_cells : (x : ℕ) → InCells n t S x → Marked cells x
  of_cells x (g, h, c) = (cell_least g).within (Marked cells)
      (λ y i low. cells_least.holds y (ones_in S y (subst (Marked S) (sym (sole i)) h)) low)
      (λ y z _ p i low. cells_least.closed y z p i low) x c

  -- the four cases of a dart, and its mark
  data Mark (x : ℕ) : Type 0 where
    within : Marked S x → get_or m x 0 ≡ 1 → Mark x
    beside : (Marked S x → ⊥) → InCells n t S x → get_or m x 0 ≡ 2 → Mark x
    touching : Touches n t S x → get_or m x 0 ≡ 3 → Mark x
    elsewhere : (InCells n t S x → ⊥) → (Touches n t S x → ⊥) → get_or m x 0 ≡ 0 → Mark x

  marks_long : length m ≡ slots t
  unfolding sheet_marks
  marks_long = length_tab (mark_at n t S cells) (slots t)

  mark_at_lem : (x : ℕ) → get_or m x 0 ≡ mark_at n t S cells x
  unfolding sheet_marks
  mark_at_lem x = if_lt x (slots t) (get_or_tab (mark_at n t S cells) (slots t) x 0) (λ high.
      get_or-eq_default m 0 (rw marks_long high)
      ∙ sym (mark_none n t S cells x (past S (sheet_least D).long high) (past cells cells_least.long high)
      (λ l. absurd (let low = live_below T x l in omega arith))))
    where
      past : (s : List ℕ) → length s ≡ slots t → slots t ≤ x → Marked s x → ⊥
      past s long high h = let low = marked_in s x h in omega arith

  mark_of_lem : (x : ℕ) → Mark x
  mark_of_lem x = if_eq (get_or S x 0) 1 (λ h. within h (mark_at_lem x ∙ mark_within n t S cells x h)) (λ h. if_eq (get_or cells x 0) 1
      (λ c. beside h (cells_of_lem x c) (mark_at_lem x ∙ mark_beside n t S cells x h c))
      (λ c. test (live t x)
      (λ l. if_eq (get_or cells (link t n x) 0) 1
      (λ e. touching (l, (λ i. c (of_cells x i)), cells_of_lem (link t n x) e) (mark_at_lem x ∙ mark_touching n t S cells x h c l e))
      (λ e. elsewhere (λ i. c (of_cells x i)) (λ k. e (of_cells (link t n x) k.2))
      (mark_at_lem x ∙ mark_none n t S cells x h c (λ _. e))))
      (λ l. elsewhere (λ i. c (of_cells x i)) (λ k. clash k.0 l)
      (mark_at_lem x ∙ mark_none n t S cells x h c (λ k. absurd (clash k l))))))

  own_cell : (x : ℕ) → Marked S x → InCells n t S x
  own_cell x h = (x, h, sheet_cell x h)

  pub marks_one : (x : ℕ) → (get_or (marks_of n t d) x 0 ≡ 1) ↔ Marked (sheet n t d) x
  marks_one x = go (mark_of_lem x)
    where
      go : Mark x → (get_or m x 0 ≡ 1) ↔ Marked S x
      go (within h e) = (λ _. h, λ _. e)
      go (beside h c e) = (λ f. absurd (omega arith), λ k. absurd (h k))
      go (touching p e) = (λ f. absurd (omega arith), λ k. absurd (p.1 (own_cell x k)))
      go (elsewhere c p e) = (λ f. absurd (omega arith), λ k. absurd (c (own_cell x k)))

  pub marks_two : (x : ℕ) → (get_or (marks_of n t d) x 0 ≡ 2) ↔ ((Marked (sheet n t d) x → ⊥) × InCells n t (sheet n t d) x)
  marks_two x = go (mark_of_lem x)
    where
      go : Mark x → (get_or m x 0 ≡ 2) ↔ ((Marked S x → ⊥) × InCells n t S x)
      go (within h e) = (λ f. absurd (omega arith), λ k. absurd (k.0 h))
      go (beside h c e) = (λ _. (h, c), λ _. e)
      go (touching p e) = (λ f. absurd (omega arith), λ k. absurd (p.1 k.1))
      go (elsewhere c p e) = (λ f. absurd (omega arith), λ k. absurd (c k.1))

  pub marks_three : (x : ℕ) → (get_or (marks_of n t d) x 0 ≡ 3) ↔ Touches n t (sheet n t d) x
  marks_three x = go (mark_of_lem x)
    where
      go : Mark x → (get_or m x 0 ≡ 3) ↔ Touches n t S x
      go (within h e) = (λ f. absurd (omega arith), λ k. absurd (k.1 (own_cell x h)))
      go (beside h c e) = (λ f. absurd (omega arith), λ k. absurd (k.1 c))
      go (touching p e) = (λ _. p, λ _. e)
      go (elsewhere c p e) = (λ f. absurd (omega arith), λ k. absurd (p k))

  pub marks_zero : (x : ℕ) → (get_or (marks_of n t d) x 0 ≡ 0)
      ↔ ((Marked (sheet n t d) x → ⊥) × (InCells n t (sheet n t d) x → ⊥) × (Touches n t (sheet n t d) x → ⊥))
  marks_zero x = go (mark_of_lem x)
    where
      go : Mark x → (get_or m x 0 ≡ 0) ↔ ((Marked S x → ⊥) × (InCells n t S x → ⊥) × (Touches n t S x → ⊥))
      go (within h e) = (λ f. absurd (omega arith), λ k. absurd (k.0 h))
      go (beside h c e) = (λ f. absurd (omega arith), λ k. absurd (k.1 c))
      go (touching p e) = (λ f. absurd (omega arith), λ k. absurd (k.2 p))
      go (elsewhere c p e) = (λ _. ((λ h. c (own_cell x h)), c, p), λ _. e)

  -- 1 or 2 exactly in the cells that hold a dart of S
  pub marks_cells : (x : ℕ) → (marked (marks_of n t d) x ≡ true) ↔ InCells n t (sheet n t d) x
  marks_cells x = go (mark_of_lem x)
    where
      neither : get_or m x 0 ≢ 1 → get_or m x 0 ≢ 2 → (InCells n t S x → ⊥) → (marked m x ≡ true) ↔ InCells n t S x
      neither one two c = (λ k. absurd (clash k (unmarked_of m x one two)), λ i. absurd (c i))

      go : Mark x → (marked m x ≡ true) ↔ InCells n t S x
      go (within h e) = (λ _. own_cell x h, λ _. marked_of m x (inl e))
      go (beside h c e) = (λ _. c, λ _. marked_of m x (inr e))
      go (touching p e) = neither (λ f. omega arith) (λ f. omega arith) p.1
      go (elsewhere c p e) = neither (λ f. omega arith) (λ f. omega arith) c

  -- outside is 0 or 3
  pub marks_outside : (x : ℕ) → (marked (marks_of n t d) x ≡ false)
      ↔ ((get_or (marks_of n t d) x 0 ≡ 0) ⊎ (get_or (marks_of n t d) x 0 ≡ 3))
  marks_outside x = go (mark_of_lem x)
    where
      inside : marked m x ≡ true → get_or m x 0 ≢ 0 → get_or m x 0 ≢ 3 → (marked m x ≡ false) ↔ ((get_or m x 0 ≡ 0) ⊎ (get_or m x 0 ≡ 3))
      inside h zero three = (λ k. absurd (clash h k), λ k. absurd (⊎_elim zero three k))

      go : Mark x → (marked m x ≡ false) ↔ ((get_or m x 0 ≡ 0) ⊎ (get_or m x 0 ≡ 3))
      go (within h e) = inside (marked_of m x (inl e)) (λ f. omega arith) (λ f. omega arith)
      go (beside h c e) = inside (marked_of m x (inr e)) (λ f. omega arith) (λ f. omega arith)
      go (touching p e) = (λ _. inr e, λ _. unmarked_of m x (λ f. omega arith) (λ f. omega arith))
      go (elsewhere c p e) = (λ _. inl e, λ _. unmarked_of m x (λ f. omega arith) (λ f. omega arith))

  pub marks_own : marked (marks_of n t d) d ≡ true
  marks_own = (marks_cells d).1 (own_cell d (sheet_own D))

  pub sheet_layer : Layer n t (marks_of n t d)
  sheet_layer = record {
    table = D.table;
    long = marks_long;
    lives = lives;
    closed = λ x j low h. let (g, i, c) = (marks_cells x).0 h in
        (marks_cells (link t j x)).1 (g, i, cell_goes T g (sheet_live D g i) x j c low);
    touched = λ x h e.
        let (_, off, apart) = (marks_zero x).0 e in
        apart (live_before T x n (omega arith) (lives (link t n x) h), off, (marks_cells (link t n x)).0 h);
  }
    where
      lives : (x : ℕ) → marked m x ≡ true → live t x ≡ true
      lives x h = let (g, i, c) = (marks_cells x).0 h in cell_live T g (sheet_live D g i) x c
