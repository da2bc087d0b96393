-- The other darts of the cells marked along the queue: none (`settling_none`), one dart (`settling_other`), those beside a dart of the sheet (`settling_beside`),
-- beside some words (`settling_to`), beside a group (`settling_group`); along all of the queue the marks are settled (`settled_all`).
use Prim.Native.Nat.{ℕ, zero, suc, ◌+◌, ◌*◌, ◌≤◌, ◌<◌}
use mathlib.Core.Path.{◌≡◌, sym, ap, ◌∙◌}
use mathlib.Core.Logic.{inl, inr, ◌≢◌, ⊎_elim}
use mathlib.Core.Bool.{true}
use mathlib.Core.List.{List}
use native.Mathlib.Omega.{arith}
use lib.ListN.{get_or}
use Rattle.model.specs.Table.{slots, link, live}
use Rattle.model.specs.Cell.{cell_size}
use Rattle.model.specs.Numbering.{cell_link}
use Rattle.model.specs.Sheet.{sheet, sheet_marks}
use Rattle.model.specs.Meaning.Maps.{MapTable}
use Rattle.model.specs.Meaning.Sets.{Marked, LeastSet, SheetStep}
use Rattle.model.specs.Meaning.Places.{place}
use Rattle.model.specs.Meaning.Sheets.{BlockDart, InCells, half}
use Rattle.theorems.proofs.Lists.Scan.{if_eq, if_lt}
use Rattle.theorems.proofs.Lists.Ones.{ones_of, ones_in}
use Rattle.theorems.proofs.Sets.Least.{sheet_is}
use Rattle.theorems.proofs.Maps.Tables.{map_table, live_below, rule_at}
use Rattle.theorems.proofs.Cells.Rows.{rows_in}
use Rattle.theorems.proofs.Cells.Cell.{cell_own, cell_goes, cell_live, all_places}
use Rattle.theorems.proofs.Cells.Chart.{place_chart}
use Rattle.theorems.proofs.Layers.Walk.{link_live, link_back}
use Rattle.theorems.proofs.Layers.Sheet.{sheet_live, sheet_of}
use Rattle.theorems.proofs.Layers.Half.{in_half_lem, out_turns}
use Rattle.sheets.specs.Spread.{Inner, Other}
use Rattle.sheets.proofs.Marks.{Marked-on, marked_on}
use Rattle.sheets.proofs.Layers.{Settling, settled_marks}
use Rattle.picks.specs.Queued.{group, Queued}
use Rattle.picks.specs.Beside.{Beside, BesideTo, GroupBeside}
use Rattle.picks.proofs.Alike.{group_in}

-- r are marks that go on from m
pub record Goes (n : ℕ) (t : List ℕ) (d : ℕ) (m r : List ℕ) : Type 0 where
  pub settling : Settling n t d r
  pub kept : (x : ℕ) → Inner m x → Inner r x

-- what is beside x in its cell has the mark 1 or 2
abbrev pub Done : ℕ → List ℕ → List ℕ → ℕ → Type 0
Done n t m x = Inner m (link t 1 x) × (n ≡ 3 → Inner m (link t 2 (link t 1 x)))

goes_on : {n : ℕ} {t : List ℕ} {d : ℕ} {m q r : List ℕ} → Goes n t d m q → Goes n t d q r → Goes n t d m r
goes_on P Q = record { settling = Q.settling; kept = λ x e. Q.kept x (P.kept x e) }

module _ {n : ℕ} {t : List ℕ} {d : ℕ} (D : BlockDart n t d) where
  abbrev S : List ℕ
  S = sheet n t d

  abbrev T : MapTable n t
  T = map_table D.table

  -- where only the sheet has marks
  pub settling_none : Settling n t d (sheet n t d)
  settling_none = record {
    long = I.long;
    few = λ x. ⊎_elim (λ e. omega arith) (λ e. omega arith) (I.bits x);
    ones = λ x. (λ e. e, λ e. e);
    cells = λ x e. ⊎_elim (λ one. (x, one, cell_own T x (sheet_live D x one))) (λ two. absurd (bit x 2 (omega arith) two)) e;
    outer = λ x e. absurd (bit x 3 (omega arith) e);
    led = λ x e. absurd (bit x 2 (omega arith) e);
  }
    where
      I : LeastSet (slots t) (λ x. x ≡ d) (SheetStep n t) S
      I = sheet_is n t d

      bit : (x v : ℕ) → 1 < v → get_or S x 0 ≡ v → ⊥
      bit x v h e = ⊎_elim (λ zero. omega arith) (λ one. omega arith) (I.bits x)

  cell_alive : (y : ℕ) → InCells n t S y → live t y ≡ true
  cell_alive y (g, s, c) = cell_live T g (sheet_live D g s) y c

  module _ {m : List ℕ} (P : Settling n t d m) (y : ℕ) (inside : InCells n t (sheet n t d) y) where
    alive : live t y ≡ true
    alive = cell_alive y inside

    -- y has got the mark 2
    module _ {r : List ℕ} (new : get_or m y 0 ≢ 1) (Q : Marked-on m y (link t n y) r) where
      inner_kept : (x : ℕ) → Inner m x → Inner r x
      inner_kept x e = if_eq x y (λ is. inr (rw is Q.own)) (λ is. ⊎_elim
          (λ same. ⊎_elim (λ one. inl (same ∙ one)) (λ two. inr (same ∙ two)) e)
          (λ (_, none, _). absurd (⊎_elim (λ one. omega arith) (λ two. omega arith) e)) (Q.other x is))

      inner_cases : (x : ℕ) → x ≢ y → Inner r x → Inner m x
      inner_cases x is e = ⊎_elim (λ same. ⊎_elim (λ one. inl (sym same ∙ one)) (λ two. inr (sym same ∙ two)) e)
          (λ (_, _, three). absurd (⊎_elim (λ one. omega arith) (λ two. omega arith) e)) (Q.other x is)

      some_kept : (x : ℕ) → get_or m x 0 ≢ 0 → get_or r x 0 ≢ 0
      some_kept x some gone = if_eq x y
          (λ is. let two = Q.own in let none : get_or r y 0 ≡ 0 = rw is at gone in omega arith)
          (λ is. ⊎_elim (λ same. some (sym same ∙ gone)) (λ (_, none, _). some none) (Q.other x is))

      ones_next : (x : ℕ) → get_or r x 0 ≡ 1 → Marked S x
      ones_next x e = if_eq x y (λ is. absurd (let two = Q.own in let one : get_or r y 0 ≡ 1 = rw is at e in omega arith))
          (λ is. ⊎_elim (λ same. (P.ones x).0 (sym same ∙ e)) (λ (_, _, three). absurd (omega arith)) (Q.other x is))

      ones_back : (x : ℕ) → Marked S x → get_or r x 0 ≡ 1
      ones_back x s =
          let one = (P.ones x).1 s in
          if_eq x y (λ is. absurd (new (rw is at one)))
          (λ is. ⊎_elim (λ same. same ∙ one) (λ (_, none, _). absurd (omega arith)) (Q.other x is))

      outer_next : (x : ℕ) → get_or r x 0 ≡ 3 → (live t x ≡ true) × Inner r (link t n x)
      outer_next x e = if_eq x y (λ is. absurd (let two = Q.own in let three : get_or r y 0 ≡ 3 = rw is at e in omega arith))
          (λ is. ⊎_elim (λ same. let (l, i) = P.outer x (sym same ∙ e) in (l, inner_kept _ i))
          (λ (to, _, _). (rw to (link_live D.table y alive), rw (to, link_back D.table y alive) (inr Q.own))) (Q.other x is))

      led_next : (x : ℕ) → get_or r x 0 ≡ 2 → get_or r (link t n x) 0 ≢ 0
      led_next x e = if_eq x y (λ is. rw is Q.there)
          (λ is. ⊎_elim (λ same. some_kept _ (P.led x (sym same ∙ e))) (λ (_, _, three). absurd (omega arith)) (Q.other x is))

      few_next : (x : ℕ) → get_or r x 0 ≤ 3
      few_next x = if_eq x y (λ is. rw is (let two = Q.own in omega arith))
          (λ is. let few = P.few x in ⊎_elim (λ same. omega arith) (λ (_, _, three). omega arith) (Q.other x is))

      goes_new : Goes n t d m r
      goes_new = record {
        settling = record {
          long = Q.long ∙ P.long;
          few = few_next;
          ones = λ x. (ones_next x, ones_back x);
          cells = λ x e. if_eq x y (λ is. rw is inside) (λ is. P.cells x (inner_cases x is e));
          outer = outer_next;
          led = led_next;
        };
        kept = inner_kept;
      }

    settling_other : (r : List ℕ) → Other n t m y r → Goes n t d m r × Inner r y
    settling_other r h = ⊎_elim (λ (one, e). rw e (record { settling = P; kept = λ x i. i }, inl one)) (λ (new, to).
        let long = P.long in
        let low = live_below T y alive in
        let over = live_below T _ (link_live D.table y alive) in
        let Q = marked_on m y (link t n y) (omega arith) (omega arith) new r to in
        (goes_new new Q, inr Q.own)) h

  -- ---- beside a dart of the sheet

  own_cell : (x : ℕ) → Marked S x → InCells n t S x
  own_cell x s = (x, s, cell_own T x (sheet_live D x s))

  next_cell : (x j : ℕ) → j < n → InCells n t S x → InCells n t S (link t j x)
  next_cell x j h (g, s, c) = (g, s, cell_goes T g (sheet_live D g s) x j c h)

  settling_beside : {m : List ℕ} → Settling n t d m → (x : ℕ) → Marked (sheet n t d) x → (r : List ℕ) → Beside n t m x r
      → Goes n t d m r × Done n t r x
  settling_beside P x s r (q, first, second) =
      let two = D.table.dim.0 in
      let near = next_cell x 1 (omega arith) (own_cell x s) in
      let (G, one) = settling_other P (link t 1 x) near q first in
      ⊎_elim
      (λ (three, to).
      let (H, end) = settling_other G.settling (link t 2 (link t 1 x)) (next_cell _ 2 (omega arith) near) r to in
      (goes_on G H, (H.kept _ one, λ _. end)))
      (λ (other, e). rw e (G, (one, λ three. absurd (other three)))) second

  settling_to : {m : List ℕ} → Settling n t d m → (w : List ℕ) (a k : ℕ) → ((j : ℕ) → j < k → Marked (sheet n t d) (get_or w (a + j) 0))
      → (r : List ℕ) → BesideTo n t m w a k r → Goes n t d m r × ((j : ℕ) → j < k → Done n t r (get_or w (a + j) 0))
  settling_to P w a zero s r e = rw e (record { settling = P; kept = λ x i. i }, λ j h. absurd (omega arith))
  settling_to P w a (suc k) s r (q, before, last) =
      let (G, all) = settling_to P w a k (λ j h. s j (omega arith)) q before in
      let (H, end) = settling_beside G.settling _ (s k (omega arith)) r last in (
        goes_on G H,
        λ j h. if_eq j k (λ is. rw is end) (λ is.
            let (one, two) = all j (omega arith) in
            (H.kept _ one, λ three. H.kept _ (two three))),
      )

  -- ---- beside a group, and beside all

  module _ {m w : List ℕ} {k : ℕ} (P : Settling n t d m) (Q : Queued n t d w k) where
    pub settling_group : (c : ℕ) → group n * c < k → (r : List ℕ) → GroupBeside n t m w (group n * c) r
        → Goes n t d m r × ((j : ℕ) → j < group n → Done n t r (get_or w (group n * c + j) 0))
    settling_group c low r h = ⊎_elim
        (λ (one, e). rw e (
          record { settling = P; kept = λ x i. i },
          λ j hj.
              let y = link t 1 (get_or w (group n * c + j) 0) in
              let s = Q.alike c j hj (room j hj) ((P.ones _).0 one) in
              (inl ((P.ones y).1 s), λ three. inl ((P.ones _).1 (ones_of S (link t 2 y) ((sheet_of D).far y 2 (omega arith) (omega arith) (ones_in S y s))))),
        ))
        (λ (_, to). settling_to P w (group n * c) (group n) (λ j hj. Q.within _ (room j hj)) r to) h
      where
        room : (j : ℕ) → j < group n → group n * c + j < k
        room j hj = let (z, is) = Q.cells in let enough = group_in n D.table.dim c z (omega arith) in omega arith

    pub settled_all : ((i : ℕ) → i < k → Done n t m (get_or w i 0)) → m ≡ sheet_marks n t (sheet n t d)
    settled_all all = settled_marks D P inner
      where
        -- a dart of the sheet is a word, so what is beside it has a mark
        beside : (y : ℕ) → Marked S y → Done n t m y
        beside y s = let (i, h, is) = Q.all y s in rw is (all i h)

        back : (x j : ℕ) → j < 4 → live t x ≡ true → link t j (link t j x) ≡ x
        back x j h l = (rule_at T x l).comes j h

        inner : (x : ℕ) → InCells n t S x → Inner m x
        inner x (g, s, in_Cell) =
            let lg = sheet_live D g s in
            let follow = (place_chart D.table g lg).follow in
            let (p, low, is) = all_places T g lg follow x in_Cell in
            let lx = cell_live T g lg x in_Cell in
            let first : (q : ℕ) → q < half n → Marked S (place n t g q) =
            λ q h. ones_of S _ (in_half_lem D.table (sheet_of D) g q (ones_in S g s) h) in
            let two = D.table.dim.0 in
            let link_is : (j q : ℕ) → j < n → q < cell_size n → link t j (place n t g q) ≡ place n t g (cell_link n j q) = follow in
            if_lt p (half n) (λ h. inl ((P.ones x).1 (rw is (first p h)))) (λ h. ⊎_elim
            (λ a.
            let y : link t 1 x ≡ place n t g (cell_link n 1 p) = ap (link t 1) is ∙ link_is 1 p (omega arith) low in
            let same : link t 1 (link t 1 x) ≡ x = back x 1 (omega arith) lx in
            rw same at (beside (link t 1 x) (rw y (first _ a))).0)
            (λ (three, a).
            let l2 = (rule_at T x lx).goes 2 (omega arith) in
            let z : link t 2 x ≡ place n t g (cell_link n 2 p) = ap (link t 2) is ∙ link_is 2 p (omega arith) low in
            let y : link t 1 (link t 2 x) ≡ place n t g (cell_link n 1 (cell_link n 2 p)) =
            ap (link t 1) z ∙ link_is 1 _ (omega arith) (rows_in n 2 p D.table.dim (omega arith) low) in
            let near : link t 1 (link t 1 (link t 2 x)) ≡ link t 2 x = back (link t 2 x) 1 (omega arith) l2 in
            let same : link t 2 (link t 2 x) ≡ x = back x 2 (omega arith) lx in
            rw (near, same) at ((beside (link t 1 (link t 2 x)) (rw y (first _ a))).1 three))
            (out_turns n D.table.dim p h low))
