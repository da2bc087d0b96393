-- The sheet through the new crossing edges, those of q in 2D and of r in 3D: it has the new dart of that role of each dart of the wall,
-- and no other (`crossing_sheet`), and its cells are the new darts (`crossing_cells`). The walk of remove from p(h) goes over the
-- wall (`walk_p`).
use Prim.Native.Nat.{ℕ, zero, suc, ◌+◌, ◌-◌, ◌≤◌, ◌<◌}
use mathlib.Core.Path.{◌≡◌, refl, sym, ap, ap₂, ◌∙◌, subst}
use mathlib.Core.Logic.{◌↔◌}
use mathlib.Core.Bool.{Bool, true, false, ◌&&◌}
use mathlib.Core.List.Memᴰ.{cast as in-cast}
use mathlib.Core.List.{List, [], ◌∷◌, ◌++◌, Memᴰ as In}
use native.Mathlib.Nat.{le_refl}
use native.Mathlib.Omega.{arith}
use lib.Dec.{eqb, ltb}
use borrow.Author.Tests.{eqb-true, ltb-true}
use Rattle.model.specs.Lists.{all_below}
use Rattle.model.specs.Table.{slots, link, walk, live}
use Rattle.model.specs.Cell.{cell_of}
use Rattle.model.specs.Sheet.{sheet}
use Rattle.model.specs.Remove.{opposite, marked}
use Rattle.model.specs.NewDarts.{new_dart}
use Rattle.model.specs.Insert.{laid}
use Rattle.model.specs.Meaning.Maps.{BlockTable, Dim}
use Rattle.model.specs.Meaning.Sets.{Marked, SheetStep, along, across, beside}
use Rattle.model.specs.Meaning.Sheets.{BlockDart, marks_of, InCells}
use Rattle.model.specs.Meaning.Splits.{IsNew}
use Rattle.model.specs.Meaning.Walls.{Clear, Joined}
use Rattle.theorems.proofs.Lists.Scan.{if_eq, and_l, and_r, below_at, below_both}
use Rattle.theorems.proofs.Sets.Least.{cell_is, sheet_is}
use Rattle.theorems.proofs.Maps.Dim.{two_cases}
use Rattle.theorems.proofs.Maps.Tables.{map_table, live_below}
use Rattle.theorems.proofs.Cells.Places.{same, same_eq}
use Rattle.theorems.proofs.Cells.Rows.{small, walk_keeps}
use Rattle.theorems.proofs.Cells.Cell.{cell_own, cell_goes}
use Rattle.theorems.proofs.Layers.Marks.{marks_cells}
use Rattle.theorems.proofs.Layers.NewDarts.{new_in, slot_new}
use Rattle.theorems.proofs.Layers.Roles.{role_dart, last_role, live_role, role_end, role_path, leads, all_lead, lead_low, role_walk}
use Rattle.theorems.proofs.Layers.SplitRole.{opposed}
use Rattle.theorems.proofs.Insert.Laid.{Laying, spread}
use Rattle.theorems.proofs.Insert.Role.{spell, letter_next, letter_link, keeps_wall, spell_keeps}
use Rattle.theorems.proofs.Insert.Role.{role_to, role_word, role_link}
use Rattle.theorems.proofs.Insert.Table.{layer_rows, computed, layer_roles, laid_table, laid_live}
use Rattle.theorems.proofs.Insert.Cells.{laid_block}

-- ---- the moves of the last role, computed

-- from the role r the word v leads to the role q, and over the wall by the word w
unfoldable pub moves : ℕ → ℕ → List ℕ → ℕ → List ℕ → Bool
moves n r v q w = all_lead n (layer_rows n) v r && (eqb (role_end (layer_rows n) v r) q && same (role_path (layer_rows n) v r) w)

-- the steps of a sheet from the last role: link 0 over link n, 1.0.1 over link 0, link n over next, for n = 3 link 2 over link 1
record Moves (n : ℕ) : Type 0 where
  by_edge : moves n n (0 ∷ []) n (n ∷ []) ≡ true
  by_opposite : moves n n opposed n (0 ∷ []) ≡ true
  by_last : moves n n (n ∷ []) n (4 ∷ []) ≡ true

cross_moves : (n : ℕ) → Dim n → Moves n
unfolding computed moves
cross_moves n dim = two_cases n dim Moves
    (record { by_edge = refl; by_opposite = refl; by_last = refl }) (record { by_edge = refl; by_opposite = refl; by_last = refl })

cross_beside : moves 3 3 (2 ∷ []) 3 (1 ∷ []) ≡ true
unfolding computed moves
cross_beside = refl

-- the word from the last role to the role r of the same dart
to_role : ℕ → ℕ → List ℕ
to_role n r = elim (eqb r n) [
  | true ↦ []
  | false ↦ (elim (eqb n 3) [
    | true ↦ (elim (eqb r 2) [ true ↦ 1 ∷ [] | false ↦ 1 ∷ 2 ∷ [] ])
    | false ↦ 1 ∷ []
  ])
]

comes_to : ℕ → ℕ → Bool
comes_to n r = small n (to_role n (suc r)) && moves n n (to_role n (suc r)) (suc r) []

comes_to_lem : (n : ℕ) → Dim n → all_below n (comes_to n) ≡ true
unfolding computed moves comes_to to_role small
comes_to_lem n dim = two_cases n dim (λ n. all_below n (comes_to n) ≡ true) refl refl

-- a link below n leads from a new dart to a new dart
stays_new : ℕ → ℕ → ℕ → Bool
stays_new n r j = leads n (layer_rows n) (suc r) j && ltb 0 (role_to n (suc r) j)

stays_new_lem : (n : ℕ) → Dim n → all_below n (λ r. all_below n (stays_new n r)) ≡ true
unfolding computed stays_new
stays_new_lem n dim = two_cases n dim (λ n. all_below n (λ r. all_below n (stays_new n r)) ≡ true) refl refl

-- the walk of remove from p: to the opposite side, and over link n to the dart of the wall over link n
walk_over : (n : ℕ) → Dim n → moves n 1 (opposite n ++ (n ∷ [])) 0 (n ∷ []) ≡ true
unfolding computed moves
walk_over n dim = two_cases n dim (λ n. moves n 1 (opposite n ++ (n ∷ [])) 0 (n ∷ []) ≡ true) refl refl

module _ {n : ℕ} {t hs fs : List ℕ} {nx : ℕ → ℕ} (C : Laying n t hs fs nx) where
  abbrev after : List ℕ
  after = laid n t hs fs nx

  abbrev role : ℕ → ℕ → ℕ
  role = role_dart n hs fs

  abbrev dim : Dim n
  dim = C.table.dim

  moved : (r q : ℕ) (v w : List ℕ) → moves n r v q w ≡ true → r ≤ n → (h : ℕ) → In h hs → walk after v (role r h) ≡ role q (spell t nx w h)
  unfolding moves
  moved r q v w m b h i =
      let ends = eqb (role_end (layer_rows n) v r) q in
      let word = same (role_path (layer_rows n) v r) w in
      let rest : (ends && word) ≡ true = and_r (all_lead n (layer_rows n) v r) (ends && word) m in
      role_walk (layer_roles C) v r h (and_l (all_lead n (layer_rows n) v r) (ends && word) m) b i
      ∙ ap₂ role (eqb-true _ _ (and_l ends word rest)) (ap (λ (w : List ℕ). spell t nx w h) (same_eq _ w (and_r ends word rest)))

  -- ---- the sheet

  abbrev pub crossing : ℕ → ℕ
  crossing h = role_dart n hs fs n h

  pub crossing_new : (h : ℕ) → crossing h ≡ new_dart n hs fs (n - 1) h
  crossing_new = last_role n dim hs fs

  module _ (h : ℕ) (i : In h hs) where
    cross_along : link after 0 (crossing h) ≡ crossing (link t n h)
    unfolding walk spell
    cross_along = let top = dim.1 in
        moved n n (0 ∷ []) (n ∷ []) (cross_moves n dim).by_edge (le_refl n) h i ∙ ap crossing (letter_link t nx n h (omega arith))

    cross_across : walk after opposed (crossing h) ≡ crossing (link t 0 h)
    unfolding spell
    cross_across =
        moved n n opposed (0 ∷ []) (cross_moves n dim).by_opposite (le_refl n) h i ∙ ap crossing (letter_link t nx 0 h (omega arith))

    cross_next : link after n (crossing h) ≡ crossing (nx h)
    unfolding walk spell
    cross_next = moved n n (n ∷ []) (4 ∷ []) (cross_moves n dim).by_last (le_refl n) h i ∙ ap crossing (letter_next t nx h)

    cross_face : n ≡ 3 → link after 2 (crossing h) ≡ crossing (link t 1 h)
    unfolding walk spell
    cross_face e =
        moved n n (2 ∷ []) (1 ∷ []) (subst (λ (k : ℕ). moves k k (2 ∷ []) k (1 ∷ []) ≡ true) (sym e) cross_beside) (le_refl n) h i
        ∙ ap crossing (letter_link t nx 1 h (omega arith))

    -- from p the walk of remove goes over the wall
    pub walk_p : walk after (opposite n ++ (n ∷ [])) (new_dart n hs fs 0 h) ≡ link t n h
    unfolding role_dart spell
    walk_p = let top = dim.1 in
        moved 1 0 (opposite n ++ (n ∷ [])) (n ∷ []) (walk_over n dim) (let two = dim.0 in omega arith) h i
        ∙ letter_link t nx n h (omega arith)

  crossing_lives : (h : ℕ) → In h hs → live after (crossing h) ≡ true
  crossing_lives h i = laid_live C _ (live_role C.wall.lives n h (le_refl n) i)

  -- x is the crossing edge's dart of a dart of the wall
  abbrev pub Crosses : ℕ → Type 0
  Crosses x = (h : ℕ) × In h hs × (x ≡ crossing h)

  sheet_within : (h : ℕ) → In h hs → (x : ℕ) → Marked (sheet n after (crossing h)) x → Crosses x
  sheet_within h i = (sheet_is n after (crossing h)).within Crosses (λ x e _. (h, i, e)) (λ x y _ p s _. step x y p s)
    where
      side_step : (g j : ℕ) → In g hs → j ≤ n → 2 ≤ j → Crosses (link after j (crossing g))
      side_step g j k b far = if_eq j n
          (λ e. (nx g, C.wall.on g k, ap (λ (z : ℕ). link after z (crossing g)) e ∙ cross_next g k))
          (λ e.
          let top = dim.1 in
          let two : j ≡ 2 = omega arith in
          let three : n ≡ 3 = omega arith in
          (link t 1 g, C.wall.along g 1 (omega arith) k, ap (λ (z : ℕ). link after z (crossing g)) two ∙ cross_face g k three))

      step : (x y : ℕ) → Crosses x → SheetStep n after x y → Crosses y
      step x y (g, k, e) (along q) = (link t n g, C.wall.over g k, q ∙ ap (link after 0) e ∙ cross_along g k)
      step x y (g, k, e) (across q) = let two = dim.0 in
          (link t 0 g, C.wall.along g 0 (omega arith) k, q ∙ ap (walk after opposed) e ∙ cross_across g k)
      step x y (g, k, e) (beside s) =
          let (f, l, q) = side_step g s.by k s.allowed.0 s.allowed.1 in
          (f, l, s.leads ∙ ap (link after s.by) e ∙ q)

  sheet_holds : Joined n t hs nx → (h : ℕ) → In h hs → (x : ℕ) → In x hs → Marked (sheet n after (crossing h)) (crossing x)
  sheet_holds joined h i = joined (λ x. Marked S (crossing x)) by_link by_over by_next h i own
    where
      S : List ℕ
      S = sheet n after (crossing h)

      in_table : (x : ℕ) → In x hs → crossing x < slots after
      in_table x k = live_below (laid_table C) (crossing x) (crossing_lives x k)

      own : Marked S (crossing h)
      own = (sheet_is n after (crossing h)).holds (crossing h) refl (in_table h i)

      closed : (x y : ℕ) → In y hs → SheetStep n after (crossing x) (crossing y) → Marked S (crossing x) → Marked S (crossing y)
      closed x y k s m = (sheet_is n after (crossing h)).closed (crossing x) (crossing y) m s (in_table y k)

      by_over : (x : ℕ) → In x hs → Marked S (crossing x) → Marked S (crossing (link t n x))
      by_over x k = closed x (link t n x) (C.wall.over x k) (along (sym (cross_along x k)))

      by_next : (x : ℕ) → In x hs → Marked S (crossing x) → Marked S (crossing (nx x))
      by_next x k = closed x (nx x) (C.wall.on x k)
          (beside (record { by = n; allowed = (le_refl n, dim.0); leads = sym (cross_next x k) }))

      by_link : (x j : ℕ) → j + 2 ≤ n → In x hs → Marked S (crossing x) → Marked S (crossing (link t j x))
      by_link x j far k = if_eq j 0
          (λ e. rw e (closed x (link t 0 x) (C.wall.along x 0 (omega arith) k) (across (sym (cross_across x k)))))
          (λ e.
          let top = dim.1 in
          let one : j ≡ 1 = omega arith in
          let three : n ≡ 3 = omega arith in
          rw one (closed x (link t 1 x) (C.wall.along x 1 (omega arith) k)
          (beside (record { by = 2; allowed = (omega arith, omega arith); leads = sym (cross_face x k three) }))))

  -- "the sheet through the new crossing edges": one dart for each of the wall, and no other
  pub crossing_sheet : Joined n t hs nx → (h : ℕ) → In h hs → (x : ℕ) → Marked (sheet n after (crossing h)) x ↔ Crosses x
  crossing_sheet joined h i x = (sheet_within h i x, λ (g, k, e). subst (Marked (sheet n after (crossing h))) (sym e) (sheet_holds joined h i g k))

  -- ---- its cells

  new_links : (x j : ℕ) → j < n → In x fs → In (link after j x) fs
  unfolding role_dart stays_new
  new_links x j b i = rw w.is (to (role_to n (suc w.role) j) refl)
    where
      w : IsNew n hs fs x
      w = slot_new (spread C) x i

      row : stays_new n w.role j ≡ true
      row = below_both (stays_new n) n n (stays_new_lem n dim) w.role j w.low b

      low : (j < 4) × (role_to n (suc w.role) j ≤ n) × (keeps_wall n (role_word n (suc w.role) j) ≡ true)
      low = lead_low (layer_roles C) (suc w.role) j (and_l (leads n (layer_rows n) (suc w.role) j) _ row)

      some : 0 < role_to n (suc w.role) j
      some = ltb-true _ _ (and_r (leads n (layer_rows n) (suc w.role) j) _ row)

      there : In (spell t nx (role_word n (suc w.role) j) w.of) hs
      there = spell_keeps dim C.wall (role_word n (suc w.role) j) w.of low.2 w.member

      at : link after j (role (suc w.role) w.of) ≡ role (role_to n (suc w.role) j) (spell t nx (role_word n (suc w.role) j) w.of)
      at = role_link C (suc w.role) w.of j w.low w.member low.0

      to : (r : ℕ) → role_to n (suc w.role) j ≡ r → In (link after j (new_dart n hs fs w.role w.of)) fs
      to zero e = absurd (let s = some in omega arith)
      to (suc r) e =
          let top : suc r ≤ n = let b = low.1 in omega arith in
          in-cast (at ∙ ap (λ (q : ℕ). role q (spell t nx (role_word n (suc w.role) j) w.of)) e) (new_in (spread C) r _ top there)

  module _ (clear : Clear n t hs nx) (joined : Joined n t hs nx) (h : ℕ) (i : In h hs) where
    U : BlockTable n after
    U = laid_block C clear

    pub crossing_dart : BlockDart n after (crossing h)
    crossing_dart = record { table = U; lives = crossing_lives h i }

    cells_within : (x : ℕ) → InCells n after (sheet n after (crossing h)) x → In x fs
    unfolding role_dart
    cells_within x (g, m, c) =
        let (y, k, e) = sheet_within h i g m in
        let top = dim.0 in
        let own : In g fs = in-cast (e ∙ crossing_new y) (new_in (spread C) (n - 1) y (omega arith) k) in
        (cell_is n after g).within (λ x. In x fs) (λ x q _. in-cast q own)
        (λ x y _ p s _. in-cast s.leads (new_links x s.by s.allowed p)) x c

    cells_hold : (x : ℕ) → In x fs → InCells n after (sheet n after (crossing h)) x
    unfolding comes_to walk spell role_dart
    cells_hold x k =
        let w = slot_new (spread C) x k in
        let row = below_at (comes_to n) n (comes_to_lem n dim) w.role w.low in
        let v = to_role n (suc w.role) in
        let g = crossing w.of in
        let lg = crossing_lives w.of w.member in
        let there = moved n (suc w.role) v [] (and_r (small n v) _ row) (le_refl n) w.of w.member in
        let T = map_table U in
        let in_Cell = walk_keeps n after (Marked (cell_of n after g)) (λ y j b m. cell_goes T g lg y j m b) v (and_l (small n v) _ row) g
        (cell_own T g lg) in
        (g, sheet_holds joined h i w.of w.member, subst (Marked (cell_of n after g)) (there ∙ sym w.is) in_Cell)

    -- its cells are the new darts
    pub crossing_cells : (x : ℕ) → (marked (marks_of n after (crossing h)) x ≡ true) ↔ In x fs
    crossing_cells x =
        let m = marks_cells crossing_dart x in
        (λ e. cells_within x (m.0 e), λ k. m.1 (cells_hold x k))
