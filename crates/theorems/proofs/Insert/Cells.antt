-- insert keeps a block map (`laid_block`): each new cell has a chart, by its spots (`new_chart`), and each old cell keeps its own. Two
-- spots are two darts since no side of the wall is folded (`face_one`).
use Prim.Native.Nat.{ℕ, zero, suc, ◌-◌, ◌≤◌, ◌<◌}
use mathlib.Core.Path.{◌≡◌, refl, sym, ap, ◌∙◌, subst}
use mathlib.Core.Logic.{inl, inr, ⊎_elim}
use mathlib.Core.Bool.{Bool, true, false, not, ◌||◌}
use mathlib.Core.List.{List, [], ◌∷◌, Memᴰ as In}
use native.Mathlib.Nat.{le_refl}
use native.Mathlib.Omega.{arith}
use lib.Dec.{eqb, ltb, leb}
use borrow.Author.Tests.{eqb-true, ne_eqb, ltb-true, leb-true}
use Rattle.model.specs.Table.{link, walk, live}
use Rattle.model.specs.Cell.{cell_size}
use Rattle.model.specs.Numbering.{cell_link}
use Rattle.model.specs.Sew.{side}
use Rattle.model.specs.Insert.{laid}
use Rattle.model.specs.NewDarts.{new_dart}
use Rattle.model.specs.Meaning.Maps.{BlockTable, Dim, Rule}
use Rattle.model.specs.Meaning.Sets.{Marked}
use Rattle.model.specs.Meaning.Places.{path, place, Chart}
use Rattle.model.specs.Meaning.Pairings.{OnSide}
use Rattle.model.specs.Meaning.Splits.{IsNew}
use Rattle.model.specs.Meaning.Walls.{Clear}
use Rattle.theorems.proofs.Lists.Scan.{and_l, and_r, or_cases}
use Rattle.theorems.proofs.Maps.Dim.{size_some}
use Rattle.theorems.proofs.Maps.Tables.{map_table, rule_at}
use Rattle.theorems.proofs.Sewing.Side.{past, on_side, side_own, side_far, side_into}
use Rattle.theorems.proofs.Cells.Rows.{walk_keeps, rows_in}
use Rattle.theorems.proofs.Cells.Chart.{Charted, block_by, block_straight, chart_kept}
use Rattle.theorems.proofs.Cells.Chart.{place_chart, place_zero, place_live, place_one}
use Rattle.theorems.proofs.Layers.Near.{in_face, face_low, face_word}
use Rattle.theorems.proofs.Layers.NewDarts.{Live, old, new, new_one}
use Rattle.theorems.proofs.Layers.Roles.{role_dart, live_role}
use Rattle.theorems.proofs.Layers.Spots.{spot_valid, spots_chart}
use Rattle.theorems.proofs.Insert.Laid.{Laying, spread, laid_kept}
use Rattle.theorems.proofs.Insert.Role.{letter, spell, letter_link, role_to, role_word, role_link}
use Rattle.theorems.proofs.Insert.Table.{laid_table, laid_live, live_laid}
use Rattle.theorems.proofs.Insert.Spot.{Spot, spot, spot_link, spot_at, move_place, move_side, level, valid}
use Rattle.theorems.proofs.Insert.Spot.{spot_same, cell_fitting, word_level, role_held}
use Rattle.theorems.proofs.Insert.Sides.{laid_straight}

-- ---- the face of a dart h of the wall

module _ (n : ℕ) (t : List ℕ) (h : ℕ) where
  -- the place p of h, or the dart over the wall from there
  unfoldable pub face_dart : ℕ → Bool → ℕ
  face_dart p true = link t n (place n t h p)
  face_dart p false = place n t h p

valid_parts : (n r p : ℕ) (s : Bool) → valid n (spot r p s) ≡ true → (0 < r) × (r ≤ n) × (in_face n p ≡ true)
unfolding valid
valid_parts n r p s v =
    let rest = and_r (ltb 0 r) _ v in
    (ltb-true 0 r (and_l (ltb 0 r) _ v), leb-true r n (and_l (leb r n) _ rest), and_r (leb r n) _ rest)

-- the new cell of h: the dart at a spot of it, and at a place of it
module _ (n : ℕ) (t hs fs : List ℕ) (h : ℕ) where
  spot_dart : Spot → ℕ
  spot_dart (spot r p s) = role_dart n hs fs r (face_dart n t h p s)

  pub cell_dart : ℕ → ℕ
  cell_dart k = spot_dart (spot_at n k)

  abbrev pub InNewCell : ℕ → Type 0
  InNewCell x = (k : ℕ) × (k < cell_size n) × (x ≡ cell_dart k)

module _ {n : ℕ} {t hs fs : List ℕ} {nx : ℕ → ℕ} (C : Laying n t hs fs nx) where
  abbrev after : List ℕ
  after = laid n t hs fs nx

  abbrev B : BlockTable n t
  B = C.table

  abbrev dim : Dim n
  dim = C.table.dim

  rule : (x : ℕ) → live t x ≡ true → Rule n t x
  rule = rule_at (map_table B)

  module _ (h : ℕ) (i : In h hs) where
    lives : live t h ≡ true
    lives = C.wall.lives h i

    abbrev face : ℕ → Bool → ℕ
    face = face_dart n t h

    follow : (j k : ℕ) → j < n → k < cell_size n → link t j (place n t h k) ≡ place n t h (cell_link n j k)
    follow = (place_chart B h lives).follow

    place_lives : (p : ℕ) → p < cell_size n → live t (place n t h p) ≡ true
    place_lives p b = place_live B h p lives b

    -- ---- words over the wall, on the face

    face_link : (j p : ℕ) (s : Bool) → suc j < n → p < cell_size n → link t j (face p s) ≡ face (cell_link n j p) s
    unfolding face_dart
    face_link j p true b low =
        past (map_table B) (place n t h p) (place_lives p low) j n (omega arith) (le_refl n) (inl (omega arith))
        ∙ ap (link t n) (follow j p (omega arith) low)
    face_link j p false b low = follow j p (omega arith) low

    face_over : (p : ℕ) (s : Bool) → p < cell_size n → link t n (face p s) ≡ face p (not s)
    unfolding face_dart
    face_over p true low = let top = dim.1 in (rule (place n t h p) (place_lives p low)).comes n (omega arith)
    face_over p false low = refl

    face_spell : (w : List ℕ) (p : ℕ) (s : Bool) → level n w ≡ true → p < cell_size n
        → spell t nx w (face p s) ≡ face (move_place n w p) (move_side n w s)
    unfolding level spell move_place move_side
    face_spell [] p s f low = refl
    face_spell (j ∷ w) p s f low =
        let top = dim.1 in
        let rest = and_r (eqb j n || ltb (suc j) n) _ f in
        let first = or_cases (eqb j n) (ltb (suc j) n) (and_l (eqb j n || ltb (suc j) n) (level n w) f) in
        ⊎_elim
        (λ e.
        let q = eqb-true j n e in
        let same : letter t nx j (face p s) ≡ face p (not s)
        = letter_link t nx j (face p s) (omega arith) ∙ ap (λ (k : ℕ). link t k (face p s)) q ∙ face_over p s low in
        ap (spell t nx w) same ∙ rw (e, move_place, move_side) (face_spell w p (not s) rest low))
        (λ e.
        let b = ltb-true (suc j) n e in
        let other = ne_eqb j n (omega arith) in
        let next = rows_in n j p dim (omega arith) low in
        let same = letter_link t nx j (face p s) (omega arith) ∙ face_link j p s b low in
        ap (spell t nx w) same ∙ rw (other, move_place, move_side) (face_spell w (cell_link n j p) s rest next)) first

    -- ---- the darts of the face are on the wall, each once

    face_in : (p : ℕ) (s : Bool) → in_face n p ≡ true → In (face p s) hs
    unfolding face_dart place
    face_in p s f = go s
      where
        here : In (walk t (path n p) h) hs
        here = walk_keeps (n - 1) t (λ x. In x hs) (λ x j b m. C.wall.along x j (omega arith) m) (path n p) (face_word n p f) h i

        go : (s : Bool) → In (face p s) hs
        go true = C.wall.over _ here
        go false = here

    on : OnSide n t n h
    on = on_side (map_table B) h lives

    face_side : (p : ℕ) → in_face n p ≡ true → Marked (side n t n h) (place n t h p)
    unfolding place
    face_side p f = walk_keeps (n - 1) t (Marked (side n t n h))
        (λ x j b m. side_far on x j m (inr (omega arith)) (omega arith)) (path n p) (face_word n p f) h (side_own on)

    not_over : (p q : ℕ) → in_face n p ≡ true → in_face n q ≡ true → place n t h p ≡ link t n (place n t h q) → ⊥
    not_over p q fp fq e =
        let over = subst (Marked (side n t n h)) e (face_side p fp) in
        C.wall.sewn h i (block_straight B h lives (side_into on (place n t h q) (face_side q fq) over))

    link_one : (x y : ℕ) → live t x ≡ true → live t y ≡ true → link t n x ≡ link t n y → x ≡ y
    link_one x y lx ly e =
        let top = dim.1 in
        sym ((rule x lx).comes n (omega arith)) ∙ ap (link t n) e ∙ (rule y ly).comes n (omega arith)

    face_one : (p q : ℕ) (s z : Bool) → in_face n p ≡ true → in_face n q ≡ true → face p s ≡ face q z → (p ≡ q) × (s ≡ z)
    unfolding face_dart
    face_one p q true true fp fq e =
        let lp = face_low n p fp in
        let lq = face_low n q fq in
        (place_one B h p q lives lp lq (link_one _ _ (place_lives p lp) (place_lives q lq) e), refl)
    face_one p q true false fp fq e = absurd (not_over q p fq fp (sym e))
    face_one p q false true fp fq e = absurd (not_over p q fp fq e)
    face_one p q false false fp fq e = (place_one B h p q lives (face_low n p fp) (face_low n q fq) e, refl)

    -- ---- the chart of the new cell

    abbrev at : Spot → ℕ
    at = spot_dart n t hs fs h

    spot_follows : (e : Spot) (j : ℕ) → valid n e ≡ true → j < n → link after j (at e) ≡ at (spot_link n j e)
    unfolding spot_dart spot_link
    spot_follows (spot zero p s) j v b = absurd (let a = (valid_parts n 0 p s v).0 in omega arith)
    spot_follows (spot (suc r) p s) j v b =
        let top = dim.1 in
        let (_, low, f) = valid_parts n (suc r) p s v in
        role_link C (suc r) (face p s) j low (face_in p s f) (omega arith)
        ∙ ap (role_dart n hs fs (role_to n (suc r) j))
        (face_spell (role_word n (suc r) j) p s (word_level n dim r j low b) (face_low n p f))

    spot_lives : (e : Spot) → valid n e ≡ true → live after (at e) ≡ true
    unfolding spot_dart
    spot_lives (spot r p s) v =
        let (_, low, f) = valid_parts n r p s v in
        laid_live C _ (live_role C.wall.lives r (face p s) low (face_in p s f))

    spot_one : (e f : Spot) → valid n e ≡ true → valid n f ≡ true → at e ≡ at f → e ≡ f
    unfolding spot_dart role_dart
    spot_one (spot zero p s) (spot q o z) v w e = absurd (let a = (valid_parts n 0 p s v).0 in omega arith)
    spot_one (spot (suc r) p s) (spot zero o z) v w e = absurd (let a = (valid_parts n 0 o z w).0 in omega arith)
    spot_one (spot (suc r) p s) (spot (suc q) o z) v w e =
        let a = valid_parts n (suc r) p s v in
        let b = valid_parts n (suc q) o z w in
        let one = new_one (spread C) r q (face p s) (face o z) a.1 b.1 (face_in p s a.2) (face_in o z b.2) e in
        let two = face_one p o s z a.2 b.2 one.1 in
        spot_same (suc r) (suc q) p o s z (ap suc one.0) two.0 two.1

    new_chart : Chart n after (cell_dart n t hs fs h)
    unfolding cell_dart
    new_chart = spots_chart (cell_fitting n dim) after at spot_follows spot_one

    new_base : live after (cell_dart n t hs fs h 0) ≡ true
    unfolding cell_dart
    new_base = spot_lives (spot_at n 0) (spot_valid (cell_fitting n dim) 0 (size_some n dim))

    -- the new darts of h are in its cell
    new_in_cell : (r : ℕ) → r < n → InNewCell n t hs fs h (new_dart n hs fs r h)
    unfolding cell_dart spot_dart role_dart face_dart
    new_in_cell r b =
        let (k, low, e) = role_held n dim r b in
        (k, low, ap (new_dart n hs fs r) (place_zero B h lives) ∙ ap at (sym e))

  -- ---- charts

  new_charted : (x : ℕ) → IsNew n hs fs x → Charted n after x
  new_charted x w =
      let (k, low, e) = new_in_cell w.of w.member w.role w.low in
      record {
        c = cell_dart n t hs fs w.of;
        chart = new_chart w.of w.member;
        base = new_base w.of w.member;
        k = k;
        low = low;
        is = w.is ∙ e;
      }

  old_charted : (x : ℕ) → live t x ≡ true → Charted n after x
  old_charted x l = record {
    c = place n t x;
    chart = chart_kept B after (place n t x) (place_chart B x l)
        (λ j k hj hk. let top = dim.1 in laid_kept C (place n t x k) j (place_live B x k l hk) (omega arith) (λ e. absurd (omega arith)));
    base = laid_live C _ (old (place_live B x 0 l (size_some n dim)));
    k = 0;
    low = size_some n dim;
    is = place_zero B x l;
  }

  pub laid_block : Clear n t hs nx → BlockTable n (laid n t hs fs nx)
  laid_block clear = block_by (laid_table C) (λ x l. charted x (live_laid C x l)) (laid_straight C clear)
    where
      charted : (x : ℕ) → Live n t hs fs x → Charted n after x
      charted x (old l) = old_charted x l
      charted x (new w) = new_charted x w
