-- The partners of a cell's darts: of the first dart of a face by its mate (`free_face`, `sewn_face`), of the seven others by walking
-- both faces in step (`partner_walks`).
use Prim.Native.Nat.{ℕ, zero, suc, ◌+◌, ◌*◌, ◌/◌, ◌%◌, ◌<◌}
use mathlib.Core.Path.{◌≡◌, sym, ap, ◌∙◌}
use mathlib.Core.Logic.{◌≢◌}
use mathlib.Core.Bool.{true}
use mathlib.Core.List.{List, []}
use native.Mathlib.Omega.{arith}
use lib.ListN.{length, get_or, set}
use lib.Seq.{get_or-set_same, get_or-set_other}
use Rattle.model.specs.Faces.{round, face_darts, same_four, darts, round_at, own_link, partner}
use Rattle.model.specs.Meaning.Vtk.{face_at, Meets}
use Rattle.theorems.proofs.Lists.Scan.{clash, if_eq, if_lt}
use Rattle.theorems.proofs.Vtk.Faces.{face_of, face_low, face_four, four_back}
use Rattle.theorems.proofs.Vtk.Table.{Partner, sewn, free, own_at, partner_is, partner_exactly, partner_own}
use Rattle.theorems.proofs.Vtk.Three.{cells_apart}
use Rattle.vtk_faces.specs.Walks.{face_walk, walk_dart}
use Rattle.vtk_faces.specs.Buffers.{MateAt}
use Rattle.vtk_faces.proofs.Walks.{first_low, walk_low, dart_cell}
use Rattle.vtk_table.specs.Cells.{Sews, first_dart, Cells}

module _ {t : List ℕ} {rows : List (List ℕ)} {mates : List ℕ} (C : Cells t rows mates) where
  round_at_lem : (c k : ℕ) → k < 48 → round_at rows (48 * c + k) ≡ round (get_or rows c []) k
  unfolding round_at
  round_at_lem c k low =
      let cell : (48 * c + k) / 48 ≡ c = omega arith in
      let rest : (48 * c + k) % 48 ≡ k = omega arith in
      rw (cell, rest)

  module _ (p : ℕ) (low : p / 6 < length rows) where
    position : p < 6 * length rows
    position = omega arith

    dart_low : first_dart p < darts rows
    unfolding first_dart darts
    dart_low = let first = first_low (p % 6) (omega arith) in omega arith

    -- its round is the face
    dart_round : round_at rows (first_dart p) ≡ face_at rows p
    unfolding first_dart face_at
    dart_round = round_at_lem (p / 6) (get_or face_darts (p % 6) 0) (first_low (p % 6) (omega arith))

  -- the position of the face of a dart, and that it has the four vertices of its round
  face_of_dart : ℕ → ℕ
  face_of_dart e = 6 * (e / 48) + face_of (e % 48)

  dart_four : (e : ℕ) → same_four (face_at rows (face_of_dart e)) (round_at rows e) ≡ true
  unfolding round_at face_at face_of_dart
  dart_four e =
      let h : e % 48 < 48 = omega arith in
      let f = face_low (e % 48) h in
      let cell : (6 * (e / 48) + face_of (e % 48)) / 6 ≡ e / 48 = omega arith in
      let number : (6 * (e / 48) + face_of (e % 48)) % 6 ≡ face_of (e % 48) = omega arith in
      rw (cell, number) (face_four (get_or rows (e / 48) []) (e % 48) h)

  module _ (p : ℕ) (low : p / 6 < length rows) where
    -- a dart that meets the first has a face with its four vertices
    meets_four : (e : ℕ) → Meets rows (first_dart p) e → same_four (face_at rows p) (face_at rows (face_of_dart e)) ≡ true
    meets_four e m = four_back _ _ (rw (sym m.same ∙ dart_round p low) at (dart_four e))

    -- that face stands at another position
    meets_position : (e : ℕ) → Meets rows (first_dart p) e → (face_of_dart e < 6 * length rows) × (face_of_dart e ≢ p)
    unfolding darts face_of_dart first_dart
    meets_position e m =
        let own = first_low (p % 6) (omega arith) in
        let other = face_low (e % 48) (omega arith) in
        let inside = m.low_other in
        (omega arith, λ same. m.apart (omega arith))

    -- no other cell has the face
    pub free_face : get_or mates (p + 1) 0 ≡ 0 → partner rows (first_dart p) ≡ first_dart p
    free_face none = by (partner_is C.readable (first_dart p) (dart_low p low))
      where
        by : Partner C.readable (first_dart p) → partner rows (first_dart p) ≡ first_dart p
        by (free p _) = p
        by (sewn m) =
            let (inside, other) = meets_position _ m in
            absurd (clash (meets_four _ m) (C.mated.alone p (position p low) none _ inside other))

    -- another has it: the dart that meets the first is of another cell
    module _ {x : ℕ} (mate : MateAt rows p x) where
      mate_apart : p / 6 ≢ x / 48
      mate_apart e =
          let inside : x / 8 < 6 * length rows = omega arith in
          let other = mate.other in
          let once = C.readable.cells.once in
          if_lt p (x / 8)
          (λ l. cells_apart rows once p (x / 8) l inside mate.four (omega arith))
          (λ l. cells_apart rows once (x / 8) p (omega arith) (position p low) (four_back _ _ mate.four) (omega arith))

      dart_apart : first_dart p / 48 ≢ walk_dart x / 48
      unfolding first_dart
      dart_apart e =
          let first = first_low (p % 6) (omega arith) in
          let cell = dart_cell x in
          mate_apart (omega arith)

      pub sewn_face : partner rows (first_dart p) ≡ walk_dart x
      unfolding darts
      sewn_face = partner_exactly C.readable (first_dart p) (walk_dart x) (dart_low p low) (record {
        low = dart_low p low;
        low_other = let cell = dart_cell x in omega arith;
        apart = dart_apart;
        same = dart_round p low ∙ sym mate.same;
      })

  -- ---- both faces in step

  pub partner_walks : (c k d : ℕ) → c < length rows → k < 48 → partner rows (48 * c + k) ≡ d
      → (i : ℕ) → partner rows (48 * c + face_walk i k) ≡ 48 * (d / 48) + face_walk i (d % 48)
  unfolding face_walk darts
  partner_walks c k d low h is zero = is ∙ omega arith
  partner_walks c k d low h is (suc i) =
      let b : i % 2 < 2 = omega arith in
      let x = face_walk i k in
      let y = face_walk i (d % 48) in
      let hx = walk_low i k h in
      let hy = walk_low i (d % 48) (omega arith) in
      ap (partner rows) (sym (own_at (i % 2) c x hx))
      ∙ partner_own C.readable (i % 2) (48 * c + x) b (omega arith)
      ∙ ap (own_link (i % 2)) (partner_walks c k d low h is i)
      ∙ own_at (i % 2) (d / 48) y hy

-- ---- link 3 put in an array

pub sews_none : (g : ℕ → ℕ) (k : ℕ) (thirds : List ℕ) → Sews g k 0 thirds thirds
sews_none g k thirds = record { face = λ i h. absurd (omega arith); stays = λ x e. e }

pub sews_more : {g : ℕ → ℕ} {k n : ℕ} {thirds thirds' : List ℕ} → Sews g k n thirds thirds' → (v : ℕ) → v ≡ g (face_walk n k)
    → face_walk n k < length thirds' → Sews g k (n + 1) thirds (set thirds' (face_walk n k) v)
sews_more {g} {k} {n} {thirds} {thirds'} S v is low = record {
  face = λ i h. if_eq i n (λ e. rw e new) (λ e. keeps (face_walk i k) (S.face i (omega arith)));
  stays = λ x e. keeps x (S.stays x e);
}
  where
    new : get_or (set thirds' (face_walk n k) v) (face_walk n k) 0 ≡ g (face_walk n k)
    new = get_or-set_same thirds' (face_walk n k) v 0 low ∙ is

    keeps : (x : ℕ) → get_or thirds' x 0 ≡ g x → get_or (set thirds' (face_walk n k) v) x 0 ≡ g x
    keeps x e = if_eq x (face_walk n k) (λ q. rw q new) (λ q. get_or-set_other thirds' (face_walk n k) x v 0 q ∙ e)
