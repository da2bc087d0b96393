-- Rows and faces in the buffer.
-- Main theorems: `face_words_lem` (the words of a face), `held_face_lem` (a face of the buffer is the one of the rows that it holds).
use Prim.Native.Nat.{ℕ, ◌+◌, ◌*◌, ◌/◌, ◌%◌, ◌<◌}
use mathlib.Core.Path.{◌≡◌, ap, ◌∙◌}
use mathlib.Core.List.{List, [], ◌∷◌}
use native.Mathlib.Omega.{arith}
use lib.ListN.{length, get_or, drop}
use lib.Seq.{get_or-take, get_or-drop}
use Rattle.model.specs.Faces.{sites, pick, round, face_darts}
use Rattle.model.specs.Meaning.Vtk.{face_at}
use Rattle.vtk_faces.specs.Buffers.{Held}
use Rattle.vtk_faces.specs.Faces.{site_at, held_row, held_face}
use Rattle.vtk_faces.proofs.Places.{site_low_lem}

module _ (b : List ℕ) where
  -- the vertex at a site of the cell c
  at_site : (c f j : ℕ) → f < 6 → j < 4
      → get_or (held_row b c) (get_or (sites (get_or face_darts f 0)) j 0) 0 ≡ get_or b (8 * c + site_at (4 * f + j)) 0
  unfolding held_row site_at
  at_site c f j hf hj =
      let face : (4 * f + j) / 4 ≡ f = omega arith in
      let turn : (4 * f + j) % 4 ≡ j = omega arith in
      let low : get_or (sites (get_or face_darts f 0)) j 0 < 8 = rw (face, turn) at (site_low_lem (4 * f + j) (omega arith)) in
      rw (face, turn) (get_or-take 8 (drop (8 * c) b) _ 0 low ∙ get_or-drop (8 * c) b _ 0)

  module _ (p : ℕ) where
    abbrev word : ℕ → ℕ
    word j = get_or b (8 * (p / 6) + site_at j) 0

    pub face_words_lem : held_face b p
        ≡ word (4 * (p % 6)) ∷ word (4 * (p % 6) + 1) ∷ word (4 * (p % 6) + 2) ∷ word (4 * (p % 6) + 3) ∷ []
    unfolding held_face round pick sites
    face_words_lem =
        let low : p % 6 < 6 = omega arith in
        let zero : 4 * (p % 6) + 0 ≡ 4 * (p % 6) = omega arith in
        rw (
          at_site (p / 6) (p % 6) 0 low (omega arith) ∙ ap word zero,
          at_site (p / 6) (p % 6) 1 low (omega arith),
          at_site (p / 6) (p % 6) 2 low (omega arith),
          at_site (p / 6) (p % 6) 3 low (omega arith),
        )

  pub held_long : (p : ℕ) → length (held_face b p) ≡ 4
  held_long p = ap length (face_words_lem p)

  pub held_face_lem : (rows : List (List ℕ)) → Held b rows → (p : ℕ) → p < 6 * length rows → held_face b p ≡ face_at rows p
  unfolding held_face held_row face_at
  held_face_lem rows h p low = ap (λ (row : List ℕ). round row (get_or face_darts (p % 6) 0)) (h.row (p / 6) (omega arith))
