-- Faces behind the block's.
-- Main theorems: `later_entry`, `later_stepped`; `chunk_later`, `chunk_more`, `chunk_three`, `chunk_all`.
use Prim.Native.Nat.{ℕ, ◌+◌, ◌*◌, ◌-◌, ◌/◌, ◌≤◌, ◌<◌}
use mathlib.Core.Path.{◌≡◌, refl, sym, ap₂, ◌∙◌, subst}
use mathlib.Core.Logic.{inr, ◌≢◌}
use mathlib.Core.Bool.{Bool}
use mathlib.Core.List.{List}
use native.Mathlib.Omega.{arith}
use lib.ListN.{length}
use Rattle.model.specs.Faces.{same_four, same_order}
use Rattle.vtk_faces.specs.Faces.{held_face}
use Rattle.vtk_faces.specs.Chains.{Found}
use Rattle.vtk_faces.specs.Judged.{State, Ran, Met, Stepped}
use Rattle.vtk_faces.specs.Rest.{Later, Chunk}
use Rattle.vtk_faces.proofs.Judging.{steps}
use Rattle.vtk_faces.proofs.Blocks.{state_more, state_three, state_ran}

module _ (F : ℕ → List ℕ) (m i : ℕ) (buffer heads nexts mates r : List ℕ) (L : Later F m i buffer heads nexts mates r) (e : ℕ)
    (found : Found (held_face buffer) m r e) where
  entry_held : 0 < e → F (e - 1) ≡ held_face buffer (e - 1)
  entry_held on = let low = found.low in L.chained.held (e - 1) (omega arith)

  -- the entry that is found is one
  pub later_entry : (e < length mates) × (0 < e → 8 * ((e - 1) / 6) + 8 ≤ length buffer)
  later_entry =
      let low = found.low in
      let long = L.judged.long in
      let fits = L.chained.fits in
      (omega arith, λ on. omega arith)

  found_here : Found F m (F i) e
  found_here = record {
    low = found.low;
    none = λ z p b. ap₂ same_four (L.chained.held p b) L.this ∙ found.none z p b;
    same = λ on. ap₂ same_four (entry_held on) L.this ∙ found.same on;
  }

  pub later_stepped : (after : List ℕ) (agree : Bool) (number : ℕ) → (0 < e → agree ≡ same_order (held_face buffer (e - 1)) r)
      → Met e agree 65535 mates after number → Stepped F m i after number
  later_stepped after agree number order met =
      let inside = L.judged.within in
      let long = L.judged.long in
      let same = met.long in
      steps F m i m mates after after L.judged (omega arith) (omega arith) (λ b. absurd (omega arith)) (omega arith) e 65535 number
      found_here agree met (λ on. order on ∙ sym (ap₂ same_order (entry_held on) L.this)) (omega arith) (inr inside) (λ p b. refl)
      (λ b. absurd (omega arith))

-- ---- the faces of a chunk

module _ (F : ℕ → List ℕ) (m i : ℕ) (buffer heads nexts mates₀ : List ℕ) (before : ℕ) (chunk : List ℕ) (cells : ℕ)
    (C : Chunk F m i buffer heads nexts mates₀ before chunk cells) (j : ℕ) (mates : List ℕ) (other : ℕ)
    (S : State F m (i + j) mates other) where
  pub chunk_later : (r : List ℕ) → j < 6 * cells → r ≡ held_face chunk j → Later F m (i + j) buffer heads nexts mates r
  chunk_later r b e = record { chained = C.chained; judged = S.judged; this = C.these j b ∙ sym e }

  module _ (after : List ℕ) (number : ℕ) (T : Stepped F m (i + j) after number) where
    pub chunk_more : (b : ℕ) → number ≢ 22 → (other ≡ 0 → b ≡ number) × (other ≢ 0 → b ≡ other) → State F m (i + (j + 1)) after b
    chunk_more b going given = subst (λ (n : ℕ). State F m n after b) (omega arith)
        (state_more F m m (i + j) mates after number T (λ p h _. h) other b S going given)

    pub chunk_three : j < 6 * cells → number ≡ 22 → Ran F m (i + 6 * cells) after 22
    chunk_three b e = state_three F m (i + j) after number T m (i + 6 * cells) (omega arith) e

  pub chunk_all : j ≡ 6 * cells → Ran F m (i + 6 * cells) mates other
  chunk_all e = state_ran F m (i + 6 * cells) mates other (subst (λ (n : ℕ). State F m (i + n) mates other) e S)
