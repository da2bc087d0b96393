-- Chains of faces by their hash. F p is the face at the position p, whose entry is p + 1; the entry 0 is none.
-- Main definitions: `Chains`, `Found`.
use Rattle.std.specs.Prelude.{ℕ, ◌+◌, ◌*◌, ◌-◌, ◌/◌, ◌≤◌, ◌<◌, ◌≡◌, ◌≢◌, true, false, Option, Some, None, List, length, get_or}
use Rattle.model.specs.Faces.{same_four}
use Rattle.vtk_faces.specs.Faces.{held_face}
use Rattle.vtk_faces.specs.Hashes.{hash_of}

-- e is the entry of the last of the first m faces that has the hash h
pub record Last (F : ℕ → List ℕ) (m h e : ℕ) : Type 0 where
  pub low : e ≤ m
  pub is : 0 < e → hash_of (F (e - 1)) ≡ h
  pub above : (p : ℕ) → e ≤ p → p < m → hash_of (F p) ≢ h

-- the first m faces are in: heads has the last of each hash, and nexts of each the one before it with its hash
pub record Chains (F : ℕ → List ℕ) (m : ℕ) (heads nexts : List ℕ) : Type 0 where
  pub heads_long : length heads ≡ 16384
  pub nexts_long : m < length nexts
  pub head : (h : ℕ) → h < 16384 → Last F m h (get_or heads h 0)
  pub next : (p : ℕ) → p < m → Last F p (hash_of (F p)) (get_or nexts (p + 1) 0)

-- the same for some number of faces of the buffer
pub record SomeChains (rows heads nexts : List ℕ) : Type 0 where
  pub m : ℕ
  pub chains : Chains (held_face rows) m heads nexts
  pub fits : m ≤ 6 * (length rows / 8)

-- the entry of a position
abbrev pub entry_of : Option ℕ → ℕ
entry_of None = 0
entry_of (Some p) = p + 1

-- e is the entry of a face with the same four vertices as r, of the first m; or 0 if there is none
pub record Found (F : ℕ → List ℕ) (m : ℕ) (r : List ℕ) (e : ℕ) : Type 0 where
  pub low : e ≤ m
  pub none : e ≡ 0 → (p : ℕ) → p < m → same_four (F p) r ≡ false
  pub same : 0 < e → same_four (F (e - 1)) r ≡ true
