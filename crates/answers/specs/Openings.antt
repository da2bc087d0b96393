-- The checks that calls begin with, and what an answer says of them.
use Rattle.std.specs.Prelude.{ℕ, ◌≡◌, Bool, true, List, [], ◌∷◌, ◌++◌, Result, Ok, Err}
use Rattle.model.specs.Checks.{Check, pass, refuse, must, dim_ok, table_ok, map_checks, index_ok, dart_ok, block_ok}
use Rattle.refusals.specs.declared.Refused.{Refused}
use Rattle.refusals.specs.Numbers.{number_of}

-- ---- the checks, where `marks` and `journal` are whether 3 and 4 pass

-- 1 to 4, and those of a map
unfoldable pub opening_checks : Bool → Bool → ℕ → List ℕ → List Check
opening_checks marks journal n t = dim_ok n ∷ table_ok t ∷ must marks 3 ∷ must journal 4 ∷ map_checks n t

-- up to 7 of a call on the side of d by link i
unfoldable pub side_checks : Bool → ℕ → List ℕ → ℕ → ℕ → List Check
side_checks journal n t i d = opening_checks true journal n t ++ (index_ok n i ∷ dart_ok t d ∷ [])

-- up to 8 of a call on the layer of d
unfoldable pub layer_checks : Bool → Bool → ℕ → List ℕ → ℕ → List Check
layer_checks marks journal n t d = opening_checks marks journal n t ++ (dart_ok t d ∷ block_ok n t ∷ [])

-- up to 8 of a call that has no dart
unfoldable pub wall_checks : Bool → Bool → ℕ → List ℕ → List Check
wall_checks marks journal n t = opening_checks marks journal n t ++ (block_ok n t ∷ [])

-- ---- what the result says of checks whose verdict is c: passed exactly if it is `Ok`, else that refusal

abbrev pub refusing : Refused → Check
refusing e = refuse (number_of e.reason) e.place e.count

abbrev pub verdict : Result (Unit {0}) Refused → Check
verdict (Ok passed) = pass
verdict (Err e) = refusing e

pub record Settles (r : Result (Unit {0}) Refused) (c : Check) : Type 0 where
  pub gives : c ≡ verdict r
