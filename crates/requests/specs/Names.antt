-- Which call a number names: the one at this place among the names, and check behind the last.
use Rattle.std.specs.Prelude.{ℕ, ◌≤◌, ◌≡◌, ◌⊎◌}
use Rattle.requests.specs.declared.Op.{Op}
use Rattle.requests.specs.declared.Op.TheVariants.{Check, Orbit, Sheet, Add, Sew, Unsew, Remove, Split, Undo, Redo, Insert, SewList, Pick, ReadVtk}

abbrev pub Names : ℕ → Op → Type 0
Names place Check = (place ≡ 0) ⊎ (14 ≤ place)
Names place Orbit = place ≡ 1
Names place Sheet = place ≡ 2
Names place Add = place ≡ 3
Names place Sew = place ≡ 4
Names place Unsew = place ≡ 5
Names place Remove = place ≡ 6
Names place Split = place ≡ 7
Names place Undo = place ≡ 8
Names place Redo = place ≡ 9
Names place Insert = place ≡ 10
Names place SewList = place ≡ 11
Names place Pick = place ≡ 12
Names place ReadVtk = place ≡ 13
