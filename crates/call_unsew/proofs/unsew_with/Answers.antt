-- `call_unsew::unsew_with` meets its contract, by `unsew_in`.
use Prim.Native.Nat.{ℕ}
use native.Mathlib.Omega.{arith}
use lib.ListN.{length-replicate}
use Rattle.theorems.proofs.Sets.Closure.{none_marked}
use Rattle.call_unsew.proofs.Marks.{full_new}
use Rattle.call_unsew.proofs.unsew_with.Goals as goal

pub unsew_in-requires : goal.unsew_in-requires
unsew_in-requires g c =
    let (room, low, whole) = c.requires.room in
    let long = length-replicate {A = ℕ} g.row.SLOTS 0 in
    record { d_value = c.requires.d_value; by_index = (none_marked g.row.SLOTS, (omega arith, omega arith), full_new g.row.SLOTS g.row.GROUPS whole) }
