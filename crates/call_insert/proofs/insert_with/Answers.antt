-- `call_insert::insert_with` meets its contract, by `insert_in`.
use Prim.Native.Nat.{ℕ}
use native.Mathlib.Omega.{arith}
use lib.ListN.{get_or-replicate, length-replicate}
use Rattle.call_insert.proofs.insert_with.Goals as goal

pub insert_in-requires : goal.insert_in-requires
insert_in-requires g c =
    let (few, low) = c.requires.room in
    let long = length-replicate {A = ℕ} g.row.WORDS 0 in
    record { journal_value = c.requires.journal_value; table_in_bounds = (omega arith, omega arith, omega arith, λ x low. get_or-replicate g.row.WORDS x 0 0 (omega arith)) }
