-- `call_read_vtk::is_empty` meets its contract.
use mathlib.Core.Path.{◌≡◌}
use native.Mathlib.Omega.{arith}
use lib.Bits.{bit_and}
use borrow.Author.Rules.{rules}
use Rattle.std.specs.List.{fold}
use Rattle.model.specs.Table.{unused}
use Rattle.theorems.proofs.Calls.Pass.{table_pass}
use Rattle.call_read_vtk.proofs.Empty.{entries_fold, entries_all}
use Rattle.call_read_vtk.proofs.is_empty.Goals as goal

pub returns : goal.returns
returns c =
    let t = c.args.table.now in
    let common : c.fold.result ≡ fold bit_and unused t = search rules in
    rw common (entries_all t (table_pass _ c.requires).0 (entries_fold t (λ k. omega (arith, c.type_inv.table k))))
