-- `cells::dart_at` meets its contract.
use native.Mathlib.Omega.{arith}
use Rattle.numbering.proofs.Orders.{place_low}
use Rattle.cells.proofs.dart_at.Goals as goal

pub place-requires : goal.place-requires
place-requires c = let p = c.requires in (p.0, p.2, p.3)

pub bounds-cell-place : goal.bounds-cell-place
bounds-cell-place c =
    let low = place_low c.args.n c.requires.0 _ c.requires.2 _ c.requires.3 in
    let long = c.requires.1 in
    rw c.place.ensures (omega arith)

pub returns : goal.returns
returns c = rw c.place.ensures
