-- `cells::walk` meets its contract. The loop's invariant: what is left of the walk ends where the whole ends.
use Prim.Native.Nat.{◌-◌, ◌≤◌}
use Rattle.numbering.specs.Orders.{place_of}
use Rattle.cells.specs.Listing.{walked}
use Rattle.cells.proofs.Listing.{Walking}
use Rattle.cells.proofs.walk.Given as goal

abbrev pub invariant-loop : goal.invariant-loop
invariant-loop l = (l.counter ≤ l.count) × Walking l.n l.table l.i l.j (walked l.n l.table l.count l.i l.j (place_of l.n l.order l.vertex) l.initial.cell) l.cell l.p l.s l.by (l.count - l.counter)

abbrev pub decreases-loop : goal.decreases-loop
decreases-loop l = l.count - l.counter
