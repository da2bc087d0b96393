-- `cells::spread` meets its contract. The loop's invariant: what is left ends where the whole ends.
use Prim.Native.Nat.{◌-◌, ◌^◌, ◌≤◌}
use mathlib.Core.Path.{◌≡◌}
use Rattle.cells.specs.Listing.{Listing, spread}
use Rattle.cells.proofs.spread.Given as goal

abbrev pub invariant-loop-vertex : goal.invariant-loop-vertex
invariant-loop-vertex l =
    (l.vertex ≤ l.bit) × (l.bit ≡ 2 ^ l.axis) × (Listing 3 l.table l.cell)
    × (spread l.table l.axis l.far (l.bit - l.vertex) l.vertex l.cell ≡ spread l.table l.axis l.far (2 ^ l.axis) 0 l.initial.cell)

abbrev pub decreases-loop-vertex : goal.decreases-loop-vertex
decreases-loop-vertex l = l.bit - l.vertex
