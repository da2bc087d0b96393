-- `walls::closed_at` meets its contract.
use Prim.Native.Nat.{◌<◌}
use mathlib.Core.Path.{◌≡◌}
use native.Mathlib.Omega.{arith}
use lib.ListN.{length}
use Rattle.model.specs.Table.{link}
use Rattle.walls.proofs.Drawings.{entry_of, link_of, closed_flat, closed_solid}
use Rattle.walls.proofs.closed_at.Goals as goal
use Rattle.walls.proofs.closed_at.Goals.{Start}

-- a link of h is a slot, and has a mark
inside : (s : Start) (j : _) → j < 4 → link s.args.table.now j s.args.h < length s.args.marks.now
inside s j low = let (D, i) = s.requires in rw D.long (link_of D s.args.h i j low)

pub link_in-requires : goal.link_in-requires
link_in-requires c = let (D, i) = c.requires in entry_of D _ i 0 (omega arith)

pub on_wall-requires : goal.on_wall-requires
on_wall-requires c = rw c.link_in.ensures (inside (goal.at.on_wall-requires c).Start 0 (omega arith))

pub link_in-requires-2 : goal.link_in-requires-2
link_in-requires-2 c =
    let (D, i) = c.requires in
    let top = D.table.dim.1 in
    entry_of D _ i _ (omega arith)

pub on_wall-requires-2 : goal.on_wall-requires-2
on_wall-requires-2 c =
    let top = c.requires.0.table.dim.1 in
    rw c.link_in-2.ensures (inside (goal.at.on_wall-requires-2 c).Start _ (omega arith))

pub link_in-requires-then-n-eq3 : goal.link_in-requires-then-n-eq3
link_in-requires-then-n-eq3 c = let (D, i) = c.requires in entry_of D _ i 1 (omega arith)

pub on_wall-requires-then-n-eq3 : goal.on_wall-requires-then-n-eq3
on_wall-requires-then-n-eq3 c = rw c.link_in-then-n-eq3.ensures (inside (goal.at.on_wall-requires-then-n-eq3 c).Start 1 (omega arith))

pub returns-then-n-eq3 : goal.returns-then-n-eq3
returns-then-n-eq3 c = cc (closed_solid c.args.table.now c.args.marks.now c.args.h)

pub returns-else-n-eq3 : goal.returns-else-n-eq3
returns-else-n-eq3 c =
    let dim = c.requires.0.table.dim in
    let two : c.args.n ≡ 2 = omega arith in
    cc (closed_flat c.args.table.now c.args.marks.now c.args.h)
