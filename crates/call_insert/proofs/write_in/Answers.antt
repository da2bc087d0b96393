-- `call_insert::write_in` meets its contract, by that of `new_darts::write_layer`.
use Prim.Native.Nat.{◌*◌, ◌≤◌}
use native.Mathlib.Omega.{arith}
use lib.ListN.{length}
use Rattle.call_insert.proofs.Parts.{behind}
use Rattle.call_insert.proofs.write_in.Goals as goal
use Rattle.call_insert.proofs.write_in.Goals.{Start}

pub overflow_mul-darts : goal.overflow_mul-darts
overflow_mul-darts c = let few = c.requires.1 in omega arith

pub overflow_cast-darts : goal.overflow_cast-darts
overflow_cast-darts c = let few = c.requires.1 in omega arith

-- the new slots are words of the queue
inside : (s : Start) → s.args.n * s.args.size ≤ length s.args.queue.now
inside s = s.requires.0.1.listed.room

pub slice_bounds-darts-count : goal.slice_bounds-darts-count
slice_bounds-darts-count c = inside (goal.at.slice_bounds-darts-count c).Start

pub write_layer-requires : goal.write_layer-requires
write_layer-requires c =
    let p = c.requires.0 in
    (p.0, rw (behind _ _) p.1)

pub returns : goal.returns
returns c = λ m W. c.write_layer.ensures m (rw (behind _ _) W)
