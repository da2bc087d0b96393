-- `call_insert::list_behind` meets its contract, by that of `new_darts::list_darts`.
use Prim.Native.Nat.{◌*◌, ◌≤◌}
use native.Mathlib.Omega.{arith}
use lib.ListN.{length, length-drop}
use Rattle.call_insert.proofs.Parts.{behind, put_behind, put_before, put_long}
use Rattle.call_insert.proofs.list_behind.Goals as goal
use Rattle.call_insert.proofs.list_behind.Goals.{Start}

-- the new slots are words of the queue
inside : (s : Start) → s.args.n * s.args.size ≤ length s.args.queue.now
inside s = let room = s.requires.4 in omega arith

pub overflow_mul-n : goal.overflow_mul-n
overflow_mul-n c = let few = c.requires.3 in omega arith

pub overflow_cast-n : goal.overflow_cast-n
overflow_cast-n c = let few = c.requires.3 in omega arith

pub slice_bounds-list_darts-count : goal.slice_bounds-list_darts-count
slice_bounds-list_darts-count c = inside (goal.at.slice_bounds-list_darts-count c).Start

pub list_darts-requires : goal.list_darts-requires
list_darts-requires c =
    let p = c.requires in
    let room = p.4 in
    let long = length-drop (c.args.n * c.args.size) c.args.queue.now in
    record { marks_len_bound = (p.0, p.1, p.3, p.2); size_in_bounds = (rw (behind (c.args.n * c.args.size) c.args.queue.now) (omega arith), p.5) }

pub returns : goal.returns
returns c =
    let a = c.args.n * c.args.size in
    let q = c.args.queue.now in
    let p = c.list_darts.new.darts in
    let P = c.list_darts.ensures in
    record {
      placed = rw (put_behind a q p (inside (goal.at.returns c).Start) P.long, ← behind a q) P;
      before = put_before a q p (inside (goal.at.returns c).Start) P.long;
      long = put_long a q p (inside (goal.at.returns c).Start) P.long;
    }
