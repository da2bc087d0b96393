use Prim.Native.Nat.{◌+◌, ◌≤◌}
use mathlib.Core.Path.{◌≡◌, sym, ap, ◌∙◌}
use native.Mathlib.Omega.{arith}
use lib.ListN.{length, get_or}
use Rattle.model.specs.Table.{link}
use Rattle.picks.specs.Enter.{Dart, beside_at}
use Rattle.picks.proofs.Darts.{dart_low, dart_there, dart_next}
use Rattle.picks.proofs.Entering.{entered_none, entered_next}
use Rattle.picks.proofs.enter_beside.Goals as goal
use Rattle.picks.proofs.enter_beside.Goals.{After-link_in-x, In-loop-k}

pub loop-k-init : goal.loop-k-init
loop-k-init c = (omega arith, entered_none _ _ _ _)

-- the word that is read stands as at first
word : (c : In-loop-k) →
    let a = c.args in
    let l = c.loop-k in
    get_or l.queue (a.at + l.k) 0 ≡ get_or a.queue.now (a.at + l.k) 0
word c = c.loop-k.invariant.1.kept _ (omega arith)

dart : (c : In-loop-k) →
    let a = c.args in
    Dart a.table.now (get_or a.queue.now (a.at + c.loop-k.k) 0)
dart c = c.requires.by_index _ (omega arith)

room : (c : In-loop-k) → c.args.at + 16 ≤ length c.loop-k.queue
room c =
    let words = c.loop-k.invariant.1.words in
    let enough = c.requires.marks_len.1 in
    omega arith

pub overflow_add-at : goal.overflow_add-at
overflow_add-at c = let enough = room c in omega (arith, c.slice_known-2-1.given 0)

pub offset_bounds-queue-at : goal.offset_bounds-queue-at
offset_bounds-queue-at c = let enough = room c in omega (arith, c.slice_known-2-1.given 0)

pub bounds-queue-at : goal.bounds-queue-at
bounds-queue-at c = let enough = room (goal.at.bounds-queue-at c).In-loop-k in omega arith

pub link_in-x-requires : goal.link_in-x-requires
link_in-x-requires c = rw (word (goal.at.link_in-x-requires c).In-loop-k) (dart_there (dart (goal.at.link_in-x-requires c).In-loop-k) 2 (omega arith))

led : (c : After-link_in-x) →
    let a = c.args in
    beside_at a.table.now a.queue.now a.at c.loop-k.k ≡ c.link_in-x.result
led c = sym (c.link_in-x.ensures ∙ ap (link c.args.table.now 2) (word (goal.at.After-link_in-x c).In-loop-k))

pub overflow_add-at-in-loop-k : goal.overflow_add-at-in-loop-k
overflow_add-at-in-loop-k c =
    let enough = room (goal.at.overflow_add-at-in-loop-k c).In-loop-k in
    omega (arith, c.slice_known-2-1.given 0)

pub overflow_add-at-in-loop-k-2 : goal.overflow_add-at-in-loop-k-2
overflow_add-at-in-loop-k-2 c =
    let enough = room (goal.at.overflow_add-at-in-loop-k-2 c).In-loop-k in
    omega (arith, c.slice_known-2-1.given 0)

pub enter-requires : goal.enter-requires
enter-requires c =
    let low = dart_low (dart_next (dart (goal.at.enter-requires c).In-loop-k) 2 (omega arith)) in
    let is = led (goal.at.enter-requires c).After-link_in-x in
    let all = c.requires.marks_len.0 in
    let long = c.loop-k.invariant.1.long in
    let enough = room (goal.at.enter-requires c).In-loop-k in
    (omega arith, omega arith)

pub loop-k-preserved : goal.loop-k-preserved
loop-k-preserved c = (
  omega arith,
  entered_next c.loop-k.invariant.1 c.enter.ensures (led (goal.at.loop-k-preserved c).After-link_in-x),
)

pub returns : goal.returns
returns c =
    let end : c.loop-k.k ≡ 8 = omega arith in
    rw end at c.loop-k.invariant.1
