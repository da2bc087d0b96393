use Prim.Native.Nat.{ℕ, ◌+◌, ◌*◌, ◌-◌, ◌≤◌, ◌<◌}
use mathlib.Core.Path.{◌≡◌, ap, ◌∙◌}
use native.Mathlib.Omega.{arith}
use lib.ListN.{length, get_or}
use Rattle.theorems.proofs.Lists.Scan.{if_lt}
use Rattle.theorems.proofs.Sets.Pigeon.{count_most}
use Rattle.theorems.proofs.Layers.Sheet.{sheet_live}
use Rattle.sheets.proofs.Layers.{Settling}
use Rattle.picks.specs.Queued.{group, Listed}
use Rattle.picks.proofs.Alike.{group_in, group_next}
use Rattle.picks.proofs.Settling.{Done, settling_none, settling_group, settled_all}
use Rattle.picks.proofs.mark_rest.Goals as goal
use Rattle.picks.proofs.mark_rest.Goals.{After-mark_group, At-loop-k, In-loop-k}

pub loop-k-init : goal.loop-k-init
loop-k-init c =
    let L = c.requires in
    (L, rw L.marks (settling_none L.dart), λ i h. absurd (omega arith), (0, omega arith), omega arith)

-- the queue has as many words
words_few : (c : At-loop-k) → c.args.count ≤ length c.args.queue.now
words_few c =
    let L = c.requires in
    let most = count_most c.args.marks.now in
    let size = L.within in
    let long = ap length L.marks ∙ (settling_none L.dart).long in
    let words = L.words in
    omega arith

-- the group that begins ends with the queue's words
room : (c : In-loop-k) → c.loop-k.k + group c.args.n ≤ c.args.count
room c =
    let (L, _, _, (z, at), _) = c.loop-k.invariant in
    let (cells, is) = L.queued.cells in
    let some = c.loop-k-test.true in
    let enough = group_in c.args.n L.dart.table.dim z cells (omega arith) in
    omega arith

pub mark_group-requires : goal.mark_group-requires
mark_group-requires c =
    let (L, P, _, _, _) = c.loop-k.invariant in
    let enough = room (goal.at.mark_group-requires c).In-loop-k in
    let few = words_few (goal.at.mark_group-requires c).At-loop-k in
    record {
      dim = L.dart.table.dim;
      darts = λ j h. record { table = L.dart.table; lives = sheet_live L.dart _ (L.queued.within _ (omega arith)) };
      long = P.long;
      words = L.words;
      room = omega arith;
    }

pub group-k-step-requires : goal.group-k-step-requires
group-k-step-requires c = c.requires.dart.table.dim

pub overflow_step-k : goal.overflow_step-k
overflow_step-k c =
    let enough = room (goal.at.overflow_step-k c).In-loop-k in
    let few = words_few (goal.at.overflow_step-k c).At-loop-k in
    let words = c.requires.words in
    let slots = c.requires.dart.table.few in
    let is = c.group-k-step.ensures in
    omega arith

pub loop-k-smaller : goal.loop-k-smaller
loop-k-smaller c =
    let is = c.group-k-step.ensures in
    let two = c.requires.dart.table.dim.0 in
    let some = c.loop-k-test.true in
    omega arith

-- what holds behind the group
behind : (c : After-mark_group) →
    let a = c.args in
    let r = c.mark_group.new.marks in
    let k = c.loop-k.k + group a.n in
    (L : Listed a.n a.table.now a.marks.now a.queue.now a.count) × Settling a.n a.table.now L.seed r
    × ((i : ℕ) → i < k → Done a.n a.table.now r (get_or a.queue.now i 0)) × ((z : ℕ) × (k ≡ group a.n * z)) × (k ≤ a.count)
behind c =
    let (L, P, all, (z, at), _) = c.loop-k.invariant in
    let some = c.loop-k-test.true in
    let (G, done) = settling_group L.dart P L.queued z (rw (← at) some) _ (rw at at c.mark_group.ensures) in
    let enough = room (goal.at.After-mark_group c).In-loop-k in
    let next = group_next c.args.n L.dart.table.dim z in (
      L,
      G.settling,
      λ j h. if_lt j c.loop-k.k (λ b.
          let (one, two) = all j b in
          (G.kept _ one, λ three. G.kept _ (two three)))
          (λ b.
          let spot : group c.args.n * z + (j - c.loop-k.k) ≡ j = omega arith in
          rw spot at (done (j - c.loop-k.k) (omega arith))),
      (z + 1, omega arith),
      omega arith,
    )

pub loop-k-preserved : goal.loop-k-preserved
loop-k-preserved c = rw c.group-k-step.ensures (behind (goal.at.loop-k-preserved c).After-mark_group)

pub returns : goal.returns
returns c =
    let (L, P, all, _, _) = c.loop-k.invariant in
    let end = c.loop-k-test.false in
    rw L.marks (settled_all L.dart P L.queued (λ i h. all i (omega arith)))

pub returns-2 : goal.returns-2
returns-2 c =
    let (L, P, all, _, _) = behind (goal.at.returns-2 c).After-mark_group in
    let is = c.group-k-step.ensures in
    rw L.marks (settled_all L.dart P L.queued (λ i h. all i (omega arith)))
