-- `call_sew::item::join` meets its contract. The loop's invariant: the first k pairs are linked and marked.
use Prim.Native.Nat.{ℕ, ◌-◌, ◌≤◌}
use Rattle.model.specs.Sew.{sew_table}
use Rattle.call_sew.specs.Joins.{Among, Joining}
use Rattle.call_sew.proofs.Parts.{Part}
use Rattle.call_sew.proofs.item.join.Given as goal

abbrev pub invariant-loop-k : goal.invariant-loop-k
invariant-loop-k l =
    (l.k ≤ l.size)
    × ((n d e : ℕ) → Joining n l.initial.table l.initial.marks l.initial.groups l.i d e l.xs l.ys l.size
    → Part l.initial.table (sew_table n l.initial.table l.i d e) l.initial.marks l.initial.groups l.i (Among l.xs l.ys l.k) l.table l.marks l.groups)

abbrev pub decreases-loop-k : goal.decreases-loop-k
decreases-loop-k l = l.size - l.k
