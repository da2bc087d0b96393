-- `call_sew::sew_items` meets its contract. The loop's invariant: the items before those that are left stand.
use mathlib.Core.Path.{◌≡◌}
use Rattle.std.specs.Slice.Iter.{chunks_exact_rest, chunks_exact_size}
use Rattle.call_sew.proofs.Going.{Going}
use Rattle.call_sew.proofs.sew_items.Given as goal

abbrev pub invariant-loop-item : goal.invariant-loop-item
invariant-loop-item l =
    Going l.n l.tag l.initial.table l.initial.journal l.list l.initial.marks l.initial.groups l.initial.xs l.initial.ys (chunks_exact_rest l.item-iterator) l.place l.count l.table l.journal l.marks l.groups l.xs l.ys
    × (chunks_exact_size l.item-iterator ≡ 3)
