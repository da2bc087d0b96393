-- `printing::to_lines` meets its contract. The loop's invariant: the lines before d are written.
use Prim.Native.Nat.{◌+◌, ◌-◌, ◌*◌, ◌≤◌}
use mathlib.Core.Path.{◌≡◌}
use lib.ListN.{length}
use Rattle.model.specs.Import.{to_lines}
use Rattle.texts.specs.Texts.{Appended}
use Rattle.printing.proofs.to_lines.Given as goal

abbrev pub invariant-loop-d : goal.invariant-loop-d
invariant-loop-d l =
    (l.a ≤ l.d) × (l.d ≤ l.d-end) × (l.d-end ≡ l.a + l.k) × (length l.out ≡ length l.initial.out) × (l.place ≤ l.at + 96 * (l.d - l.a))
    × Appended l.initial.out l.at (to_lines (l.d - l.a) l.a l.table) l.out l.place
