-- `reading::broken::breaking_link` meets its contract. The loop's invariant: no link passed breaks the rule.
use Prim.Native.Nat.{ℕ, ◌<◌}
use mathlib.Core.Path.{◌≡◌}
use mathlib.Core.Bool.{false, not}
use Rattle.model.specs.Map.{keeps_at}
use Rattle.reading.specs.RuleOf.{rule_of}
use Rattle.reading.proofs.broken.breaking_link.Given as goal

abbrev pub invariant-loop-i : goal.invariant-loop-i
invariant-loop-i l = (k : ℕ) → k < l.i → not (keeps_at l.n l.table l.d (rule_of l.rule) k) ≡ false
