-- `lines::giving::number_behind` meets its contract.
use mathlib.Core.Path.{ap, ◌∙◌}
use Prim.Native.Nat.{ℕ}
use mathlib.Core.List.{List}
use Rattle.model.specs.Text.{number, up_to}
use Rattle.lines.proofs.Behind.{behind_other, behind_key}
use Rattle.lines.proofs.giving.number_behind.Goals as goal

pub returns-in_err-strip_prefix : goal.returns-in_err-strip_prefix
returns-in_err-strip_prefix c = rw c.from_residual.ensures (behind_other c.args.key.now _ _ c.in_err-strip_prefix.ensures.cases)

pub returns : goal.returns
returns c =
    let value = λ (v : List ℕ). up_to c.args.top (number v) in
    let (starts, rest, _) = c.in_ok-strip_prefix.ensures.cases in
    c.number.ensures ∙ ap value rest ∙ behind_key c.args.key.now value c.args.line.now starts
