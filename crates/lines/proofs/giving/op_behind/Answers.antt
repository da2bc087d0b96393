-- `lines::giving::op_behind` meets its contract.
use mathlib.Core.Path.{ap, ◌∙◌}
use Rattle.model.specs.Session.{names, place_from}
use Rattle.lines.proofs.Behind.{behind_other, behind_key}
use Rattle.lines.proofs.giving.op_behind.Goals as goal

pub returns-in_err-strip_prefix : goal.returns-in_err-strip_prefix
returns-in_err-strip_prefix c = rw c.from_residual.ensures (behind_other c.args.key.now _ _ c.in_err-strip_prefix.ensures.cases)

pub returns : goal.returns
returns c =
    let value = (place_from 0 names) in
    let (starts, rest, _) = c.in_ok-strip_prefix.ensures.cases in
    c.op_named.ensures ∙ ap value rest ∙ behind_key c.args.key.now value c.args.line.now starts
