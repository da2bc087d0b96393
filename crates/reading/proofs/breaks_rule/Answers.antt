-- `reading::breaks_rule` meets its contract.
use mathlib.Core.Path.{sym, ap, ◌∙◌}
use mathlib.Core.Bool.{not}
use native.Mathlib.Omega.{arith}
use Rattle.model.specs.Map.{keeps_rules, breaks_rule}
use Rattle.theorems.proofs.Maps.Failing.{failing, failing_live, failing_dead}
use Rattle.theorems.proofs.Maps.Rules.{live_in}
use Rattle.reading.proofs.Passed.{table_passed}
use Rattle.reading.proofs.breaks_rule.Goals as goal

pub keeps_rules-requires : goal.keeps_rules-requires
keeps_rules-requires c =
    let sized = table_passed c.args.table.now c.requires.1 in
    let in_slots = live_in c.args.table.now c.args.d sized.fits (sym c.live.ensures ∙ c.if-live.true) in
    (c.requires.0, omega arith)

pub returns-then-live : goal.returns-then-live
unfolding breaks_rule failing
returns-then-live c =
    let a = c.args in
    let e = sym c.live.ensures ∙ c.if-live.true in
    ap not c.keeps_rules.ensures ∙ sym (failing_live a.table.now (keeps_rules a.n a.table.now) a.d e)

pub returns-else-live : goal.returns-else-live
unfolding breaks_rule failing
returns-else-live c =
    let a = c.args in
    sym (failing_dead a.table.now (keeps_rules a.n a.table.now) a.d (sym c.live.ensures ∙ c.if-live.false))
