use mathlib.Core.Path.{sym, ◌∙◌}
use native.Mathlib.Omega.{arith}
use borrow.Author.Count.{below_none, below_more}
use Rattle.model.specs.Map.{least_breaking}
use Rattle.reading.proofs.Passed.{table_short}
use Rattle.reading.proofs.Found.{found, none_found}
use Rattle.reading.proofs.first_breaking.Goals as goal

pub slots-end-requires : goal.slots-end-requires
slots-end-requires c = table_short _ c.requires.1

pub loop-d-init : goal.loop-d-init
loop-d-init c = below_none _

pub returns-then-breaks_rule : goal.returns-then-breaks_rule
unfolding least_breaking
returns-then-breaks_rule c =
    let end = c.slots-end.ensures in
    found _ _ _ (omega arith) c.loop-d.invariant (sym c.breaks_rule.ensures ∙ c.if-breaks_rule.true)

pub loop-d-preserved : goal.loop-d-preserved
loop-d-preserved c = below_more _ _ c.loop-d.invariant (sym c.breaks_rule.ensures ∙ c.if-breaks_rule.false)

pub returns : goal.returns
unfolding least_breaking
returns c =
    let end = c.slots-end.ensures in
    none_found _ _ (λ k l. c.loop-d.invariant k (omega arith))
