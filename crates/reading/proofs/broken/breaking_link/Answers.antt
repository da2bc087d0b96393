use mathlib.Core.Path.{sym, ap, ◌∙◌}
use mathlib.Core.Bool.{not}
use native.Mathlib.Omega.{arith}
use borrow.Author.Count.{below_none, below_more}
use Rattle.model.specs.Map.{breaking_link}
use Rattle.reading.proofs.Found.{found, none_found}
use Rattle.reading.proofs.broken.breaking_link.Goals as goal

pub loop-i-init : goal.loop-i-init
loop-i-init c = below_none _

pub returns-then-not-keeps_at : goal.returns-then-not-keeps_at
unfolding breaking_link
returns-then-not-keeps_at c =
    found _ 4 _ (omega arith) c.loop-i.invariant (ap not (sym c.keeps_at.ensures ∙ c.if-not-keeps_at.true))

pub loop-i-preserved : goal.loop-i-preserved
loop-i-preserved c = below_more _ _ c.loop-i.invariant (ap not (sym c.keeps_at.ensures ∙ c.if-not-keeps_at.false))

pub returns : goal.returns
unfolding breaking_link
returns c = none_found _ 4 (λ k l. c.loop-i.invariant k (omega arith))
