use mathlib.Core.Path.{◌≡◌, sym, ◌∙◌}
use native.Mathlib.Omega.{arith}
use Rattle.model.specs.Session.{names, place_from}
use Rattle.texts.proofs.Comparing.{equal_pointwise}
use Rattle.lines.proofs.Ops.{past, found}
use Rattle.lines.proofs.giving.op_named.Goals as goal

pub returns-then-eq : goal.returns-then-eq
returns-then-eq c =
    found _ _ (omega arith) c.loop-k.invariant.1
    (rw (← c.name.ensures) (sym (equal_pointwise _ _) ∙ sym c.eq.ensures ∙ c.if-eq.true))

pub loop-k-preserved : goal.loop-k-preserved
loop-k-preserved c = (
  omega arith,
  past _ _ (omega arith) c.loop-k.invariant.1
      (rw (← c.name.ensures) (sym (equal_pointwise _ _) ∙ sym c.eq.ensures ∙ c.if-eq.false)),
)

pub returns : goal.returns
unfolding names place_from
returns c =
    let end : c.loop-k.k ≡ 10 = omega arith in
    sym (rw end at c.loop-k.invariant.1)
