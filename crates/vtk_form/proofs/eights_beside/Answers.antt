use mathlib.Core.Path.{sym, ap, ◌∙◌}
use mathlib.Core.Bool.{Bool, not, ◌&&◌}
use native.Mathlib.Omega.{arith}
use lib.Dec.{eqb}
use Rattle.vtk_words.proofs.Counting.{none_some}
use Rattle.vtk_words.proofs.Told.{number_refused}
use Rattle.vtk_form.proofs.Beside.{beside_start, beside_row, beside_type, beside_more, beside_stop, beside_end}
use Rattle.vtk_form.proofs.eights_beside.Goals as goal

pub loop-init : goal.loop-init
loop-init c = (omega arith, omega arith, omega arith, λ rows size low read ts types. beside_start _ size _ _ rows ts low read types)

pub returns-in_default : goal.returns-in_default
returns-in_default c = λ rows size low read ts types.
    let b = c.loop.invariant.3 rows size low read ts types in
    let f = beside_row _ _ _ _ rows ts b (omega arith) in
    let high = number_refused _ _ c.in_default.field-0 c.in_default.ensures _ f.is in
    let small = f.low in
    let less = b.low in
    absurd (omega arith)

pub returns-in_default-type_at : goal.returns-in_default-type_at
returns-in_default-type_at c = λ rows size low read ts types.
    let b = c.loop.invariant.3 rows size low read ts types in
    let f = beside_type _ _ _ _ rows ts b (omega arith) in
    absurd (none_some c.in_default-type_at.ensures f.is)

pub returns-then-twelve-k : goal.returns-then-twelve-k
returns-then-twelve-k c = λ rows size low read ts types.
    let b = c.loop.invariant.3 rows size low read ts types in
    let (_, row, _) = c.in-Ok.ensures in
    let (_, (v, type, twelve)) = c.in-Some.ensures in
    sym (beside_stop _ _ _ _ rows ts b (omega arith) _ v _ _ row type
    (ap (λ (x : Bool). x && not (eqb c.in-Ok.field-0.value 8)) (sym twelve) ∙ c.if-twelve-k.true))

pub loop-preserved : goal.loop-preserved
loop-preserved c =
    let (_, row, _) = c.in-Ok.ensures in
    let (high, (v, type, twelve)) = c.in-Some.ensures in (
      omega arith,
      c.skip_words-p.ensures.high,
      high,
      λ rows size low read ts types.
          let b = c.loop.invariant.3 rows size low read ts types in
          let more = beside_more _ _ _ _ rows ts b (omega arith) _ v _ _ row type
          (ap (λ (x : Bool). x && not (eqb c.in-Ok.field-0.value 8)) (sym twelve) ∙ c.if-twelve-k.false) in
          rw (← c.skip_words-p.ensures.same) more,
    )

pub returns : goal.returns
returns c = λ rows size low read ts types.
    sym (beside_end _ _ _ _ rows ts (c.loop.invariant.3 rows size low read ts types) (omega arith))
