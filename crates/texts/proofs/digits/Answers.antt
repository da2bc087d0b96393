use mathlib.Core.Path.{sym, ap, ◌∙◌}
use native.Mathlib.Omega.{arith}
use lib.ListN.{length-drop}
use Rattle.model.specs.Text.{up_to}
use Rattle.texts.proofs.Reading.{digits_step, digits_other, digits_above, digits_end, within, unfit}
use Rattle.texts.proofs.digits.Goals as goal

pub returns-then-not-is_ascii_digit : goal.returns-then-not-is_ascii_digit
returns-then-not-is_ascii_digit c =
    let a = c.args in
    unfit a.top (digits_other c.loop-x.v a.text.now c.loop-x.x-index (omega arith) c.if-not-is_ascii_digit.ensures.cases)
    ∙ sym c.loop-x.invariant.1

pub returns-then-v-top : goal.returns-then-v-top
returns-then-v-top c =
    let a = c.args in
    let digit = c.if-not-is_ascii_digit.ensures.cases in
    sym (c.loop-x.invariant.1 ∙ ap (up_to a.top) (digits_step c.loop-x.v a.text.now c.loop-x.x-index (omega arith)
    (omega arith) (omega arith))
    ∙ digits_above a.top _ _ c.if-v-top.true)

pub loop-x-preserved : goal.loop-x-preserved
loop-x-preserved c =
    let a = c.args in
    let digit = c.if-not-is_ascii_digit.ensures.cases in (
      omega arith,
      c.loop-x.invariant.1
          ∙ ap (up_to a.top) (digits_step c.loop-x.v a.text.now c.loop-x.x-index (omega arith) (omega arith) (omega arith)),
    )

pub returns : goal.returns
returns c =
    let a = c.args in
    sym (c.loop-x.invariant.1 ∙ ap (up_to a.top) (digits_end c.loop-x.v _ (simp length-drop (omega arith)))
    ∙ within a.top c.loop-x.v c.loop-x.invariant.0)
