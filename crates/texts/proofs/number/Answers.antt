-- `texts::number` meets its contract, by the length of the text and its first byte.
use mathlib.Core.Path.{sym, ap, ◌∙◌}
use native.Mathlib.Omega.{arith}
use Rattle.std.proofs.lemmas.Bool.{eqb-true, eqb-false}
use Rattle.model.specs.Text.{up_to}
use Rattle.texts.proofs.Reading.{unfit, number_empty, number_one, number_zero, number_many}
use Rattle.texts.proofs.number.Goals as goal

pub returns-then-is_empty : goal.returns-then-is_empty
returns-then-is_empty c = unfit _ (number_empty _ (eqb-true _ _ (sym c.is_empty.ensures ∙ c.if-is_empty.true)))

pub returns-then-text-eq1 : goal.returns-then-text-eq1
returns-then-text-eq1 c =
    c.digits.ensures ∙ ap (up_to c.args.top) (sym (number_one _ c.if-text-eq1.true))

pub returns-then-zero_first : goal.returns-then-zero_first
returns-then-zero_first c =
    unfit _ (number_zero _ (let some = eqb-false _ _ (sym c.is_empty.ensures ∙ c.if-is_empty.false) in grind arith) c.if-zero_first.true)

pub returns : goal.returns
returns c =
    c.digits-2.ensures ∙ ap (up_to c.args.top) (sym (number_many c.args.text.now (let some = eqb-false _ _ (sym c.is_empty.ensures ∙ c.if-is_empty.false) in grind arith)
    c.if-zero_first.false))
