-- `vtk_words::number_at` meets its contract, by the word's first byte.
use Prim.Native.Nat.{◌<◌}
use mathlib.Core.Path.{sym, ap, ◌∙◌, subst}
use mathlib.Core.Option.{Option}
use native.Mathlib.Omega.{arith}
use lib.ListN.{length}
use Rattle.model.specs.Vtk.{Counted, counted}
use Rattle.vtk_words.specs.Words.{NumberOf}
use Rattle.vtk_words.proofs.Passing.{end_none}
use Rattle.vtk_words.proofs.Numbering.{first_word, no_number}
use Rattle.vtk_words.proofs.number_at.Goals as goal

pub returns-then-start-text : goal.returns-then-start-text
returns-then-start-text c =
    let a = c.args in
    no_number _ (c.word_start-start.ensures.same ∙ end_none a.text.now c.word_start-start.result (omega arith))

pub returns-then-text-start-eq48 : goal.returns-then-text-start-eq48
returns-then-text-start-eq48 c =
    let a = c.args in
    subst (λ (o : Option Counted). NumberOf a.text.now o c.zero_at.result)
    (sym (ap counted c.word_start-start.ensures.same)) c.zero_at.ensures

pub returns : goal.returns
returns c =
    let a = c.args in
    let high = c.word_start-start.ensures.high in
    let low : c.word_start-start.result < length a.text.now = omega arith in
    let first =
    ap counted c.word_start-start.ensures.same
    ∙ first_word a.text.now c.word_start-start.result low (c.word_start-start.ensures.full low) c.if-text-start-eq48.false in
    subst (λ (o : Option Counted). NumberOf a.text.now o c.digits_at.result) (sym first) c.digits_at.ensures
