-- `vtk_words::behind_word` meets its contract.
use mathlib.Core.Path.{sym, ◌∙◌}
use native.Mathlib.Omega.{arith}
use Rattle.texts.proofs.Comparing.{equal_pointwise}
use Rattle.vtk_words.proofs.Passing.{end_none, first_of, key_none, key_is, key_other}
use Rattle.vtk_words.proofs.behind_word.Goals as goal

pub returns-then-start-text : goal.returns-then-start-text
returns-then-start-text c =
    let a = c.args in
    key_none a.key.now _ (c.word_start-start.ensures.same ∙ end_none a.text.now c.word_start-start.result (omega arith))

pub returns-then-eq : goal.returns-then-eq
returns-then-eq c =
    let a = c.args in
    let low = c.word_start-start.ensures.high in
    let first = first_of a.text.now a.at c.word_start-start.result c.word_end-end.result c.word_start-start.ensures c.word_end-end.ensures (omega arith) in
    (c.word_end-end.ensures.high, key_is a.key.now _ _ _ first (sym (equal_pointwise _ _) ∙ sym c.eq.ensures ∙ c.if-eq.true))

pub returns : goal.returns
returns c =
    let a = c.args in
    let low = c.word_start-start.ensures.high in
    let first = first_of a.text.now a.at c.word_start-start.result c.word_end-end.result c.word_start-start.ensures c.word_end-end.ensures (omega arith) in
    key_other a.key.now _ _ _ first (sym (equal_pointwise _ _) ∙ sym c.eq.ensures ∙ c.if-eq.false)
