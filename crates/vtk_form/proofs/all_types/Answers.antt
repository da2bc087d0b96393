use mathlib.Core.Path.{refl, ap, ◌∙◌}
use mathlib.Core.List.{[]}
use native.Mathlib.Omega.{arith}
use lib.ListN.{length}
use lib.Dec.{eqb}
use Rattle.model.specs.Lists.{all_of}
use Rattle.vtk_words.proofs.Counting.{none_some, refuted}
use Rattle.vtk_words.proofs.Passing.{end_none, words_some}
use Rattle.vtk_form.proofs.Gone.{gone_start, gone_more, gone_next, gone_end}
use Rattle.vtk_form.proofs.Named.{all_more}
use Rattle.vtk_form.proofs.Typing.{left_all, left_more, left_none}
use Rattle.vtk_form.proofs.all_types.Goals as goal

pub loop-init : goal.loop-init
unfolding all_of
loop-init c = (omega arith, omega arith, ([], gone_start _ _, refl))

pub returns-in_err-twelve : goal.returns-in_err-twelve
returns-in_err-twelve c =
    let (done, g, _) = c.loop.invariant.2 in
    rw c.from_residual.ensures (left_none _ _ (refuted _ (λ ts h.
    let (x, (vs, _, f)) = gone_next _ _ _ done _ g (omega arith) ts h in
    none_some c.in_err-twelve.ensures f.is)))

pub loop-preserved : goal.loop-preserved
loop-preserved c =
    let (done, g, twelve) = c.loop.invariant.2 in
    let (high, (v, is, one)) = c.in_ok-twelve.ensures in (
      omega arith,
      high,
      (
        _,
        gone_more _ _ _ done _ g (omega arith) _ is,
        all_more (λ x. eqb x 12) done v c.loop.all _ twelve one,
      ),
    )

pub returns-then-word_start-text : goal.returns-then-word_start-text
returns-then-word_start-text c =
    let a = c.args in
    let (done, g, _) = c.loop.invariant.2 in
    let (_, behind) = gone_end _ _ _ done _ g (omega arith) in
    let begins = c.word_start.ensures in
    let one = words_some a.text.now c.word_start.result c.if-word_start-text.true (begins.full c.if-word_start-text.true) in
    let long = ap length (behind ∙ begins.same) in
    left_more _ _ (omega arith)

pub returns : goal.returns
returns c =
    let a = c.args in
    let (done, g, twelve) = c.loop.invariant.2 in
    let (read, behind) = gone_end _ _ _ done _ g (omega arith) in
    let nothing = end_none a.text.now c.word_start.result (omega arith) in
    (done, left_all _ _ done read (behind ∙ c.word_start.ensures.same ∙ nothing), twelve)
