-- `vtk_words::zero_at` meets its contract, by what stands behind the zero.
use mathlib.Core.Path.{sym, ◌∙◌}
use native.Mathlib.Omega.{arith}
use Rattle.vtk_words.proofs.Numbering.{zero_end, zero_blank, zero_other}
use Rattle.vtk_words.proofs.zero_at.Goals as goal

pub returns-then-end-text : goal.returns-then-end-text
returns-then-end-text c =
    let a = c.args in
    (omega arith, zero_end a.text.now a.start c.requires.0 c.requires.1 (omega arith), omega arith)

pub returns-then-is_blank : goal.returns-then-is_blank
returns-then-is_blank c =
    let a = c.args in (
      omega arith,
      zero_blank a.text.now a.start c.requires.0 c.requires.1 (omega arith) (sym c.is_blank.ensures ∙ c.if-is_blank.true),
      omega arith,
    )

pub returns : goal.returns
returns c =
    let a = c.args in
    zero_other a.text.now a.start c.requires.0 c.requires.1 (omega arith) (sym c.is_blank.ensures ∙ c.if-is_blank.false)
