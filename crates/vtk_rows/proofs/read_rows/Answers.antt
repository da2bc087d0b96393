use mathlib.Core.Path.{◌≡◌}
use mathlib.Core.List.{[]}
use native.Mathlib.Omega.{arith}
use lib.ListN.{get_or}
use Rattle.vtk_words.proofs.Told.{number_refused}
use Rattle.vtk_rows.proofs.Rows.{along_start, along_next, along_row, along_more, along_read}
use Rattle.vtk_rows.proofs.read_rows.Goals as goal

pub loop-c-init : goal.loop-c-init
loop-c-init c =
    let a = c.args in (
      omega arith,
      c.requires.0.1.stand.low,
      omega arith,
      λ rs h. along_start a.text.now a.at a.k rs h a.rows.now,
    )

pub returns-in_default : goal.returns-in_default
returns-in_default c = λ rs h.
    let a = c.args in
    let (d, e, eight) = along_next a.text.now a.at a.k rs h a.rows.now c.loop-c.rows c.loop-c.p c.loop-c.c (omega arith) (c.loop-c.invariant.3 rs h) in
    let high = number_refused a.text.now _ c.in_default.field-0 c.in_default.ensures d e in
    absurd (omega arith)

pub read_row-p-requires : goal.read_row-p-requires
read_row-p-requires c =
    let a = c.args in
    let (rs, h) = c.requires.0 in
    let (high, long, _) = c.in-Ok.ensures in
    let row = along_row a.text.now a.at a.k rs h a.rows.now c.loop-c.rows c.loop-c.p c.loop-c.c (omega arith)
    (c.loop-c.invariant.3 rs h) _ _ long in
    (high, (get_or rs c.loop-c.c [], row), omega arith)

pub loop-c-preserved : goal.loop-c-preserved
loop-c-preserved c =
    let a = c.args in
    let (high, long, _) = c.in-Ok.ensures in
    let kept = c.read_row-p.auto.rows in (
      omega arith,
      c.read_row-p.ensures.high,
      omega arith,
      λ rs h.
          let g = c.loop-c.invariant.3 rs h in
          let row = along_row a.text.now a.at a.k rs h a.rows.now c.loop-c.rows c.loop-c.p c.loop-c.c (omega arith) g _ _ long in
          along_more a.text.now a.at a.k rs h a.rows.now c.loop-c.rows c.loop-c.p c.loop-c.c (omega arith) g _ _ long
          c.read_row-p.result c.read_row-p.new.rows c.read_row-p.ensures.high (c.read_row-p.ensures.read _ row),
    )

pub returns : goal.returns
returns c = λ rs h.
    let a = c.args in
    let all : c.loop-c.c ≡ a.k = omega arith in
    along_read a.text.now a.at a.k rs h a.rows.now c.loop-c.rows c.loop-c.p c.loop-c.invariant.2 c.requires.1 (rw all at (c.loop-c.invariant.3 rs h))
