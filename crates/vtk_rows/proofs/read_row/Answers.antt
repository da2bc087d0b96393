use Prim.Native.Nat.{ℕ, ◌+◌, ◌-◌, ◌≤◌, ◌<◌}
use mathlib.Core.List.{List}
use mathlib.Core.Path.{◌≡◌}
use native.Mathlib.Omega.{arith}
use lib.ListN.{length, take, drop, length-take, length-drop, length-set}
use Rattle.vtk_words.proofs.Told.{number_refused}
use Rattle.vtk_rows.proofs.Reading.{going_start, going_next, going_more, going_read}
use Rattle.vtk_rows.proofs.read_row.Goals as goal
use Rattle.vtk_rows.proofs.read_row.Goals.{In-loop-word}

buffer_long : (base : ℕ) (rows : List ℕ) → base + 8 ≤ length rows → length (take (base + 8 - base) (drop base rows)) ≡ 8
buffer_long base rows room = simp (length-take, length-drop) (omega arith)

inside : (c : In-loop-word) → c.loop-word.word-index < 8
inside c = let low = c.loop-word-test.true in omega (arith, buffer_long c.args.base c.args.rows.now c.requires.2)

pub loop-word-init : goal.loop-word-init
loop-word-init c =
    let a = c.args in
    (omega arith, c.requires.0, buffer_long a.base a.rows.now c.requires.2, λ row h. going_start a.text.now a.at row _ 0 h)

pub returns-in_default-clause-read : goal.returns-in_default-clause-read
returns-in_default-clause-read c row h =
    let a = c.args in
    let g = c.loop-word.invariant.3 row h in
    let (d, e, few) = going_next a.text.now a.at row _ 0 c.loop-word.word-items c.loop-word.p c.loop-word.word-index (inside (goal.at.returns-in_default-clause-read c).In-loop-word) g h in
    let high = number_refused a.text.now _ c.in_default.field-0 c.in_default.ensures d e in
    absurd (omega arith)

pub loop-word-preserved : goal.loop-word-preserved
loop-word-preserved c =
    let a = c.args in
    let (high, first, _) = c.in-Ok.ensures in
    let i : ℕ = c.loop-word.word-index in
    let low : i < 8 = inside (goal.at.loop-word-preserved c).In-loop-word in
    let long : length c.loop-word.word-items ≡ 8 = c.loop-word.invariant.2 in (
      omega arith,
      high,
      simp length-set (c.loop-word.invariant.2),
      λ row h.
          let here : 0 + i ≡ i = omega arith in
          rw here at (going_more a.text.now a.at row _ 0 c.loop-word.word-items c.loop-word.p i (omega arith) (c.loop-word.invariant.3 row h) h _ _ first (omega arith)),
    )

pub returns-clause-read : goal.returns-clause-read
returns-clause-read c row h =
    let a = c.args in
    let high = c.loop-word.invariant.0 in
    let end : c.loop-word.word-index ≡ 8 = omega (arith, buffer_long a.base a.rows.now c.requires.2, c.loop-word-test.false) in
    going_read a.text.now a.at row a.rows.now a.base c.requires.2 c.loop-word.invariant.2 end (c.loop-word.invariant.3 row h)
