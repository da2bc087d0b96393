-- `call_read_vtk::read_formed` meets its contract: by `read_many` where there are more cells than a table takes, else 21 to 23 by
-- `judge_few` and all else by `place_cells`.
use Prim.Native.Nat.{◌*◌, ◌≤◌}
use native.Mathlib.Omega.{arith}
use lib.ListN.{length}
use Rattle.std.proofs.lemmas.Result.{err_from_is_err_and}
use Rattle.call_read_vtk.specs.Formed.{JudgedHeld, Checked}
use Rattle.call_read_vtk.proofs.Ends.{cells_at, cells_held, judged_refused, judged_checked}
use Rattle.call_read_vtk.proofs.read_formed.Goals as goal
use Rattle.call_read_vtk.proofs.read_formed.Goals.{After-judge_few, In_ok-judge_few}

few : (c : After-judge_few) → c.args.cells ≤ 1365
few c = let low = c.if-cells-gt1365.false in omega arith

room : (c : After-judge_few) → 8 * c.args.cells ≤ length c.args.rows.now
room c = let low = few c in let long = c.requires.1.rows_long in omega arith

judged : (c : After-judge_few) → JudgedHeld c.requires.0.grid.rows c.judge_few.new.mates c.judge_few.result
judged c = c.judge_few.ensures _ (cells_held c.requires.0 (room c))

-- they pass
checked : (c : In_ok-judge_few) →
    let a = c.args in
    Checked a.table.now a.journal.now a.text.now c.judge_few.new.mates a.cells
checked c = judged_checked c.requires.0 (judged (goal.at.In_ok-judge_few c).After-judge_few) c.in_ok-judge_few.was

-- ---- the needs
pub read_many-requires : goal.read_many-requires
read_many-requires c =
    let (formed, lent) = c.requires in
    (record { rows = _; is = cells_at formed }, c.if-cells-gt1365.true, lent)

pub returns-then-cells-gt1365 : goal.returns-then-cells-gt1365
returns-then-cells-gt1365 c = c.read_many.ensures _ _ _ c.requires.0

pub judge_few-requires : goal.judge_few-requires
judge_few-requires c =
    let (formed, lent) = c.requires in
    let few = c.if-cells-gt1365.false in
    let long = lent.rows_long in
    (record { rows = _; is = cells_held formed (omega arith) }, omega arith, lent)

pub returns-in_err-judge_few : goal.returns-in_err-judge_few
returns-in_err-judge_few c =
    let p = err_from_is_err_and c.from_residual.result c.from_residual.ensures.1 in
    rw p.1 (judged_refused c.requires.0 (judged (goal.at.returns-in_err-judge_few c).After-judge_few).judged _ c.in_err-judge_few.was p.2)

pub place_cells-requires : goal.place_cells-requires
place_cells-requires c = (record { text = _; are = checked (goal.at.place_cells-requires c).In_ok-judge_few }, few (goal.at.place_cells-requires c).After-judge_few)

pub returns : goal.returns
returns c = c.place_cells.ensures _ (checked (goal.at.returns c).In_ok-judge_few)
