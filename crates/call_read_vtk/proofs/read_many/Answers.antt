-- `call_read_vtk::read_many` meets its contract.
use Rattle.std.proofs.lemmas.Result.{err_from_is_err_and}
use Rattle.call_read_vtk.proofs.Ends.{cells_at, judged_refused, judged_passed, read_many}
use Rattle.call_read_vtk.proofs.read_many.Goals as goal

pub returns-in_err-judge_many : goal.returns-in_err-judge_many
returns-in_err-judge_many c t j tag F =
    let p = err_from_is_err_and c.from_residual.result c.from_residual.ensures.1 in
    rw p.1 (judged_refused F (c.judge_many.ensures _ (cells_at F)) tag c.in_err-judge_many.was p.2)

pub returns : goal.returns
returns c t j tag F =
    read_many (judged_passed F (c.judge_many.ensures _ (cells_at F)) c.in_ok-judge_many.was) tag c.into.ensures c.requires.1
