-- `requests::request` meets its contract, op by op: what a call does not take stays.
use Rattle.model.specs.Runs.{do_call}
use Rattle.model.specs.Session.{calls, call_of}
use Rattle.requests.proofs.Keeping.{keeps_both, keeps_marks, keeps_journal, other_check}
use Rattle.requests.proofs.request.Goals as goal

pub returns-in-Orbit : goal.returns-in-Orbit
unfolding do_call call_of calls
returns-in-Orbit c =
    rw c.in-Orbit.ensures (keeps_journal _ _ _ _ c.orbit.ensures)

pub returns-in-Sheet : goal.returns-in-Sheet
unfolding do_call call_of calls
returns-in-Sheet c =
    rw c.in-Sheet.ensures (keeps_journal _ _ _ _ c.sheet.ensures)

pub returns-in-Add : goal.returns-in-Add
unfolding do_call call_of calls
returns-in-Add c =
    rw c.in-Add.ensures (keeps_marks _ _ _ _ c.add.ensures)

pub returns-in-Sew : goal.returns-in-Sew
unfolding do_call call_of calls
returns-in-Sew c =
    rw c.in-Sew.ensures (keeps_marks _ _ _ _ c.sew.ensures)

pub returns-in-Unsew : goal.returns-in-Unsew
unfolding do_call call_of calls
returns-in-Unsew c =
    rw c.in-Unsew.ensures (keeps_marks _ _ _ _ c.unsew.ensures)

pub returns-in-Remove : goal.returns-in-Remove
unfolding do_call call_of calls
returns-in-Remove c =
    rw c.in-Remove.ensures c.remove.ensures

pub returns-in-Split : goal.returns-in-Split
unfolding do_call call_of calls
returns-in-Split c =
    rw c.in-Split.ensures c.split.ensures

pub returns-in-Undo : goal.returns-in-Undo
unfolding do_call call_of calls
returns-in-Undo c =
    rw c.in-Undo.ensures (keeps_marks _ _ _ _ c.undo.ensures)

pub returns-in-Redo : goal.returns-in-Redo
unfolding do_call call_of calls
returns-in-Redo c =
    rw c.in-Redo.ensures (keeps_marks _ _ _ _ c.redo.ensures)

pub returns-in_default : goal.returns-in_default
unfolding do_call
returns-in_default c =
    let o = c.in_default in
    rw (other_check c.args.op c.args.tag c.args.i c.args.d c.args.e _ c.from.ensures o.not-Orbit o.not-Sheet o.not-Add o.not-Sew o.not-Unsew
    o.not-Remove o.not-Split o.not-Undo o.not-Redo) (keeps_both _ _ _ _ c.check.ensures)
