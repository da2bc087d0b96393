-- `requests::any_request` meets its contract: insert, sew_list, pick, read_vtk, or a request of the session.
use Prim.Native.Nat.{ℕ, ◌≤◌, ◌<◌}
use mathlib.Core.Path.{refl}
use mathlib.Core.Logic.{◌≢◌}
use native.Mathlib.Omega.{arith}
use borrow.Author.Tests.{ne_eqb}
use Rattle.std.specs.Prelude.{Err}
use Rattle.model.specs.Runs.{do_call}
use Rattle.answers.specs.Answers.{accepted}
use Rattle.requests.specs.Asked.{any_outcome, any_taken}
use Rattle.requests.proofs.Keeping.{keeps_lent, keeps_marks, keeps_journal, session_name}
use Rattle.requests.proofs.any_request.Goals as goal

pub returns-in-Insert : goal.returns-in-Insert
unfolding do_call any_outcome any_taken
returns-in-Insert c =
    let ten = c.in-Insert.ensures in record { journal_after = rw ten (keeps_lent _ _ _ _ c.insert.ensures); taken_after = rw ten; queue_unchanged = λ h. refl }

pub returns-in-SewList : goal.returns-in-SewList
unfolding any_outcome any_taken
returns-in-SewList c =
    let eleven = c.in-SewList.ensures in record { journal_after = rw eleven (keeps_marks _ _ _ _ c.sew_list.ensures); taken_after = rw eleven; queue_unchanged = λ h. refl }

pub returns-in-Ok-clause-journal_after : goal.returns-in-Ok-clause-journal_after
unfolding do_call any_outcome
returns-in-Ok-clause-journal_after c =
    let twelve = c.in-Pick.ensures in rw twelve (keeps_journal (accepted 0 c.in-Ok.picked.count) _ _ _ c.in-Ok.ensures.marks_after)

pub returns-in-Ok-clause-taken_after : goal.returns-in-Ok-clause-taken_after
unfolding any_taken
returns-in-Ok-clause-taken_after c =
    let twelve = c.in-Pick.ensures in rw twelve c.in-Ok.ensures.taken_value

pub returns-in-Err-clause-journal_after : goal.returns-in-Err-clause-journal_after
unfolding do_call any_outcome
returns-in-Err-clause-journal_after c =
    let twelve = c.in-Pick.ensures in rw twelve (keeps_journal (Err c.in-Err.refused) _ _ _ c.in-Err.ensures.marks_after)

pub returns-in-Err-clause-taken_after : goal.returns-in-Err-clause-taken_after
unfolding any_taken
returns-in-Err-clause-taken_after c =
    let twelve = c.in-Pick.ensures in rw twelve c.in-Err.ensures.taken_value

pub returns-in-ReadVtk : goal.returns-in-ReadVtk
unfolding do_call any_outcome any_taken
returns-in-ReadVtk c =
    let thirteen = c.in-ReadVtk.ensures in record { journal_after = rw thirteen (keeps_marks _ _ _ _ c.read_vtk.ensures); taken_after = rw thirteen; queue_unchanged = λ h. refl }

pub returns-in_default : goal.returns-in_default
unfolding any_outcome any_taken
returns-in_default c =
    let o = c.in_default in
    let elsewhere : (k : ℕ) → 10 ≤ k → k < 14 → c.args.op ≢ k
    = λ k. session_name c.args.op k _ c.from.ensures o.not-Insert o.not-SewList o.not-Pick o.not-ReadVtk in
    let no_insert = elsewhere 10 (omega arith) (omega arith) in
    let no_list = elsewhere 11 (omega arith) (omega arith) in
    let no_pick = elsewhere 12 (omega arith) (omega arith) in
    let no_text = elsewhere 13 (omega arith) (omega arith) in
    record {
      journal_after = rw (ne_eqb _ 10 no_insert, ne_eqb _ 11 no_list, ne_eqb _ 12 no_pick, ne_eqb _ 13 no_text, any_outcome)
          c.request.ensures;
      taken_after = rw (ne_eqb _ 12 no_pick, any_taken);
      queue_unchanged = λ h. refl;
    }
