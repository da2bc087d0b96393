-- `call_sew::sew` meets its contract: its opening, and behind it a list of one item.
use mathlib.Core.Path.{◌≡◌, refl}
use mathlib.Core.List.{List, [], ◌∷◌}
use Rattle.model.specs.Checks.{Check, pass, in_order, sides_checks, list_checks, map_checks}
use Rattle.model.specs.Meaning.SewLists.{Ready}
use Rattle.answers.proofs.Settled.{Opening, handed, handed_on}
use Rattle.answers.proofs.Opened.{opened_journal}
use Rattle.call_sew.proofs.Ends.{sew_refused, ready_of, list_passed}
use Rattle.call_sew.proofs.Going.{one_item}
use Rattle.call_sew.proofs.sew.Goals as goal
use Rattle.call_sew.proofs.sew.Goals.{After-opening, In_ok-opening, Start}
use Rattle.std.specs.Prelude.{Ok, Err}

-- ---- the opening
abbrev checks : Start → List Check
checks p = sides_checks p.args.n p.args.table.now p.args.journal.now p.args.i p.args.d p.args.e

abbrev opening : After-opening → Opening checks 7
unfolding sides_checks map_checks
opening c = record {
  entry = (goal.at.After-opening c).Start;
  result = _;
  settles = opened_journal _ _ _ _ c.journal_fits.ensures c.opening.ensures;
}

ready : (c : In_ok-opening) → let a = c.args in Ready a.n a.table.now a.journal.now
unfolding map_checks
ready c = ready_of _ _ _ [] (opened_journal _ _ _ _ c.journal_fits.ensures c.in_ok-opening.ensures).gives

passed : (c : In_ok-opening) → let a = c.args in
    in_order (list_checks a.n a.table.now a.journal.now (a.i ∷ a.d ∷ a.e ∷ [])) ≡ pass
passed c = list_passed _ _ _ _ (ready c) refl

pub returns-in_err-opening : goal.returns-in_err-opening
unfolding sides_checks map_checks
returns-in_err-opening c =
    handed_on (opening (goal.at.returns-in_err-opening c).After-opening) c.in_err-opening.was (handed c.from_residual.ensures.1) (sew_refused _ _ _ _ _ _ _ _)

pub sew_opened-requires : goal.sew_opened-requires
sew_opened-requires c = passed (goal.at.sew_opened-requires c).In_ok-opening

pub returns-in-Ok : goal.returns-in-Ok
returns-in-Ok c =
    one_item _ _ _ _ _ _ _ (ready (goal.at.returns-in-Ok c).In_ok-opening) (passed (goal.at.returns-in-Ok c).In_ok-opening) (Ok c.in-Ok.done) _ _ c.in-Ok.ensures

pub returns-in-Err : goal.returns-in-Err
returns-in-Err c =
    one_item _ _ _ _ _ _ _ (ready (goal.at.returns-in-Err c).In_ok-opening) (passed (goal.at.returns-in-Err c).In_ok-opening) (Err c.in-Err.refused) _ _ c.in-Err.ensures
