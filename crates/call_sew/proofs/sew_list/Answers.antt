-- `call_sew::sew_list` meets its contract: its opening, the check 38, and behind them `sew_opened`.
use mathlib.Core.Path.{refl}
use mathlib.Core.List.{List}
use Rattle.model.specs.Checks.{Check, map_checks, list_ok, list_checks}
use Rattle.answers.proofs.Ladder.{Rung, up, out, all_passed}
use Rattle.answers.proofs.Verdicts.{equal_passes, equal_refuses}
use Rattle.answers.proofs.Settled.{Opening, opened, by_reason, handed, handed_on}
use Rattle.answers.proofs.Opened.{opened_journal}
use Rattle.call_sew.proofs.Ends.{list_refused}
use Rattle.call_sew.proofs.sew_list.Goals as goal
use Rattle.call_sew.proofs.sew_list.Goals.{After-opening, Else-list-ne0, In_ok-opening, Start}

abbrev checks : Start → List Check
checks p = list_checks p.args.n p.args.table.now p.args.journal.now p.args.list.now

abbrev opening : After-opening → Opening checks 7
unfolding list_checks map_checks
opening c = record {
  entry = (goal.at.After-opening c).Start;
  result = _;
  settles = opened_journal _ _ _ _ c.journal_fits.ensures c.opening.ensures;
}

abbrev map : In_ok-opening → Rung checks 7
unfolding list_checks map_checks
map c = opened (opening (goal.at.In_ok-opening c).After-opening) c.in_ok-opening.was

abbrev whole : Else-list-ne0 → Rung checks 8
unfolding list_checks map_checks list_ok
whole c = up (map (goal.at.Else-list-ne0 c).In_ok-opening) (equal_passes _ 0 38 refl c.if-list-ne0.false)

pub returns-in_err-opening : goal.returns-in_err-opening
unfolding list_checks map_checks
returns-in_err-opening c =
    handed_on (opening (goal.at.returns-in_err-opening c).After-opening) c.in_err-opening.was (handed c.from_residual.ensures.1) (list_refused _ _ _ _ _ _)

pub returns-then-list-ne0 : goal.returns-then-list-ne0
unfolding list_checks map_checks list_ok
returns-then-list-ne0 c = list_refused _ _ _ _ _ _ (by_reason c.into.ensures (out (map (goal.at.returns-then-list-ne0 c).In_ok-opening) (equal_refuses _ 0 38 refl c.if-list-ne0.true)))

pub sew_opened-requires : goal.sew_opened-requires
unfolding list_checks map_checks list_ok
sew_opened-requires c = all_passed _ (whole (goal.at.sew_opened-requires c).Else-list-ne0).passed
