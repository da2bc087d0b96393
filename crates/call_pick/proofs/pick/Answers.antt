-- `call_pick::pick` meets its contract: `wrong_queue`, or the opening that sheet has, and behind it the engine.
use mathlib.Core.Path.{◌≡◌, refl, ap, ◌∙◌}
use mathlib.Core.List.{List}
use Rattle.model.specs.Table.{slots}
use Rattle.model.specs.Checks.{Check, pass, in_order, sheet_checks, pick_checks}
use Rattle.theorems.proofs.Calls.Picks.{pick_checks_lem}
use Rattle.answers.specs.Openings.{Settles, verdict}
use Rattle.answers.proofs.Settled.{handed, by_reason}
use Rattle.answers.proofs.Opened.{opened_sheet}
use Rattle.answers.proofs.Layered.{sheet_given}
use Rattle.call_pick.proofs.Ends.{pick_refused, pick_accepted, queue_wrong}
use Rattle.call_pick.proofs.pick.Goals as goal
use Rattle.call_pick.proofs.pick.Goals.{After-opening_layer-opened, In_ok-opened, Else-queue-table, Start}

pub returns-then-queue-table : goal.returns-then-queue-table
unfolding slots
returns-then-queue-table c =
    let (ends, none) = pick_refused _ _ _ _ _ _ (by_reason c.into.ensures (queue_wrong _ _ _ _ _ c.if-queue-table.true c.wrong_queue.ensures)) in record { marks_after = ends; taken_value = none; queue_unchanged = refl }

same_checks : (c : Else-queue-table) →
    let a = c.args in
    in_order (pick_checks a.n a.table.now a.marks.now a.queue.now a.d) ≡ in_order (sheet_checks a.n a.table.now a.marks.now a.d)
unfolding slots
same_checks c = pick_checks_lem _ _ _ _ _ c.if-queue-table.false

abbrev checks : Start → List Check
checks p = sheet_checks p.args.n p.args.table.now p.args.marks.now p.args.d

settled : (c : After-opening_layer-opened) → Settles c.opening_layer-opened.result (in_order (checks (goal.at.After-opening_layer-opened c).Start))
settled c = opened_sheet _ _ _ _ c.marks_fit.ensures _ c.opening_layer-opened.ensures

passed : (c : In_ok-opened) → in_order (checks (goal.at.In_ok-opened c).Start) ≡ pass
passed c = (settled (goal.at.In_ok-opened c).After-opening_layer-opened).gives ∙ ap verdict c.in_ok-opened.was

pub returns-in_err-opened : goal.returns-in_err-opened
returns-in_err-opened c =
    let refused = (settled (goal.at.returns-in_err-opened c).After-opening_layer-opened).gives ∙ ap verdict c.in_err-opened.was in
    let (ends, none) = pick_refused _ _ _ _ _ _ (same_checks (goal.at.returns-in_err-opened c).Else-queue-table ∙ refused) in
    rw (handed c.from_residual.ensures.1) (record { marks_after = ends; taken_value = none; queue_unchanged = refl })

pub pick-found-requires : goal.pick-found-requires
unfolding slots
pick-found-requires c =
    let (dart, marks) = sheet_given _ _ _ _ (passed (goal.at.pick-found-requires c).In_ok-opened) in
    (dart, marks, c.if-queue-table.false)

pub returns : goal.returns
returns c =
    let marks = c.pick-found.ensures.marks_after in let (entered, taken) = c.pick-found.ensures.entered_value in
    let (ends, all) = pick_accepted _ _ _ _ _ (same_checks (goal.at.returns c).Else-queue-table ∙ passed (goal.at.returns c).In_ok-opened) marks entered taken in
    record { marks_after = ends; taken_value = all; queue_unchanged = tt }
