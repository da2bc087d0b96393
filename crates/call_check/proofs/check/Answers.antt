-- `call_check::check` meets its contract: its opening, and behind it `block_test::is_block`.
use mathlib.Core.Path.{sym, ◌∙◌}
use mathlib.Core.List.{List}
use Rattle.model.specs.Checks.{Check, check_checks, map_checks}
use Rattle.answers.proofs.Ladder.{Rung, all_passed}
use Rattle.answers.proofs.Settled.{Opening, opened, handed, handed_on}
use Rattle.answers.proofs.Opened.{opened_table}
use Rattle.answers.proofs.Given.{rules_given, map_given}
use Rattle.call_check.proofs.Ends.{check_refused, check_accepted}
use Rattle.call_check.proofs.check.Goals as goal
use Rattle.call_check.proofs.check.Goals.{After-opening, In_ok-opening, Start}

abbrev checks : Start → List Check
checks p = check_checks p.args.n p.args.table.now

abbrev opening : After-opening → Opening checks 6
unfolding check_checks map_checks
opening c = record { entry = (goal.at.After-opening c).Start; result = _; settles = opened_table _ _ c.opening.ensures }

abbrev map : In_ok-opening → Rung checks 6
unfolding check_checks map_checks
map c = opened (opening (goal.at.In_ok-opening c).After-opening) c.in_ok-opening.was

pub returns-in_err-opening : goal.returns-in_err-opening
unfolding check_checks map_checks
returns-in_err-opening c =
    handed_on (opening (goal.at.returns-in_err-opening c).After-opening) c.in_err-opening.was (handed c.from_residual.ensures.1) (check_refused _ _ _)

pub is_block-requires : goal.is_block-requires
unfolding check_checks map_checks
is_block-requires c =
    let p = (map c).passed in
    (search, search, map_given _ _ (search) (rules_given _ _ p.1.1))

pub returns-then-is_block : goal.returns-then-is_block
unfolding check_checks map_checks
returns-then-is_block c =
    let p = (map (goal.at.returns-then-is_block c).In_ok-opening).passed in
    check_accepted _ _ (all_passed _ p) (sym c.if-is_block.true ∙ c.is_block.ensures)

pub returns-else-is_block : goal.returns-else-is_block
unfolding check_checks map_checks
returns-else-is_block c =
    let p = (map (goal.at.returns-else-is_block c).In_ok-opening).passed in
    check_accepted _ _ (all_passed _ p) (sym c.if-is_block.false ∙ c.is_block.ensures)
