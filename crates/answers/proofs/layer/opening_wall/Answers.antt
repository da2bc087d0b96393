-- `answers::opening_wall` meets its contract: `opening`, and above it the check 8.
use mathlib.Core.Path.{refl}
use mathlib.Core.List.{List}
use Rattle.model.specs.Checks.{Check, map_checks}
use Rattle.answers.specs.Openings.{opening_checks, wall_checks}
use Rattle.answers.proofs.Ladder.{Rung, rise}
use Rattle.answers.proofs.Settled.{settles_front, settles_last, handed}
use Rattle.answers.proofs.Given.{rules_given, map_given}
use Rattle.answers.proofs.layer.opening_wall.Goals as goal
use Rattle.answers.proofs.layer.opening_wall.Goals.{In_ok-opening, Start}

abbrev checks : Start → List Check
checks p = wall_checks p.args.marks p.args.journal p.args.n p.args.table.now

abbrev opened : In_ok-opening → Rung checks 8
unfolding wall_checks opening_checks map_checks
opened c = rise 8 (goal.at.In_ok-opening c).Start c.in_ok-opening.ensures.gives

pub returns-in_err-opening : goal.returns-in_err-opening
unfolding wall_checks opening_checks map_checks
returns-in_err-opening c = rw (handed c.from_residual.ensures.1) (settles_front _ 8 c.in_err-opening.ensures)

pub blocks-requires : goal.blocks-requires
unfolding wall_checks opening_checks map_checks
blocks-requires c =
    let p = (opened c).passed in
    (search, search, map_given _ _ (search) (rules_given _ _ p.1.1.1.1))

pub returns : goal.returns
unfolding wall_checks opening_checks map_checks
returns c = settles_last (opened (goal.at.returns c).In_ok-opening) refl c.blocks-2.ensures
