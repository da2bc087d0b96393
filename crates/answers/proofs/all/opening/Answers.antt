-- `answers::opening` meets its contract: the ladder of the checks 1 to 4, and those of a map.
use mathlib.Core.Bool.{not}
use mathlib.Core.Path.{ap, refl}
use mathlib.Core.List.{List}
use native.Mathlib.Omega.{arith}
use lib.ListN.{take}
use borrow.Author.Tests.{eq-eqb, ne_eqb}
use Rattle.model.specs.Table.{slots}
use Rattle.model.specs.Map.{links_live, links_return, pairs_commute, stays_flat, breaks_rule, least_breaking, is_map}
use Rattle.model.specs.Checks.{Check, map_checks}
use Rattle.theorems.proofs.Calls.Checks.{map_keeps}
use Rattle.theorems.proofs.Lists.Scan.{least_is}
use Rattle.reading.proofs.Found.{found_is, none_is}
use Rattle.answers.specs.Openings.{opening_checks}
use Rattle.answers.proofs.Ladder.{Rung, ground, up, out, all_passed}
use Rattle.answers.proofs.Verdicts.{passes, refuses}
use Rattle.answers.proofs.Settled.{settles_refusal, settles_behind}
use Rattle.answers.proofs.all.opening.Goals as goal
use Rattle.answers.proofs.all.opening.Goals.{After-shared_slice_known-1, Else-not-dim_fits, Else-not-journal, Else-not-marks, Else-not-table_fits, Start}

abbrev checks : Start → List Check
checks p = opening_checks p.args.marks p.args.journal p.args.n p.args.table.now

abbrev start : After-shared_slice_known-1 → Rung checks 0
start c = ground (goal.at.After-shared_slice_known-1 c).Start

abbrev dim : Else-not-dim_fits → Rung checks 1
unfolding opening_checks
dim c = up (start (goal.at.Else-not-dim_fits c).After-shared_slice_known-1) (passes _ 1 c.dim_fits.ensures (ap not c.if-not-dim_fits.false))

abbrev table : Else-not-table_fits → Rung checks 2
unfolding opening_checks
table c = up (dim (goal.at.Else-not-table_fits c).Else-not-dim_fits) (passes _ 2 c.table_fits.ensures (ap not c.if-not-table_fits.false))

abbrev marks : Else-not-marks → Rung checks 3
unfolding opening_checks
marks c = up (table (goal.at.Else-not-marks c).Else-not-table_fits) (passes _ 3 refl (ap not c.if-not-marks.false))

abbrev journal : Else-not-journal → Rung checks 4
unfolding opening_checks
journal c = up (marks (goal.at.Else-not-journal c).Else-not-marks) (passes _ 4 refl (ap not c.if-not-journal.false))

pub returns-then-not-dim_fits : goal.returns-then-not-dim_fits
unfolding opening_checks
returns-then-not-dim_fits c =
    settles_refusal c.into.ensures (out (start (goal.at.returns-then-not-dim_fits c).After-shared_slice_known-1) (refuses _ 1 c.dim_fits.ensures (ap not c.if-not-dim_fits.true)))

pub returns-then-not-table_fits : goal.returns-then-not-table_fits
unfolding opening_checks
returns-then-not-table_fits c =
    settles_refusal c.into-then-not-table_fits.ensures (out (dim (goal.at.returns-then-not-table_fits c).Else-not-dim_fits) (refuses _ 2 c.table_fits.ensures (ap not c.if-not-table_fits.true)))

pub returns-then-not-marks : goal.returns-then-not-marks
unfolding opening_checks
returns-then-not-marks c = settles_refusal c.into-then-not-marks.ensures (out (table (goal.at.returns-then-not-marks c).Else-not-table_fits) (refuses _ 3 refl (ap not c.if-not-marks.true)))

pub returns-then-not-journal : goal.returns-then-not-journal
unfolding opening_checks
returns-then-not-journal c = settles_refusal c.into-then-not-journal.ensures (out (marks (goal.at.returns-then-not-journal c).Else-not-marks) (refuses _ 4 refl (ap not c.if-not-journal.true)))

pub least_breaking-requires : goal.least_breaking-requires
unfolding opening_checks
least_breaking-requires c = let p = (journal c).passed in search

pub broken_rule-requires : goal.broken_rule-requires
unfolding opening_checks is_map
broken_rule-requires c =
    let p = (journal (goal.at.broken_rule-requires c).Else-not-journal).passed in
    let (least, low) = found_is _ _ _ c.in-Some.ensures in
    (p.0, ne_eqb _ _ (λ e. omega arith), least)

pub returns-in-Some : goal.returns-in-Some
unfolding opening_checks
returns-in-Some c =
    let tested = journal (goal.at.returns-in-Some c).Else-not-journal in
    settles_behind (take 4 (checks tested.entry)) _ (all_passed _ tested.passed) (record { gives = c.broken_rule.ensures })

pub returns-in-None : goal.returns-in-None
unfolding opening_checks map_checks is_map least_breaking
returns-in-None c =
    let a = c.args in
    let none = none_is _ _ c.in-None.ensures in
    let high = (least_is (breaks_rule a.n a.table.now) (slots a.table.now)).high in
    let keeps = map_keeps _ _ (eq-eqb _ _ (omega arith)) in
    let tested = journal (goal.at.returns-in-None c).Else-not-journal in
    record {
      gives = all_passed _ (up (up (up (up tested (keeps links_live)) (keeps links_return)) (keeps pairs_commute)) (keeps stays_flat)).passed;
    }
