-- `answers::broken::broken_rule` meets its contract: the ladder of the rules of a map, of which one is broken.
use mathlib.Core.List.{List}
use Rattle.model.specs.Map.{links_live, links_return, pairs_commute}
use Rattle.model.specs.Checks.{Check, rule_number, map_checks}
use Rattle.theorems.proofs.Calls.Pass.{dim_pass}
use Rattle.theorems.proofs.Calls.Rules.{last_refused}
use Rattle.answers.proofs.Ladder.{Rung, ground, up, out}
use Rattle.answers.proofs.Verdicts.{rule_passes, rule_refuses}
use Rattle.answers.proofs.broken.broken_rule.Goals as goal
use Rattle.answers.proofs.broken.broken_rule.Goals.{In_default, In_default-breaking_link, In_default-breaking_link-2, Start}

abbrev checks : Start → List Check
checks p = map_checks p.args.n p.args.table.now

abbrev lives : In_default → Rung checks 1
unfolding map_checks
lives c =
    let s = ground (goal.at.In_default c).Start in
    up s (rule_passes _ _ links_live _ s.entry.requires.2 c.in_default.ensures)

abbrev returned : In_default-breaking_link → Rung checks 2
unfolding map_checks
returned c =
    let s = lives (goal.at.In_default-breaking_link c).In_default in
    up s (rule_passes _ _ links_return _ s.entry.requires.2 c.in_default-breaking_link.ensures)

abbrev commuting : In_default-breaking_link-2 → Rung checks 3
unfolding map_checks
commuting c =
    let s = returned (goal.at.In_default-breaking_link-2 c).In_default-breaking_link in
    up s (rule_passes _ _ pairs_commute _ s.entry.requires.2 c.in_default-breaking_link-2.ensures)

pub returns-in-Some : goal.returns-in-Some
unfolding map_checks rule_number
returns-in-Some c =
    let s = ground {checks = checks} (goal.at.returns-in-Some c).Start in
    let q = s.entry.requires in
    out s (rule_refuses _ _ links_live _ q.2 _ q.1 c.in-Some.ensures)

pub returns-in-Some-breaking_link : goal.returns-in-Some-breaking_link
unfolding map_checks rule_number
returns-in-Some-breaking_link c =
    let s = lives (goal.at.returns-in-Some-breaking_link c).In_default in
    let q = s.entry.requires in
    out s (rule_refuses _ _ links_return _ q.2 _ q.1 c.in-Some-breaking_link.ensures)

pub returns-in-Some-breaking_link-2 : goal.returns-in-Some-breaking_link-2
unfolding map_checks rule_number
returns-in-Some-breaking_link-2 c =
    let s = returned (goal.at.returns-in-Some-breaking_link-2 c).In_default-breaking_link in
    let q = s.entry.requires in
    out s (rule_refuses _ _ pairs_commute _ q.2 _ q.1 c.in-Some-breaking_link-2.ensures)

pub returns : goal.returns
unfolding map_checks
returns c =
    let s = commuting c in
    let q = s.entry.requires in
    let p = s.passed in
    rw q.2 (last_refused _ _ (dim_pass _ q.0).1 q.1 p.0 p.1.0 p.1.1.0)
