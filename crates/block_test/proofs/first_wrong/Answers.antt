use mathlib.Core.Path.{◌≡◌, refl, sym, ◌∙◌}
use native.Mathlib.Omega.{arith}
use Rattle.model.specs.Table.{slots}
use Rattle.model.specs.Meaning.Maps.{MapTable}
use Rattle.reading.proofs.Passed.{table_short}
use Rattle.block_test.proofs.Scan.{checked, scan_first, scan_next, scan_found, scan_none}
use Rattle.block_test.proofs.first_wrong.Goals as goal
use Rattle.block_test.proofs.first_wrong.Goals.{At-loop-d}

pub slots-d-end-requires : goal.slots-d-end-requires
slots-d-end-requires c = table_short _ c.requires.n_value.1

pub loop-d-init : goal.loop-d-init
loop-d-init c =
    (omega arith, refl, scan_first _ _ _ c.requires.table_in_bounds.0 c.requires.table_in_bounds.1)

end_is : (c : At-loop-d) → c.slots-d-end.result ≡ slots c.args.table.now
end_is c = c.slots-d-end.ensures

map : (c : At-loop-d) → MapTable c.args.n c.args.table.now
map c = checked c.args.n c.args.table.now c.requires.n_value.0 c.requires.n_value.1 c.requires.n_value.2

pub in_wrong_cell-requires : goal.in_wrong_cell-requires
in_wrong_cell-requires c =
    (map (goal.at.in_wrong_cell-requires c).At-loop-d, c.loop-d.invariant.2.seen_good, omega (arith, end_is (goal.at.in_wrong_cell-requires c).At-loop-d))

pub returns-then-in_wrong_cell : goal.returns-then-in_wrong_cell
returns-then-in_wrong_cell c =
    scan_found _ _ _ _ c.loop-d.invariant.2 (omega (arith, end_is (goal.at.returns-then-in_wrong_cell c).At-loop-d)) (sym c.in_wrong_cell.ensures.value ∙ c.if-in_wrong_cell.true)

pub overflow_step-d : goal.overflow_step-d
overflow_step-d c =
    omega (arith, end_is (goal.at.overflow_step-d c).At-loop-d, (map (goal.at.overflow_step-d c).At-loop-d).few)

pub loop-d-smaller : goal.loop-d-smaller
loop-d-smaller c = omega arith

pub loop-d-preserved : goal.loop-d-preserved
loop-d-preserved c =
    let answer = c.in_wrong_cell.ensures.value in
    let seen_good = c.in_wrong_cell.ensures.seen_good in
    let next = scan_next _ _ _ _ _ c.loop-d.invariant.2 (sym answer ∙ c.if-in_wrong_cell.false) seen_good in
    (omega arith, c.in_wrong_cell.auto.seen ∙ c.loop-d.invariant.1, next)

pub returns : goal.returns
returns c =
    scan_none _ _ _ _ _ c.loop-d.invariant.2 (end_is (goal.at.returns c).At-loop-d) c.loop-d-test.false
