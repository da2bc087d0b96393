-- `vtk_table::step_at` meets its contract.
use Prim.Native.Nat.{◌-◌}
use mathlib.Core.Path.{◌≡◌, ap, ◌∙◌}
use native.Mathlib.Omega.{arith}
use lib.ListN.{get_or}
use Rattle.model.specs.Cell.{cell_size}
use Rattle.model.specs.Numbering.{cell_link}
use Rattle.vtk_table.specs.Cells.{step_at}
use Rattle.vtk_table.proofs.Places.{step_low, step_first, step_along, step_next}
use Rattle.vtk_table.proofs.step_at.Goals as goal
use Rattle.vtk_table.proofs.step_at.Goals.{After-cell_link, After-cell_link-arg-1, After-face_dart}

-- the result is right, so it is low
first_is : (c : After-face_dart) → c.face_dart.result ≡ step_at c.args.y
first_is c = c.face_dart.ensures ∙ step_first _ c.if-y-eq0.true

pub overflow_cast-result : goal.overflow_cast-result
overflow_cast-result c =
    let low = step_low c.args.y (omega arith) in
    let is = first_is c in
    omega arith

pub returns-then-y-eq0 : goal.returns-then-y-eq0
returns-then-y-eq0 c = first_is c

pub returns-then-y-eq0-2 : goal.returns-then-y-eq0-2
returns-then-y-eq0-2 c =
    c.requires.1 _ (let other = c.if-y-eq0.false in omega arith) ∙ step_along c.args.y c.if-y-eq0-2.true

-- the dart before
before_is : (c : After-cell_link-arg-1) → get_or c.args.steps.now (c.args.y - 1) 0 ≡ step_at (c.args.y - 1)
before_is c =
    let some = c.if-y-eq0-2.false in
    c.requires.1 (c.args.y - 1) (omega arith)

pub overflow_cast-steps : goal.overflow_cast-steps
overflow_cast-steps c =
    let low = step_low (c.args.y - 1) (omega arith) in
    let is = before_is c in
    omega arith

pub cell_link-requires : goal.cell_link-requires
unfolding cell_size
cell_link-requires c =
    let low = step_low (c.args.y - 1) (omega arith) in
    let is = before_is c in
    ((omega arith, omega arith), omega arith)

next_is : (c : After-cell_link) → c.cell_link.result ≡ step_at c.args.y
next_is c =
    let y = c.args.y in
    c.cell_link.ensures ∙ ap (cell_link 3 _) (before_is (goal.at.After-cell_link c).After-cell_link-arg-1) ∙ step_next y _ (omega arith) c.if-y-eq0-2.false

pub overflow_cast-result-2 : goal.overflow_cast-result-2
overflow_cast-result-2 c =
    let low = step_low c.args.y (omega arith) in
    let is = next_is c in
    omega arith

pub returns : goal.returns
returns c = next_is c
