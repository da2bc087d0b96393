-- `call_read_vtk::read_vtk` meets its contract: the checks up to 18 by `open_read`, all else by `read_cells`.
use Prim.Native.Nat.{ℕ}
use mathlib.Core.Path.{◌≡◌, sym, ap, ◌∙◌, subst}
use mathlib.Core.List.{List}
use Rattle.model.specs.Vtk.{grid_of}
use Rattle.model.specs.Checks.{Check, pass, in_order, map_checks, grid_checks, vtk_checks}
use Rattle.model.specs.Calls.{vtk_call}
use Rattle.answers.specs.Openings.{verdict}
use Rattle.answers.proofs.Settled.{Opening, handed, handed_on}
use Rattle.call_read_vtk.specs.Formed.{empty_checks}
use Rattle.call_read_vtk.proofs.Empty.{empty_opened}
use Rattle.call_read_vtk.proofs.Forms.{vtk_ends}
use Rattle.call_read_vtk.proofs.read_vtk.Goals as goal
use Rattle.call_read_vtk.proofs.read_vtk.Goals.{After-open_read, In_ok-open_read, Start}

abbrev checks : Start → List Check
checks p = vtk_checks p.args.n p.args.table.now p.args.journal.now (grid_of p.args.text.now)

abbrev opening : After-open_read → Opening checks 8
unfolding empty_checks vtk_checks map_checks grid_checks
opening c = record { entry = (goal.at.After-open_read c).Start; result = _; settles = c.open_read.ensures }

-- the checks up to 18 pass
empty : (c : In_ok-open_read) → let a = c.args in in_order (empty_checks a.n a.table.now a.journal.now) ≡ pass
empty c = c.open_read.ensures.gives ∙ ap verdict c.in_ok-open_read.was

-- n is 3
solid : (c : In_ok-open_read) → c.args.n ≡ 3
solid c = (empty_opened _ _ _ (empty c)).0

pub returns-in_err-open_read : goal.returns-in_err-open_read
unfolding empty_checks vtk_checks map_checks grid_checks
returns-in_err-open_read c =
    handed_on (opening (goal.at.returns-in_err-open_read c).After-open_read) c.in_err-open_read.was (handed c.from_residual.ensures.1) (vtk_ends _ _ _ _ _ _)

pub read_cells-requires : goal.read_cells-requires
read_cells-requires c =
    let a = c.args in
    subst (λ (n : ℕ). in_order (empty_checks n a.table.now a.journal.now) ≡ pass) (solid (goal.at.read_cells-requires c).In_ok-open_read) (empty (goal.at.read_cells-requires c).In_ok-open_read)

pub returns : goal.returns
returns c =
    let a = c.args in
    c.read_cells.ensures ∙ ap (λ (n : ℕ). vtk_call n a.table.now a.journal.now a.tag a.text.now) (sym (solid (goal.at.returns c).In_ok-open_read))
