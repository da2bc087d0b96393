-- `vtk_form::read_grid` meets its contract, part by part: what is known behind each part that fits, and that the form fails where one does not.
use mathlib.Core.Path.{sym, ◌∙◌}
use Rattle.vtk_form.proofs.Typing.{left_read}
use Rattle.vtk_form.proofs.Assembly.{no_title, no_points, no_cells, no_rows, no_types, no_eights, grid_is, grid_rows}
use Rattle.vtk_form.proofs.read_grid.Goals as goal

pub returns-in_err-body : goal.returns-in_err-body
returns-in_err-body c = rw c.from_residual.ensures (no_title _ c.in_err-body.ensures)

pub returns-in_err-points : goal.returns-in_err-points
returns-in_err-points c = rw c.from_residual-in_err-points.ensures (no_points _ _ c.in_ok-body.ensures.1 c.in_err-points.ensures)

pub returns-in_err-cells : goal.returns-in_err-cells
returns-in_err-cells c =
    rw c.from_residual-in_err-cells.ensures
    (no_cells _ _ c.in_ok-body.ensures.1 _ _ c.in_ok-points.ensures.1 c.in_err-cells.ensures)

pub returns-then-n-eq0 : goal.returns-then-n-eq0
returns-then-n-eq0 c =
    no_rows _ _ c.in_ok-body.ensures.1 _ _ c.in_ok-points.ensures.1 _ _ _ _ _ c.in_ok-cells.ensures c.if-n-eq0.true

pub returns-in_err-first : goal.returns-in_err-first
returns-in_err-first c =
    rw c.from_residual-in_err-first.ensures
    (no_types _ _ c.in_ok-body.ensures.1 _ _ c.in_ok-points.ensures.1 _ _ _ _ _ c.in_ok-cells.ensures c.in_err-first.ensures)

pub returns-in_err-twelve : goal.returns-in_err-twelve
returns-in_err-twelve c =
    rw c.from_residual-in_err-twelve.ensures
    (no_types _ _ c.in_ok-body.ensures.1 _ _ c.in_ok-points.ensures.1 _ _ _ _ _ c.in_ok-cells.ensures
    (c.in_ok-first.ensures.1 ∙ c.in_err-twelve.ensures))

pub returns-then-not-eights_hold : goal.returns-then-not-eights_hold
returns-then-not-eights_hold c =
    let f = c.in_ok-cells.ensures in
    let (ts, left, _) = c.in_ok-twelve.ensures in
    let eighted = c.eights_hold.ensures f.fit.rows f.size f.small f.fit.read ts (left_read _ _ ts left) f.fit.eights in
    no_eights _ _ c.in_ok-body.ensures.1 _ _ c.in_ok-points.ensures.1 _ _ _ _ _ f ts (c.in_ok-first.ensures.1 ∙ left)
    (sym eighted ∙ c.if-not-eights_hold.true)

pub returns : goal.returns
returns c =
    let f = c.in_ok-cells.ensures in
    let (ts, left, twelve) = c.in_ok-twelve.ensures in
    let eighted = c.eights_hold.ensures f.fit.rows f.size f.small f.fit.read ts (left_read _ _ ts left) f.fit.eights in
    record {
      grid = record { points = c.in_ok-points.points.count; rows = f.fit.rows; types = ts };
      is =
          grid_is _ _ c.in_ok-body.ensures.1 _ _ c.in_ok-points.ensures.1 _ _ _ _ _ f ts (c.in_ok-first.ensures.1 ∙ left)
          c.if-n-eq0.false (sym eighted ∙ c.if-not-eights_hold.false);
      cells = sym f.fit.long;
      twelves = twelve;
      rows = grid_rows _ _ c.in_ok-body.ensures.1 _ _ c.in_ok-points.ensures.1 _ _ _ _ _ f;
      kept = f.fit.kept;
    }
