-- `vtk_faces::onward` meets its contract.
use mathlib.Core.Path.{◌≡◌, ap, ◌∙◌}
use native.Mathlib.Omega.{arith}
use Rattle.model.specs.Cell.{cell_size}
use Rattle.model.specs.Numbering.{cell_link}
use Rattle.model.specs.Faces.{onward}
use Rattle.theorems.proofs.Vtk.Sites.{link_low}
use Rattle.vtk_faces.proofs.Places.{onward_low}
use Rattle.vtk_faces.proofs.onward.Goals as goal

pub cell_link-requires : goal.cell_link-requires
unfolding cell_size
cell_link-requires c = ((omega arith, omega arith), c.requires)

pub cell_link-requires-2 : goal.cell_link-requires-2
unfolding cell_size
cell_link-requires-2 c = ((omega arith, omega arith), rw c.cell_link.ensures (link_low 0 _ (omega arith) c.requires))

pub returns : goal.returns
unfolding onward
returns c =
    let e : c.cell_link-2.result ≡ onward c.args.k = c.cell_link-2.ensures ∙ ap (cell_link 3 1) c.cell_link.ensures in
    (e, rw e (onward_low c.args.k c.requires))
