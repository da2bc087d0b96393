-- `vtk_faces::hash` meets its contract.
use Rattle.vtk_faces.specs.Hashes.{lowest, highest, mixed, hash_of}
use Rattle.vtk_faces.proofs.hash.Goals as goal

pub returns : goal.returns
unfolding hash_of lowest highest mixed
returns c =
    rw (
      c.mixed.ensures,
      c.min-least.ensures,
      c.min-2.ensures,
      c.min.ensures,
      c.max-greatest.ensures,
      c.max-2.ensures,
      c.max.ensures,
    )
