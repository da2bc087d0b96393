-- `vtk_faces::face_at` meets its contract.
use mathlib.Core.Path.{sym}
use Rattle.vtk_faces.proofs.Held.{face_words_lem}
use Rattle.vtk_faces.proofs.face_at.Goals as goal

pub returns : goal.returns
returns c =
    rw (
      c.vertex.ensures,
      c.vertex-2.ensures,
      c.vertex-3.ensures,
      c.vertex-4.ensures,
    ) (sym (face_words_lem c.args.rows.now c.args.p))
