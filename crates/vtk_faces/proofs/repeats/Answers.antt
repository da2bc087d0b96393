-- `vtk_faces::repeats` meets its contract.
use Prim.Native.Nat.{◌+◌}
use mathlib.Core.Path.{refl, ◌∙◌}
use lib.ListN.{get_or, drop}
use Rattle.std.proofs.Common.{rules, tests}
use Rattle.std.proofs.lemmas.Iterator.{YieldsList-from_range}
use Rattle.std.proofs.lemmas.Iterator.Search.{any_from_yields_List}
use Rattle.model.specs.Faces.{among}
use Rattle.vtk_faces.specs.Faces.{held_row}
use Rattle.vtk_faces.proofs.Twice.{repeats_any}
use Rattle.vtk_faces.proofs.repeats.Goals as goal

pub returns : goal.returns
returns c =
    let row = held_row c.args.rows.now c.args.c in
    any_from_yields_List (λ i. among (drop (i + 1) row) (get_or row i 0)) _ _ _ c.any.ensures.ran (YieldsList-from_range 0 8 8 refl refl)
    (λ x b q k. search (rules, tests))
    ∙ repeats_any c.args.rows.now c.args.c c.requires 0 8 refl
