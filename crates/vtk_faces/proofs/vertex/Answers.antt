-- `vtk_faces::vertex` meets its contract.
use Prim.Native.Nat.{ℕ, ◌+◌, ◌<◌}
use mathlib.Core.Path.{◌≡◌, ap}
use lib.ListN.{get_or}
use Rattle.vtk_faces.specs.Faces.{site_at}
use native.Mathlib.Omega.{arith}
use Rattle.vtk_faces.proofs.Places.{site_low_lem}
use Rattle.vtk_faces.proofs.vertex.Goals as goal
use Rattle.vtk_faces.proofs.vertex.Goals.{Start}

-- the site is one of eight
known : (c : Start) → (get_or c.args.sites.now c.args.j 0 ≡ site_at c.args.j) × (site_at c.args.j < 8)
known c = (c.requires.0 c.args.j c.requires.2, site_low_lem c.args.j c.requires.2)

pub overflow_cast-result : goal.overflow_cast-result
overflow_cast-result c = let e = known (goal.at.overflow_cast-result c).Start in omega arith

pub overflow_add-result : goal.overflow_add-result
overflow_add-result c = let e = known (goal.at.overflow_add-result c).Start in omega arith

pub offset_bounds-rows-row : goal.offset_bounds-rows-row
offset_bounds-rows-row c = let e = known (goal.at.offset_bounds-rows-row c).Start in omega arith

pub bounds-rows-row : goal.bounds-rows-row
bounds-rows-row c = let e = known (goal.at.bounds-rows-row c).Start in let long = c.requires.1 in omega arith

pub returns : goal.returns
returns c = ap (λ (k : ℕ). get_or c.args.rows.now (c.args.row + k) 0) (known (goal.at.returns c).Start).0
