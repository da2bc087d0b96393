-- `block_test::visit` meets its contract.
use Prim.Native.Nat.{◌≤◌}
use mathlib.Core.Path.{sym, ◌∙◌}
use native.Mathlib.Omega.{arith}
use Rattle.model.specs.Cell.{cell_size}
use Rattle.theorems.proofs.Maps.Dim.{two_cases}
use Rattle.block_test.proofs.Seen.{places_in, seen_listed}
use Rattle.block_test.proofs.visit.Goals as goal
use Rattle.block_test.proofs.visit.Given.{Over}
use Rattle.block_test.proofs.visit.Goals.{Start}

-- a cell has few darts
few : (g : Over) (c : Start g) → g.row.SIZE ≤ 48
unfolding cell_size
few g c =
    let same = c.requires.2 in
    let size = two_cases g.row.N c.requires.0.table.dim (λ n. cell_size n ≤ 48) (omega arith) (omega arith) in
    omega arith

pub cell-cell-requires : goal.cell-cell-requires
cell-cell-requires g c = let few = few g (goal.at.cell-cell-requires g c).Start in (omega arith, (c.requires.0, c.requires.2))

pub is_good-requires : goal.is_good-requires
is_good-requires g c = let few = few g (goal.at.is_good-requires g c).Start in (omega arith, (c.requires.0, c.cell-cell.ensures))

pub shared_whole_as_slice-mark : goal.shared_whole_as_slice-mark
shared_whole_as_slice-mark g c = let few = few g (goal.at.shared_whole_as_slice-mark g c).Start in omega arith

pub returns-then-not-is_good : goal.returns-then-not-is_good
returns-then-not-is_good g c =
    record { value = sym (c.if-not-is_good.true) ∙ c.is_good.ensures; seen_good = c.requires.1 }

pub mark-requires : goal.mark-requires
mark-requires g c =
    places_in c.requires.0 _ c.requires.1 _ c.cell-cell.ensures

pub returns : goal.returns
returns g c =
    let good = sym (c.if-not-is_good.false) ∙ c.is_good.ensures in
    record { value = good; seen_good = seen_listed c.requires.0 _ c.requires.1 (sym good) _ _ c.cell-cell.ensures c.mark.ensures }
