-- `sheets::spread_cell` meets its contract.
use Prim.Native.Nat.{◌≤◌}
use mathlib.Core.Path.{◌∙◌}
use native.Mathlib.Omega.{arith}
use lib.ListN.{length}
use Rattle.model.specs.Meaning.Sheets.{half}
use Rattle.sheets.proofs.Halves.{half_in}
use Rattle.sheets.proofs.Marks.{spread_of}
use Rattle.sheets.proofs.spread_cell.Goals as goal
use Rattle.sheets.proofs.spread_cell.Goals.{After-half-half}

-- the first places are listed
short : (c : After-half-half) → half c.args.n ≤ length c.args.cell.now
short c =
    let L = c.requires.listing in
    let few = half_in _ L.table.dim in
    let long = L.long in
    omega arith

pub mark_first-requires : goal.mark_first-requires
mark_first-requires c =
    let few = short (goal.at.mark_first-requires c).After-half-half in
    (rw c.half-half.ensures few, rw c.half-half.ensures c.requires.fresh)

pub mark_rest-requires : goal.mark_rest-requires
mark_rest-requires c =
    let P = c.requires in
    let few = short (goal.at.mark_rest-requires c).After-half-half in
    (P.listing, c.mark_first.ensures.long ∙ P.long, rw c.half-half.ensures few)

pub returns : goal.returns
returns c =
    spread_of (rw c.half-half.ensures at c.mark_first.ensures) (rw c.half-half.ensures at c.mark_rest.ensures)
    c.put_links.ensures
