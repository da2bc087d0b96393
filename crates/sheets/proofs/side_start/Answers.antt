-- `sheets::side_start` meets its contract.
use mathlib.Core.Path.{◌∙◌}
use Rattle.sheets.proofs.Halves.{start_order, start_vertex, start_is}
use Rattle.sheets.proofs.side_start.Goals as goal

pub place-requires : goal.place-requires
place-requires c =
    let dim = c.requires.0 in
    (dim, start_order _ dim _ c.requires.1, start_vertex _ dim _ c.requires.1)

pub returns : goal.returns
returns c = c.place.ensures ∙ start_is _ c.requires.0 _ c.requires.1
