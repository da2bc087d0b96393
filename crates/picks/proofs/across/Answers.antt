-- `picks::across` meets its contract.
use mathlib.Core.Path.{ap, ◌∙◌}
use native.Mathlib.Omega.{arith}
use Rattle.model.specs.Table.{link, walk}
use Rattle.picks.proofs.Darts.{dart_there, dart_next}
use Rattle.picks.proofs.across.Goals as goal

pub link_in-y-requires : goal.link_in-y-requires
link_in-y-requires c = dart_there c.requires 1 (omega arith)

pub link_in-z-requires : goal.link_in-z-requires
link_in-z-requires c =
    rw c.link_in-y.ensures (dart_there (dart_next c.requires 1 (omega arith)) 0 (omega arith))

pub link_in-requires : goal.link_in-requires
link_in-requires c =
    let D = dart_next (dart_next c.requires 1 (omega arith)) 0 (omega arith) in
    rw (c.link_in-z.ensures, c.link_in-y.ensures) (dart_there D 1 (omega arith))

pub returns : goal.returns
unfolding walk
returns c =
    let t = c.args.table.now in
    c.link_in.ensures ∙ ap (link t 1) (c.link_in-z.ensures ∙ ap (link t 0) c.link_in-y.ensures)
