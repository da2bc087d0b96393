-- `printing::ending` meets its contract.
use Rattle.model.specs.Session.{ending}
use Rattle.texts.proofs.Writing.{appended_then}
use native.Mathlib.Omega.{arith}
use Rattle.printing.proofs.ending.Goals as goal

pub darts-requires : goal.darts-requires
darts-requires c =
    (omega (arith, c.say-first.ensures.1, c.say-first.auto.out, c.requires.0), c.requires.1)

pub returns : goal.returns
unfolding ending
returns c =
    let e = c.live_count.ensures in
    appended_then (rw e at c.say-first.ensures.0) c.darts.ensures
