-- `printing::live_count` meets its contract.
use mathlib.Core.Path.{◌∙◌}
use native.Mathlib.Omega.{arith}
use Rattle.std.proofs.Common.{rules, tests}
use Rattle.std.proofs.lemmas.Iterator.{YieldsList-from_range}
use Rattle.std.proofs.lemmas.Iterator.Consumers.{YieldsList-from_filter, count_from_yields_List}
use Rattle.model.specs.Table.{slots, live}
use Rattle.printing.proofs.Rising.{live_all}
use Rattle.printing.proofs.live_count.Goals as goal

pub returns : goal.returns
returns c =
    let t = c.args.table.now in
    let end = c.slots-end.ensures in
    count_from_yields_List c.filter.result c.count.result c.count.ensures.ran
    (YieldsList-from_filter _ (live t) (YieldsList-from_range 0 (slots t) (slots t) (cc) (omega arith)) c.filter.ensures.closure (λ x b q k. search (rules, tests)))
    ∙ live_all t
