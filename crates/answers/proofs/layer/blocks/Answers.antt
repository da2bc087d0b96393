-- `answers::layer::blocks` meets its contract.
use Rattle.theorems.proofs.Lists.Scan.{least_is}
use Rattle.model.specs.Table.{slots}
use Rattle.model.specs.Cell.{in_wrong_cell, least_wrong}
use Rattle.answers.proofs.Verdicts.{least_passes, least_refuses, block_test}
use Rattle.answers.proofs.layer.blocks.Goals as goal

pub returns-in-Some : goal.returns-in-Some
returns-in-Some c = record { gives = least_refuses _ _ 8 _ (block_test _ _) c.in-Some.ensures }

pub returns-in-None : goal.returns-in-None
unfolding least_wrong
returns-in-None c =
    let a = c.args in
    let high = (least_is (in_wrong_cell a.n a.table.now) (slots a.table.now)).high in
    record { gives = least_passes _ _ 8 (block_test _ _) high c.in-None.ensures }
