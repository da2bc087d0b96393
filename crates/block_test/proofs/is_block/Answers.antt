-- `block_test::is_block` meets its contract.
use Rattle.block_test.proofs.Scan.{none_block}
use Rattle.block_test.proofs.is_block.Goals as goal

pub returns : goal.returns
returns c = none_block _ _ _ _ c.least_wrong.ensures c.is_none.ensures
