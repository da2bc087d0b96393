use Rattle.block_test.proofs.Seen.{seen_first, seen_next}
use Rattle.block_test.proofs.mark.Goals as goal

pub loop-x-init : goal.loop-x-init
loop-x-init c = seen_first _

pub loop-x-preserved : goal.loop-x-preserved
loop-x-preserved c = seen_next _ _ _ _ c.loop-x-test.true c.loop-x.invariant
