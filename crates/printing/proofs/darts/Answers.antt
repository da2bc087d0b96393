use Rattle.printing.proofs.Rising.{going_start, going_on, gone}
use Rattle.printing.proofs.darts.Goals as goal

pub loop-d-init : goal.loop-d-init
loop-d-init c = going_start _ _ _ c.slots-end.ensures c.requires.0

pub loop-d-preserved : goal.loop-d-preserved
loop-d-preserved c =
    going_on c.loop-d.invariant c.loop-d-test.true c.dart-place.ensures.0 c.dart-place.ensures.1
    c.dart-place.auto.out

pub returns : goal.returns
returns c = gone c.loop-d.invariant c.loop-d-test.false
