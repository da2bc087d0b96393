-- `walls::word` meets its contract.
use native.Mathlib.Omega.{arith}
use Rattle.walls.proofs.word.Goals as goal

pub overflow_cast-result-2 : goal.overflow_cast-result-2
overflow_cast-result-2 c = omega (arith, c.shared_slice_known-1.given c.args.k)
