-- `trials::calls::lend_nines` is safe. The lemma spares the walk over the marks.
use Rattle.std.proofs.Common.{ℕ, sym}
use lib.ListN.{length-replicate}
use Rattle.trials.proofs.calls.lend_nines.Goals as goal

pub slice_bounds-lend_some-end : goal.slice_bounds-lend_some-end
slice_bounds-lend_some-end c = sym (length-replicate {A = ℕ} 65537 9)
