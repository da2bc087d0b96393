-- `trials::main` is safe. The lemma spares the walk over the arrays.
use Rattle.std.proofs.Common.{ℕ, sym}
use lib.ListN.{length-replicate}
use Rattle.trials.proofs.main.Goals as goal

pub slice_bounds-play-end : goal.slice_bounds-play-end
slice_bounds-play-end c = sym (length-replicate {A = ℕ} 262148 0)

pub slice_bounds-play-end-2 : goal.slice_bounds-play-end-2
slice_bounds-play-end-2 c = sym (length-replicate {A = ℕ} 65537 0)

pub slice_bounds-play-end-3 : goal.slice_bounds-play-end-3
slice_bounds-play-end-3 c = sym (length-replicate {A = ℕ} 443000 0)

pub slice_bounds-play-end-4 : goal.slice_bounds-play-end-4
slice_bounds-play-end-4 c = sym (length-replicate {A = ℕ} 96 0)

pub slice_bounds-play-end-5 : goal.slice_bounds-play-end-5
slice_bounds-play-end-5 c = sym (length-replicate {A = ℕ} 4096 0)
