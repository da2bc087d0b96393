use mathlib.Core.Path.{◌≡◌}
use native.Mathlib.Omega.{arith}
use Rattle.call_sew.proofs.Parts.{part_none, part_pair, part_all, x_below, y_below, relink_fits, first_relinked}
use Rattle.call_sew.proofs.item.join.Goals as goal

pub loop-k-init : goal.loop-k-init
loop-k-init c = (omega arith, λ n d e J. part_none J)

pub bounds-xs-k : goal.bounds-xs-k
bounds-xs-k c = let room = c.requires.is.room in omega arith

pub overflow_cast-x-in-loop-k : goal.overflow_cast-x-in-loop-k
overflow_cast-x-in-loop-k c = omega (arith, c.shared_slice_known-in-loop-k-1.given c.loop-k.k)

pub bounds-ys-k : goal.bounds-ys-k
bounds-ys-k c = let room = c.requires.is.room in omega arith

pub overflow_cast-y-in-loop-k : goal.overflow_cast-y-in-loop-k
overflow_cast-y-in-loop-k c = omega (arith, c.shared_slice_known-in-loop-k-2-1.given c.loop-k.k)

pub relink-requires : goal.relink-requires
relink-requires c =
    let J = c.requires.is in
    relink_fits J (c.loop-k.invariant.1 _ _ _ J) _ (x_below J c.loop-k.k c.loop-k-test.true)

pub relink-requires-in-loop-k : goal.relink-requires-in-loop-k
relink-requires-in-loop-k c =
    let J = c.requires.is in
    let low = c.loop-k-test.true in
    relink_fits J (first_relinked J c.loop-k.k low (c.loop-k.invariant.1 _ _ _ J) c.relink.ensures) _ (y_below J c.loop-k.k low)

pub loop-k-preserved : goal.loop-k-preserved
loop-k-preserved c =
    let low = c.loop-k-test.true in
    (omega arith, λ n d e J. part_pair J c.loop-k.k low (c.loop-k.invariant.1 n d e J) c.relink.ensures c.relink-in-loop-k.ensures)

pub returns : goal.returns
returns c =
    let end : c.loop-k.k ≡ c.args.size = omega arith in
    λ n d e J. part_all J (rw end at (c.loop-k.invariant.1 n d e J))
