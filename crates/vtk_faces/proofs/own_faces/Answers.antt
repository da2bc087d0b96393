use Prim.Native.Nat.{◌*◌}
use mathlib.Core.Path.{◌≡◌, refl}
use native.Mathlib.Omega.{arith}
use borrow.Author.Rules.{rules}
use Rattle.std.proofs.lemmas.Result.{err_from_is_err_and}
use Rattle.vtk_faces.proofs.Blocks.{both, no_third, run_none, run_going, run_more, run_three, run_block}
use Rattle.vtk_faces.proofs.own_faces.Goals as goal

pub loop-i-init : goal.loop-i-init
loop-i-init c =
    (run_none _ _ _ _ _ _ c.requires, omega arith, refl, refl, refl, refl)

pub own_face-requires : goal.own_face-requires
own_face-requires c =
    let (run, low, end, nexts, mates, heads) = c.loop-i.invariant in
    let taken = c.loop-i-test.true in
    run_going _ _ _ _ _ _ _ _ _ _ _ c.requires run (omega arith) nexts mates

pub returns-in_err-same : goal.returns-in_err-same
returns-in_err-same c =
    let end = c.loop-i.invariant.2 in
    let taken = c.loop-i-test.true in
    let p = err_from_is_err_and c.from_residual.result c.from_residual.ensures.1 in
    rw p.1 (run_three _ _ _ _ _ _ _ c.in_err-same.ensures _ (omega arith) refl)

pub loop-i-preserved : goal.loop-i-preserved
loop-i-preserved c =
    let (run, low, end, nexts, mates, heads) = c.loop-i.invariant in
    let taken = c.loop-i-test.true in (
      run_more _ _ _ _ _ _ _ c.in_ok-same.ensures _ _ _ _ run (no_third _) (both _ _),
      omega arith,
      end,
      search rules,
      search rules,
      search rules,
    )

pub returns : goal.returns
returns c =
    let (run, low, end, nexts, mates, heads) = c.loop-i.invariant in
    let left = c.loop-i-test.false in
    let all : c.loop-i.i ≡ 6 * c.args.cells = omega arith in
    rw all at (run_block _ _ _ _ _ _ run)
