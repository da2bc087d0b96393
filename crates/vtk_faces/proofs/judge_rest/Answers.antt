use Prim.Native.Nat.{ℕ, ◌+◌, ◌*◌, ◌-◌, ◌≤◌, ◌<◌}
use mathlib.Core.Path.{◌≡◌, refl, ap}
use mathlib.Core.List.{List}
use native.Mathlib.Omega.{arith}
use borrow.Author.Rules.{rules}
use lib.ListN.{drop}
use Rattle.vtk_rows.specs.Rows.{EightsRead}
use Rattle.vtk_faces.specs.Judged.{order_number, number_found, Ran}
use Rattle.vtk_faces.specs.Texts.{face_from, Rest}
use Rattle.std.proofs.lemmas.Result.{err_from_is_err_and}
use Rattle.vtk_faces.proofs.Blocks.{no_third}
use Rattle.vtk_faces.proofs.Resting.{resting_none, resting_eights, resting_chunk, resting_more, resting_three, resting_all}
use Rattle.vtk_faces.proofs.judge_rest.Goals as goal
use Rattle.vtk_faces.proofs.judge_rest.Goals.{After-min-some, After-later_faces, After-read_rows-p}

-- some of the cells that are left
some : (t : After-min-some) →
    let cells = t.args.cells in
    let n = t.min-some.result in
    (0 < n) × (n ≤ 24) × (n ≤ t.loop-left.left) × (cells - t.loop-left.left + n ≤ cells)
some t =
    let e = t.min-some.ensures in
    let low = t.loop-left.invariant.1 in
    let left = t.loop-left-test.true in
    (omega arith, omega arith, omega arith, omega arith)

-- their rows
read : (c : After-read_rows-p) (rs : List (List ℕ)) (d k : ℕ) →
    let a = c.args in
    Rest rs d k a.block.now.rows.now a.block.now.heads.now a.block.now.nexts.now a.mates.now (order_number a.before) a.text.now a.at a.cells
    → EightsRead a.text.now c.min-some.result (drop (d + k + (a.cells - c.loop-left.left)) rs) c.loop-left.chunk
    c.read_rows-p.new.rows c.read_rows-p.result
read c rs d k R =
    c.read_rows-p.ensures _ (resting_eights rs d k _ _ _ _ _ _ _ _ R _ _ _ _ _ (c.loop-left.invariant.0 rs d k R) (some (goal.at.After-read_rows-p c).After-min-some).3)

-- what was found of them
ran : (c : After-later_faces) (rs : List (List ℕ)) (d k : ℕ) →
    let a = c.args in
    Rest rs d k a.block.now.rows.now a.block.now.heads.now a.block.now.nexts.now a.mates.now (order_number a.before) a.text.now a.at a.cells
    → Ran (face_from rs d) (6 * k) (6 * k + 6 * (a.cells - c.loop-left.left) + 6 * c.min-some.result)
    c.later_faces.new.mates (number_found c.later_faces.result)
ran c rs d k R =
    c.later_faces.ensures _ _ _
    (resting_chunk rs d k _ _ _ _ _ _ _ _ R _ _ _ _ _ (c.loop-left.invariant.0 rs d k R) (some (goal.at.After-later_faces c).After-min-some).3 _ _ _ (read (goal.at.After-later_faces c).After-read_rows-p rs d k R))

pub loop-left-init : goal.loop-left-init
loop-left-init c =
    let none : c.args.cells - c.args.cells ≡ 0 = omega arith in
    (λ rs d k R. rw none (resting_none rs d k _ _ _ _ _ _ _ _ R), omega arith, refl, refl)

pub read_rows-p-requires : goal.read_rows-p-requires
read_rows-p-requires c =
    let S = c.requires.1 in
    let few = some (goal.at.read_rows-p-requires c).After-min-some in
    let long = c.loop-left.invariant.3 in
    ((_, resting_eights _ _ _ _ _ _ _ _ _ _ _ S.is _ _ _ _ _ (c.loop-left.invariant.0 _ _ _ S.is) few.3), omega arith)

pub slice_bounds-later_faces-end : goal.slice_bounds-later_faces-end
slice_bounds-later_faces-end c =
    let S = c.requires.1 in
    let long = c.loop-left.invariant.3 in
    let same = (read (goal.at.slice_bounds-later_faces-end c).After-read_rows-p _ _ _ S.is).same in
    omega arith

pub later_faces-requires : goal.later_faces-requires
later_faces-requires c =
    let S = c.requires.1 in
    let few = some (goal.at.later_faces-requires c).After-min-some in
    let long = c.loop-left.invariant.3 in
    let E = read (goal.at.later_faces-requires c).After-read_rows-p _ _ _ S.is in
    let same = E.same in (
      c.requires.0,
      omega arith,
      record {
        F = face_from S.rows S.d;
        m = 6 * S.k;
        i = 6 * S.k + 6 * (c.args.cells - c.loop-left.left);
        is = resting_chunk _ _ _ _ _ _ _ _ _ _ _ S.is _ _ _ _ _ (c.loop-left.invariant.0 _ _ _ S.is) few.3 _ _ _ E;
      },
    )

pub returns-in_err-same : goal.returns-in_err-same
returns-in_err-same c = λ rs d k R.
    let p = err_from_is_err_and c.from_residual.result c.from_residual.ensures.1 in
    rw p.1 (resting_three rs d k _ _ _ _ _ _ _ _ R _ _ _ _ _ (c.loop-left.invariant.0 rs d k R) (some (goal.at.returns-in_err-same c).After-min-some).3 _ _ _ (read (goal.at.returns-in_err-same c).After-read_rows-p rs d k R) _ _
    (ran (goal.at.returns-in_err-same c).After-later_faces rs d k R) (ap number_found c.in_err-same.was))

pub overflow_sub-left : goal.overflow_sub-left
overflow_sub-left c = (some (goal.at.overflow_sub-left c).After-min-some).2

pub loop-left-smaller : goal.loop-left-smaller
loop-left-smaller c = let few = some (goal.at.loop-left-smaller c).After-min-some in omega arith

pub loop-left-preserved : goal.loop-left-preserved
loop-left-preserved c =
    let (state, low, mates, chunk) = c.loop-left.invariant in
    let few = some (goal.at.loop-left-preserved c).After-min-some in
    let cells = c.args.cells in
    let S = c.requires.1 in
    let same = (read (goal.at.loop-left-preserved c).After-read_rows-p _ _ _ S.is).same in
    let more : cells - c.loop-left.left + c.min-some.result ≡ cells - (c.loop-left.left - c.min-some.result) = omega arith in (
      λ rs d k R. rw more at (resting_more rs d k _ _ _ _ _ _ _ _ R _ _ _ _ _ (state rs d k R) few.3 _ _ _ (read (goal.at.loop-left-preserved c).After-read_rows-p rs d k R)
          _ _ (rw c.in_ok-same.was at (ran (goal.at.loop-left-preserved c).After-later_faces rs d k R)) (no_third _)),
      omega arith,
      search rules,
      omega arith,
    )

pub returns : goal.returns
returns c = λ rs d k R.
    let low = c.loop-left.invariant.1 in
    let out = c.loop-left-test.false in
    resting_all rs d k _ _ _ _ _ _ _ _ R _ _ _ _ (c.loop-left.invariant.0 rs d k R) (omega arith)
