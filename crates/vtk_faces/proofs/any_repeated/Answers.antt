use Prim.Native.Nat.{ℕ, ◌+◌, ◌*◌, ◌-◌, ◌≤◌, ◌<◌}
use mathlib.Core.Path.{◌≡◌, refl, sym, ap, ◌∙◌, subst}
use mathlib.Core.Bool.{not}
use mathlib.Core.List.{List}
use native.Mathlib.Omega.{arith}
use borrow.Author.Rules.{rules}
use borrow.Author.Tests.{not-true, not-false}
use lib.ListN.{length, take, drop}
use Rattle.model.specs.Meaning.Vtk.{RowsAt}
use Rattle.vtk_rows.specs.Rows.{EightsAt}
use Rattle.vtk_faces.specs.Repeats.{all_once}
use Rattle.vtk_faces.specs.Texts.{CellsAt}
use Rattle.vtk_faces.proofs.Resting.{eights_at, read_left}
use Rattle.vtk_faces.proofs.Taken.{OnceUpto, part_held, part_long, twice_here, twice_more, twice_none}
use Rattle.vtk_faces.proofs.any_repeated.Goals as goal
use Rattle.vtk_faces.proofs.any_repeated.Goals.{After-min-block, After-repeated}

-- some of the cells that are left
some : (t : After-min-block) →
    let cells = t.args.cells in
    let n = t.min-block.result in
    (0 < n) × (8 * n ≤ length t.loop-left.rows) × (n ≤ t.loop-left.left) × (cells - t.loop-left.left + n ≤ cells)
some t =
    let e = t.min-block.ensures in
    let low = t.loop-left.invariant.1 in
    let same = t.loop-left.invariant.2 in
    let long = t.requires.1 in
    let left = t.loop-left-test.true in
    (omega arith, omega arith, omega arith, omega arith)

-- they can be read
eights : (t : After-min-block) (rs : List (List ℕ)) →
    let a = t.args in
    CellsAt a.text.now a.at a.cells rs
    → EightsAt a.text.now t.loop-left.p t.min-block.result (drop (a.cells - t.loop-left.left) rs)
eights t rs C =
    let few = some t in
    let number = C.number in
    let enough : t.args.cells - t.loop-left.left + t.min-block.result ≤ length rs = omega arith in
    eights_at rs _ _ _ _ (t.loop-left.invariant.0 rs C).1 C.eight enough

-- those that were read
part : (c : After-repeated) (rs : List (List ℕ)) →
    let a = c.args in
    CellsAt a.text.now a.at a.cells rs
    → c.repeated.result ≡ not (all_once (take c.min-block.result (drop (a.cells - c.loop-left.left) rs)))
part c rs C =
    let few = some (goal.at.After-repeated c).After-min-block in
    let number = C.number in
    let E = c.read_rows-p.ensures _ (eights (goal.at.After-repeated c).After-min-block rs C) in
    let same = E.same in
    let enough : c.args.cells - c.loop-left.left + c.min-block.result ≤ length rs = omega arith in
    c.repeated.ensures _ (part_held rs _ _ enough _ _ _ _ (omega arith) E) (part_long rs _ _ enough)

pub loop-left-init : goal.loop-left-init
loop-left-init c =
    let none : c.args.cells - c.args.cells ≡ 0 = omega arith in
    (λ rs C. rw none (λ k b. absurd (omega arith), C.stand), omega arith, refl)

pub read_rows-p-requires : goal.read_rows-p-requires
read_rows-p-requires c =
    let few = some (goal.at.read_rows-p-requires c).After-min-block in
    let C = c.requires.0 in
    ((_, eights (goal.at.read_rows-p-requires c).After-min-block _ C.is), few.1)

pub repeated-requires : goal.repeated-requires
repeated-requires c = let few = some (goal.at.repeated-requires c).After-min-block in search rules

pub returns-then-repeated : goal.returns-then-repeated
returns-then-repeated c = λ rs C.
    let few = some (goal.at.returns-then-repeated c).After-min-block in
    let number = C.number in
    let enough : c.args.cells - c.loop-left.left + c.min-block.result ≤ length rs = omega arith in
    sym (ap not (twice_here rs _ _ enough (not-true _ (sym (part (goal.at.returns-then-repeated c).After-repeated rs C) ∙ c.if-repeated.true))))

pub overflow_sub-left : goal.overflow_sub-left
overflow_sub-left c = (some (goal.at.overflow_sub-left c).After-min-block).2

pub loop-left-smaller : goal.loop-left-smaller
loop-left-smaller c = let few = some (goal.at.loop-left-smaller c).After-min-block in omega arith

pub loop-left-preserved : goal.loop-left-preserved
loop-left-preserved c =
    let (state, low, same) = c.loop-left.invariant in
    let few = some (goal.at.loop-left-preserved c).After-min-block in
    let cells = c.args.cells in
    let more : cells - c.loop-left.left + c.min-block.result ≡ cells - (c.loop-left.left - c.min-block.result) = omega arith in (
      λ rs C.
          let number = C.number in
          let enough : cells - c.loop-left.left + c.min-block.result ≤ length rs = omega arith in (
            subst (OnceUpto rs) more (twice_more rs _ _ enough (state rs C).0 (not-false _ (sym (part (goal.at.loop-left-preserved c).After-repeated rs C) ∙ c.if-repeated.false))),
            subst (λ (n : ℕ). RowsAt c.args.text.now c.read_rows-p.result (drop n rs)) more
                (read_left rs _ _ _ _ _ _ (c.read_rows-p.ensures _ (eights (goal.at.loop-left-preserved c).After-min-block rs C))),
          ),
      omega arith,
      search rules,
    )

pub returns : goal.returns
returns c = λ rs C.
    let low = c.loop-left.invariant.1 in
    let number = C.number in
    let out = c.loop-left-test.false in
    sym (ap not (twice_none rs _ (omega arith) (c.loop-left.invariant.0 rs C).0))
