use Prim.Native.Nat.{ℕ, ◌+◌, ◌*◌, ◌-◌, ◌≤◌, ◌<◌}
use mathlib.Core.Path.{◌≡◌, refl, ap, subst}
use mathlib.Core.Bool.{◌&&◌}
use mathlib.Core.List.{List}
use native.Mathlib.Omega.{arith}
use borrow.Author.Rules.{rules}
use lib.ListN.{length, drop}
use Rattle.model.specs.Meaning.Vtk.{RowsAt}
use Rattle.vtk_rows.specs.Rows.{EightsAt}
use Rattle.vtk_faces.specs.Judged.{order_number, number_found, Ran}
use Rattle.vtk_faces.specs.Texts.{Judgeable, face_from, BlockAt}
use Rattle.std.proofs.lemmas.Result.{err_from_is_err_and}
use Rattle.vtk_faces.proofs.Blocks.{both, no_third}
use Rattle.vtk_faces.proofs.Verdicts.{verdict_three, Upto, upto_none, upto_more, upto_three, upto_verdict}
use Rattle.vtk_faces.proofs.Resting.{eights_at, read_left}
use Rattle.vtk_faces.proofs.Taken.{taken_block}
use Rattle.vtk_faces.proofs.judge.Goals as goal
use Rattle.vtk_faces.proofs.judge.Goals.{After-min-block, After-judge_block, After-read_rows-p, At-loop-left}

-- how many cells were blocks
abbrev gone : At-loop-left → ℕ
gone l = l.args.cells - l.loop-left.left

-- some of the cells that are left
some : (t : After-min-block) →
    let n = t.min-block.result in
    (0 < n) × (n ≤ 1365) × (8 * n ≤ length t.loop-left.rows) × (n ≤ t.loop-left.left) × (gone (goal.at.After-min-block t).At-loop-left + n ≤ t.args.cells)
some t =
    let e = t.min-block.ensures in
    let low = t.loop-left.invariant.1 in
    let same = t.loop-left.invariant.2 in
    let long = t.requires.1 in
    let left = t.loop-left-test.true in
    (omega arith, omega arith, omega arith, omega arith, omega arith)

-- they can be read
eights : (t : After-min-block) (rs : List (List ℕ)) →
    let a = t.args in
    Judgeable a.text.now a.at a.cells rs
    → EightsAt a.text.now t.loop-left.p t.min-block.result (drop (gone (goal.at.After-min-block t).At-loop-left) rs)
eights t rs C =
    let few = some t in
    let number = C.number in
    let enough : gone (goal.at.After-min-block t).At-loop-left + t.min-block.result ≤ length rs = omega arith in
    eights_at rs _ _ _ _ (t.loop-left.invariant.0 rs C).1 C.hexahedra.eight enough

-- the block that was read
block : (c : After-read_rows-p) (rs : List (List ℕ)) →
    let a = c.args in
    Judgeable a.text.now a.at a.cells rs
    → BlockAt rs (gone (goal.at.After-read_rows-p c).At-loop-left) c.min-block.result c.read_rows-p.new.rows a.text.now c.read_rows-p.result
    (c.loop-left.left - c.min-block.result)
block c rs C =
    let few = some (goal.at.After-read_rows-p c).After-min-block in
    let low = c.loop-left.invariant.1 in
    let number = C.number in
    let E = c.read_rows-p.ensures _ (eights (goal.at.After-read_rows-p c).After-min-block rs C) in
    let same = E.same in
    let whole : gone (goal.at.After-read_rows-p c).At-loop-left + c.loop-left.left ≡ length rs = omega arith in
    taken_block rs _ _ _ _ _ _ _ C.hexahedra whole few.3 (omega arith) E

-- what was found
ran : (c : After-judge_block) (rs : List (List ℕ)) →
    let a = c.args in
    let k = c.min-block.result in
    Judgeable a.text.now a.at a.cells rs
    → Ran (face_from rs (gone (goal.at.After-judge_block c).At-loop-left)) (6 * k) (6 * k + 6 * (c.loop-left.left - k)) c.judge_block.new.mates (number_found c.judge_block.result)
ran c rs C = c.judge_block.ensures rs _ (block (goal.at.After-judge_block c).After-read_rows-p rs C)

-- all faces were looked at
whole : (c : After-judge_block) (rs : List (List ℕ)) →
    let a = c.args in
    let k = c.min-block.result in
    Judgeable a.text.now a.at a.cells rs → 6 * gone (goal.at.After-judge_block c).At-loop-left + (6 * k + 6 * (c.loop-left.left - k)) ≡ 6 * length rs
whole c rs C =
    let few = some (goal.at.After-judge_block c).After-min-block in
    let low = c.loop-left.invariant.1 in
    let number = C.number in
    omega arith

pub loop-left-init : goal.loop-left-init
loop-left-init c =
    let none : c.args.cells - c.args.cells ≡ 0 = omega arith in
    (λ rs C. rw none (upto_none rs, C.stand), omega arith, refl, refl, refl, refl)

pub read_rows-p-requires : goal.read_rows-p-requires
read_rows-p-requires c =
    let C = c.requires.0 in
    ((_, eights (goal.at.read_rows-p-requires c).After-min-block _ C.is), (some (goal.at.read_rows-p-requires c).After-min-block).2)

pub overflow_sub-left : goal.overflow_sub-left
overflow_sub-left c = (some (goal.at.overflow_sub-left c).After-min-block).3

pub judge_block-requires : goal.judge_block-requires
judge_block-requires c =
    let (C, long, L) = c.requires in
    let (state, low, rows, heads, nexts, mates) = c.loop-left.invariant in
    let few = some (goal.at.judge_block-requires c).After-min-block in
    let heads_long = L.heads_long in
    let nexts_room = L.nexts_room in
    let mates_room = L.mates_room in (
      c.sites-sites.ensures,
      record { few = few.1; heads_long = omega arith; nexts_room = omega arith; mates_room = omega arith },
      record { rows = C.rows; d = gone (goal.at.judge_block-requires c).At-loop-left; is = block (goal.at.judge_block-requires c).After-read_rows-p _ C.is },
    )

pub returns-in_err-same : goal.returns-in_err-same
returns-in_err-same c = λ rs C.
    let p = err_from_is_err_and c.from_residual.result c.from_residual.ensures.1 in
    rw (p.1, p.2) (verdict_three rs C.hexahedra (upto_three rs _ _ _ (whole (goal.at.returns-in_err-same c).After-judge_block rs C) _ _ (ran (goal.at.returns-in_err-same c).After-judge_block rs C) (ap number_found c.in_err-same.was)))

pub loop-left-smaller : goal.loop-left-smaller
loop-left-smaller c = let few = some (goal.at.loop-left-smaller c).After-min-block in omega arith

pub loop-left-preserved : goal.loop-left-preserved
loop-left-preserved c =
    let (state, low, rows, heads, nexts, mates) = c.loop-left.invariant in
    let few = some (goal.at.loop-left-preserved c).After-min-block in
    let cells = c.args.cells in
    let mates_same = c.mates-1.given in
    let nexts_same = c.nexts-1.given in
    let heads_same = c.heads-1.given in
    let more : gone (goal.at.loop-left-preserved c).At-loop-left + c.min-block.result ≡ cells - (c.loop-left.left - c.min-block.result) = omega arith in (
      λ rs C. (
        subst (λ (n : ℕ). Upto rs n (order_number (c.loop-left.same && c.in_ok-same.field-0))) more
            (upto_more rs _ _ _ (whole (goal.at.loop-left-preserved c).After-judge_block rs C) _ _ (rw c.in_ok-same.was at (ran (goal.at.loop-left-preserved c).After-judge_block rs C)) (no_third _) _ _ (state rs C).0 (both _ _)),
        subst (λ (n : ℕ). RowsAt c.args.text.now c.read_rows-p.result (drop n rs)) more
            (read_left rs _ _ _ _ _ _ (c.read_rows-p.ensures _ (eights (goal.at.loop-left-preserved c).After-min-block rs C))),
      ),
      omega arith,
      search rules,
      search rules,
      search rules,
      search rules,
    )

pub returns : goal.returns
returns c = λ rs C.
    let low = c.loop-left.invariant.1 in
    let number = C.number in
    let out = c.loop-left-test.false in
    let all : gone (goal.at.returns c).At-loop-left ≡ length rs = omega arith in
    let (U, stand) = c.loop-left.invariant.0 rs C in
    rw c.ordered.ensures (upto_verdict rs _ C.hexahedra (rw all at U))
