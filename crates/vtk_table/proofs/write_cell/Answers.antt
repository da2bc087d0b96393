use Prim.Native.Nat.{◌+◌, ◌*◌}
use native.Mathlib.Omega.{arith}
use Rattle.drafts.specs.Passes.{Pass}
use Rattle.vtk_table.specs.Cells.{Placed, ToCell}
use Rattle.vtk_table.proofs.Placing.{placed_at}
use Rattle.vtk_table.proofs.Drafting.{pass_at, cell_inside, cell_word}
use Rattle.vtk_table.proofs.write_cell.Goals as goal
use Rattle.vtk_table.proofs.write_cell.Goals.{At-loop-k}

pub overflow_cast-cell : goal.overflow_cast-cell
overflow_cast-cell c = let p = c.requires.2 in let inside = cell_inside p.new in let few = p.pass.few in omega arith

pub overflow_mul-cell : goal.overflow_mul-cell
overflow_mul-cell c = let p = c.requires.2 in let inside = cell_inside p.new in let few = p.pass.few in omega arith

pub loop-k-init : goal.loop-k-init
loop-k-init c = (omega arith, λ t u j placed P new. (placed_at (omega arith) placed, pass_at (omega arith) (omega arith) P))

-- what the function requires, and where the pass has come to
abbrev pre : (l : At-loop-k) → let a = l.args in ToCell a.thirds.now a.c a.w a.table.now a.journal.now
pre l = l.requires.2

here : (l : At-loop-k) → let a = l.args in
    let k = l.loop-k.k in
    Placed (pre l).t (pre l).u (4 * (48 * a.c + k)) l.loop-k.table
    × Pass (pre l).t (pre l).u (pre l).j (48 * a.c + k) (a.w + 12 * k) l.loop-k.journal
here l = l.loop-k.invariant.1 _ _ _ (pre l).placed (pre l).pass (pre l).new

pub overflow_add-w : goal.overflow_add-w
overflow_add-w c =
    let p = pre (goal.at.overflow_add-w c).At-loop-k in
    let word = cell_word p.new (here (goal.at.overflow_add-w c).At-loop-k).1 (omega arith) p.rule in
    omega arith

pub draft_dart-requires : goal.draft_dart-requires
draft_dart-requires c =
    (c.requires.0, omega arith, record { t = _; u = _; j = _; pass = (here (goal.at.draft_dart-requires c).At-loop-k).1; four = (pre (goal.at.draft_dart-requires c).At-loop-k).new.four _ (omega arith) })

pub put_dart-requires : goal.put_dart-requires
put_dart-requires c =
    let placed = (here (goal.at.put_dart-requires c).At-loop-k).0 in
    let p = pre (goal.at.put_dart-requires c).At-loop-k in
    let long = placed.long in
    let fits = p.pass.fits in
    let few = p.pass.few in
    let inside = cell_inside p.new in
    (c.requires.1, omega arith, omega arith, omega arith)

pub loop-k-preserved : goal.loop-k-preserved
loop-k-preserved c =
    let k = c.loop-k.k in (
      omega arith,
      λ t u j placed P new.
          let (placed', P') = c.loop-k.invariant.1 t u j placed P new in
          let four = new.four k (omega arith) in (
            placed_at (omega arith) (c.put_dart.ensures t u placed' four.after),
            pass_at (omega arith) (omega arith) (c.draft_dart.ensures t u j P' four),
          ),
    )

pub returns : goal.returns
returns c =
    let l = c.loop-k in
    λ t u j placed P new.
    let (placed', P') = l.invariant.1 t u j placed P new in
    (placed_at (omega arith) placed', pass_at (omega arith) (omega arith) P')
