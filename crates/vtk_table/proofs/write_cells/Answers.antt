use Prim.Native.Nat.{ℕ, ◌*◌, ◌<◌}
use mathlib.Core.Path.{◌≡◌, refl, sym}
use mathlib.Core.List.{List}
use native.Mathlib.Omega.{arith}
use lib.ListN.{length}
use borrow.Author.Rules.{rules}
use Rattle.model.specs.Journal.{cursor}
use Rattle.model.specs.Faces.{vtk_table}
use Rattle.drafts.specs.Passes.{Pass}
use Rattle.vtk_table.specs.Cells.{Placed, NewCell, NewCells}
use Rattle.vtk_table.proofs.Placing.{placed_none}
use Rattle.vtk_table.proofs.Drafting.{cells_none, cells_new, cells_word, cells_all}
use Rattle.vtk_table.proofs.write_cells.Goals as goal
use Rattle.vtk_table.proofs.write_cells.Goals.{After-sew_cell}

pub overflow_cast-w : goal.overflow_cast-w
overflow_cast-w c = omega (arith, c.slice_known-3-1.given 0)

pub overflow_add-w : goal.overflow_add-w
overflow_add-w c = omega (arith, c.slice_known-3-1.given 0)

pub loop-c-init : goal.loop-c-init
unfolding cursor
loop-c-init c = (
  omega arith,
  refl,
  λ rs N. (placed_none _ _, cells_none N),
  c.record_words-words.ensures,
  c.table_words-own.ensures,
  c.steps-steps.ensures,
)

pub slice_bounds-sew_cell-end : goal.slice_bounds-sew_cell-end
slice_bounds-sew_cell-end c = sym c.loop-c.invariant.1

pub sew_cell-requires : goal.sew_cell-requires
sew_cell-requires c =
    let (up, long, written, words, own, steps) = c.loop-c.invariant in
    let N = c.requires.are in
    (long, record { t = _; rows = _; cells = N.are; low = let number = N.number in omega arith }, steps)

long : (c : After-sew_cell) → length c.sew_cell.new.thirds ≡ 48
long c = search rules

here : (c : After-sew_cell) (rs : List (List ℕ)) → NewCells c.args.table.now rs c.args.mates.now c.args.cells c.args.journal.now
    → Placed c.args.table.now (vtk_table c.args.table.now rs) (4 * (48 * c.loop-c.c)) c.loop-c.table
    × Pass c.args.table.now (vtk_table c.args.table.now rs) c.args.journal.now (48 * c.loop-c.c) c.loop-c.w c.loop-c.journal
here c rs N = c.loop-c.invariant.2 rs N

new : (c : After-sew_cell) (rs : List (List ℕ)) → NewCells c.args.table.now rs c.args.mates.now c.args.cells c.args.journal.now
    → NewCell c.args.table.now (vtk_table c.args.table.now rs) c.sew_cell.new.thirds c.loop-c.c
new c rs N =
    let low : c.loop-c.c < length rs = let number = N.number in omega arith in
    cells_new N c.loop-c.c low c.sew_cell.new.thirds (c.sew_cell.ensures _ rs N.are low)

pub write_cell-requires : goal.write_cell-requires
write_cell-requires c =
    let (up, long, written, words, own, steps) = c.loop-c.invariant in
    let N = c.requires.are in
    let (placed, pass) = here (goal.at.write_cell-requires c).After-sew_cell _ N in
    (words, own, record { t = _; u = _; j = _; rule = N.rule; placed = placed; pass = pass; new = new (goal.at.write_cell-requires c).After-sew_cell _ N })

pub overflow_add-w-in-loop-c : goal.overflow_add-w-in-loop-c
overflow_add-w-in-loop-c c =
    let N = c.requires.are in
    let (placed, pass) = here (goal.at.overflow_add-w-in-loop-c c).After-sew_cell _ N in
    let word = cells_word N (c.write_cell.ensures _ _ _ placed pass (new (goal.at.overflow_add-w-in-loop-c c).After-sew_cell _ N)).1 (omega arith) in
    omega arith

pub loop-c-preserved : goal.loop-c-preserved
loop-c-preserved c =
    let (up, was, written, words, own, steps) = c.loop-c.invariant in (
      omega arith,
      long (goal.at.loop-c-preserved c).After-sew_cell,
      λ rs N. let (placed, pass) = here (goal.at.loop-c-preserved c).After-sew_cell rs N in c.write_cell.ensures _ _ _ placed pass (new (goal.at.loop-c-preserved c).After-sew_cell rs N),
      words,
      own,
      steps,
    )

pub returns : goal.returns
returns c =
    let l = c.loop-c in
    let all : l.c ≡ c.args.cells = omega arith in
    λ rs N. let (placed, pass) = rw all at (l.invariant.2 rs N) in cells_all N placed pass
