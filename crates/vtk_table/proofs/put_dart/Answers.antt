use Prim.Native.Nat.{ℕ, ◌+◌, ◌*◌, ◌<◌}
use mathlib.Core.Path.{◌≡◌, refl, ap, ◌∙◌}
use native.Mathlib.Omega.{arith}
use lib.ListN.{get_or, length-set}
use Rattle.model.specs.Table.{link}
use Rattle.vtk_table.specs.Cells.{shifts, dart_links}
use Rattle.vtk_table.proofs.Words.{word_shifted, links_few}
use Rattle.vtk_table.proofs.Placing.{placed_at, placed_more}
use Rattle.vtk_table.proofs.put_dart.Goals as goal
use Rattle.vtk_table.proofs.put_dart.Goals.{At-loop-i}

new_is : (l : At-loop-i) (low : l.loop-i.i < 4) → get_or l.args.own.now (4 * l.args.k + l.loop-i.i) 0 + get_or (shifts l.args.cell l.args.third) l.loop-i.i 0
    ≡ get_or (dart_links l.args.cell l.args.third l.args.k) l.loop-i.i 0
new_is l low =
    let dart = l.requires.1 in
    ap (λ (x : ℕ). x + get_or (shifts l.args.cell l.args.third) l.loop-i.i 0)
    (l.requires.0 (4 * l.args.k + l.loop-i.i) (omega arith))
    ∙ word_shifted l.args.k dart l.args.cell l.args.third l.loop-i.i low

pub loop-i-init : goal.loop-i-init
loop-i-init c = (omega arith, refl, λ t u P after. placed_at (omega arith) P)

pub overflow_add-table-in-loop-i : goal.overflow_add-table-in-loop-i
overflow_add-table-in-loop-i c =
    let small = links_few c.args.k c.requires.1 c.args.cell c.args.third (omega arith) (omega arith)
    c.loop-i.i (omega arith) in
    omega (arith, new_is (goal.at.overflow_add-table-in-loop-i c).At-loop-i (omega arith))

pub loop-i-preserved : goal.loop-i-preserved
unfolding link
loop-i-preserved c =
    let (up, same, placed) = c.loop-i.invariant in (
      omega arith,
      simp length-set same,
      λ t u P after. placed_at (omega arith) (placed_more (placed t u P after) (omega arith) _
          (new_is (goal.at.loop-i-preserved c).At-loop-i (omega arith) ∙ after c.loop-i.i (omega arith))),
    )

pub returns : goal.returns
returns c =
    let l = c.loop-i in
    λ t u P after. placed_at (omega arith) (l.invariant.2 t u P after)
