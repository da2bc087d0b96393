-- `vtk_form::behind_cells` meets its contract.
use Prim.Native.Nat.{ℕ}
use mathlib.Core.Path.{ap, ◌∙◌}
use mathlib.Core.List.{List}
use mathlib.Core.Option.{some}
use native.Mathlib.Omega.{arith}
use Rattle.vtk_words.proofs.Told.{number_told, number_unfit}
use Rattle.vtk_form.proofs.Sections.{cells_key, cells_parts, cells_few, cells_second, cells_rows, cells_read}
use Rattle.vtk_form.proofs.behind_cells.Goals as goal

pub returns-in_err-counts : goal.returns-in_err-counts
returns-in_err-counts c = rw c.from_residual.ensures (λ x h _. cells_key _ c.in_err-counts.ensures x h)

pub returns-in_err-count : goal.returns-in_err-count
returns-in_err-count c = rw c.from_residual-in_err-count.ensures (λ x h _.
    let f = cells_parts _ _ c.in_ok-counts.ensures.1 x h in
    let (few, _) = cells_few c.args.text.now c.in_ok-counts.counts x f in
    let high = number_unfit _ _ c.number_at.result c.ok.ensures.value c.in_err-count.was c.number_at.ensures _ f.first in
    omega (arith, c.well_formed))

pub returns-in_err-size : goal.returns-in_err-size
returns-in_err-size c = rw c.from_residual-in_err-size.ensures (λ x h _.
    let (_, count, _) = number_told _ _ c.number_at.result c.ok.ensures.value c.in_ok-count.was c.number_at.ensures in
    let f = cells_parts _ _ c.in_ok-counts.ensures.1 x h in
    let (_, most) = cells_few c.args.text.now c.in_ok-counts.counts x f in
    let high = number_unfit _ _ c.number_at-2.result c.ok-2.ensures.value c.in_err-size.was c.number_at-2.ensures _
    (cells_second c.args.text.now c.in_ok-counts.counts _ c.in_ok-count.field-0.end x f count) in
    omega (arith, c.well_formed))

pub returns-in_err-eight : goal.returns-in_err-eight
returns-in_err-eight c = rw c.from_residual-in_err-eight.ensures (λ x h named.
    let (_, count, _) = number_told _ _ c.number_at.result c.ok.ensures.value c.in_ok-count.was c.number_at.ensures in
    let (_, size, _) = number_told _ _ c.number_at-2.result c.ok-2.ensures.value c.in_ok-size.was c.number_at-2.ensures in
    let rows = cells_rows c.args.text.now c.in_ok-counts.counts _ c.in_ok-count.field-0.end x (cells_parts _ _ c.in_ok-counts.ensures.1 x h) count _ c.in_ok-size.field-0.end size in
    c.in_err-eight.ensures x.rows rows named)

pub returns : goal.returns
returns c =
    let (_, count, few) = number_told _ _ c.number_at.result c.ok.ensures.value c.in_ok-count.was c.number_at.ensures in
    let (high, size, small) = number_told _ _ c.number_at-2.result c.ok-2.ensures.value c.in_ok-size.was c.number_at-2.ensures in
    let f = c.in_ok-eight.ensures in
    record {
      low = high;
      few = few;
      size = c.in_ok-size.field-0.value;
      small = small;
      fit = f;
      read =
          cells_read _ _ _ _ f.rows c.in_ok-counts.ensures.1 count size f.read
          ∙ ap (λ (ws : List (List ℕ)). some (record { rows = f.rows; rest = ws })) f.behind;
    }
