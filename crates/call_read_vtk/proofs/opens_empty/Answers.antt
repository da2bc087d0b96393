-- `call_read_vtk::opens_empty` meets its contract.
use mathlib.Core.Bool.{not}
use mathlib.Core.Path.{ap, ◌≡◌, refl}
use Rattle.model.specs.Checks.{pass, table_ok}
use Rattle.theorems.proofs.Lists.Scan.{clash}
use Rattle.theorems.proofs.Calls.Pass.{table_pass}
use Rattle.answers.proofs.Verdicts.{passes}
use Rattle.call_read_vtk.proofs.Empty.{empty_taken, empty_passes}
use Rattle.call_read_vtk.proofs.opens_empty.Goals as goal
use Rattle.call_read_vtk.proofs.opens_empty.Goals.{Else-not-journal_fits}

-- the table fits, from where the journal does
fits : (c : Else-not-journal_fits) → table_ok c.args.table.now ≡ pass
fits c = passes _ 2 c.table_fits.ensures (ap not c.if-not-table_fits.false)

pub returns-then-n-ne3 : goal.returns-then-n-ne3
returns-then-n-ne3 c h = absurd (clash h refl)

pub returns-then-not-table_fits : goal.returns-then-not-table_fits
returns-then-not-table_fits c h = absurd (clash h refl)

pub returns-then-not-journal_fits : goal.returns-then-not-journal_fits
returns-then-not-journal_fits c h = absurd (clash h refl)

pub is_empty-requires : goal.is_empty-requires
is_empty-requires c = fits c

pub returns : goal.returns
returns c h =
    empty_passes _ (table_pass _ (fits (goal.at.returns c).Else-not-journal_fits)).0 (empty_taken _ c.is_empty.ensures h) _ c.if-n-ne3.false _
    (fits (goal.at.returns c).Else-not-journal_fits) (passes _ 4 c.journal_fits.ensures (ap not c.if-not-journal_fits.false))
