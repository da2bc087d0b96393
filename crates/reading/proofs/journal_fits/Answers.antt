-- `reading::journal_fits` meets its contract.
use native.Mathlib.Omega.{arith}
use borrow.Author.Tests.{le-leb, lt-leb}
use Rattle.model.specs.Checks.{must, journal_ok}
use Rattle.model.specs.Journal.{cursor, end}
use Rattle.reading.proofs.journal_fits.Goals as goal

pub returns-then-journal-lt2 : goal.returns-then-journal-lt2
unfolding must journal_ok
returns-then-journal-lt2 c = rw (lt-leb _ _ c.if-journal-lt2.true)

pub returns-then-journal-gt1048576 : goal.returns-then-journal-gt1048576
unfolding must journal_ok
returns-then-journal-gt1048576 c = rw (le-leb _ _ c.if-journal-lt2.false, lt-leb _ _ c.if-journal-gt1048576.true)

pub overflow_cast-result : goal.overflow_cast-result
overflow_cast-result c = omega (arith, c.shared_slice_known-2-1.given 1)

pub returns : goal.returns
unfolding must journal_ok cursor end
returns c =
    rw (le-leb _ _ c.if-journal-lt2.false, le-leb _ _ c.if-journal-gt1048576.false)
