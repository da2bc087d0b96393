-- `unbroken` meets its contract: each `return false` by the test that fails.
use mathlib.Core.Path.{sym}
use mathlib.Core.Logic.{⊎_elim}
use native.Mathlib.Omega.{arith}
use borrow.Author.Tests.{eqb-true, eqb-false, ltb-true, ltb-false, leb-true, leb-false}
use Rattle.model.specs.Journal.{end}
use Rattle.model.specs.Meaning.Records.{no_change, passes_2, passes_end, counts_differ}
use Rattle.theorems.proofs.Lists.Scan.{or_cases, or_false}
use Rattle.theorems.proofs.History.Broken.{unbroken_exactly}
use Rattle.journal.proofs.Breaks.{unbroken_tested}
use Rattle.journal.proofs.unbroken.Goals as goal

pub returns-then-k-a : goal.returns-then-k-a
unfolding end
returns-then-k-a c =
    sym ((unbroken_exactly _ _ _ _ _).1 (⊎_elim
    (λ z. ⊎_elim (λ y. no_change (eqb-true _ _ y)) (λ y. passes_2 (ltb-true _ _ y)) (or_cases _ _ z))
    (λ z. let l = leb-true _ _ z in passes_end (omega arith)) (or_cases _ _ c.if-k-a.true)))

pub returns-then-journal-a : goal.returns-then-journal-a
returns-then-journal-a c = sym ((unbroken_exactly _ _ _ _ _).1 (counts_differ c.if-journal-a.true))

pub returns : goal.returns
unfolding end
returns c =
    let (begun, past) = or_false _ _ c.if-k-a.false in
    let (some, low) = or_false _ _ begun in
    let fits = leb-false _ _ past in
    let l = ltb-false _ _ low in
    unbroken_tested _ _ _ _ _ (eqb-false _ _ some) l (omega arith) c.if-journal-a.false _ c.sound_changes.ensures
