-- `sound_change` meets its contract.
use mathlib.Core.Path.{ap, sym, ◌∙◌}
use lib.Dec.{eqb}
use Rattle.journal.proofs.Breaks.{sound_low, sound_past, sound_alike, sound_differs}
use Rattle.journal.proofs.sound_change.Goals as goal

pub returns-then-e-least : goal.returns-then-e-least
returns-then-e-least c = sym (sound_low _ _ _ _ _ c.if-e-least.true)

pub returns-then-table-e : goal.returns-then-table-e
returns-then-table-e c = sym (sound_past _ _ _ _ _ c.if-table-e.true)

pub returns-then-journal-w : goal.returns-then-journal-w
returns-then-journal-w c = sym (sound_alike _ _ _ _ _ c.if-journal-w.true)

pub returns : goal.returns
returns c =
    ap (eqb _) c.value_put.ensures
    ∙ sym (sound_differs _ _ _ _ _ c.if-e-least.false c.if-table-e.false c.if-journal-w.false)
