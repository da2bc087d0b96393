-- `lines::taking::noted` meets its contract, key by key.
use Rattle.lines.specs.Held.{noted_at}
use Rattle.lines.proofs.taking.noted.Goals as goal

pub returns-in-Dim : goal.returns-in-Dim
unfolding noted_at
returns-in-Dim c = rw (c.in-Dim.is, c.due.ensures)

pub returns-in-Slots : goal.returns-in-Slots
unfolding noted_at
returns-in-Slots c = rw (c.in-Slots.is, c.due-in-Slots.ensures)

pub returns-in-Op : goal.returns-in-Op
unfolding noted_at
returns-in-Op c = rw (c.in-Op.is, c.due-in-Op.ensures)

pub returns-in-I : goal.returns-in-I
unfolding noted_at
returns-in-I c = rw (c.in-I.is, c.due-in-I.ensures)

pub returns-in-D : goal.returns-in-D
unfolding noted_at
returns-in-D c = rw (c.in-D.is, c.due-in-D.ensures)

pub returns-in-E : goal.returns-in-E
unfolding noted_at
returns-in-E c = rw (c.in-E.is, c.due-in-E.ensures)
