-- `lines::giving::given` meets its contract, key by key.
use Rattle.model.specs.Session.{reads}
use Rattle.lines.specs.Held.{due_at}
use Rattle.lines.proofs.giving.given.Goals as goal

pub returns-in-Dim : goal.returns-in-Dim
unfolding reads due_at
returns-in-Dim c = λ n p i d o. rw c.in-Dim.is c.number_behind.ensures

pub returns-in-Slots : goal.returns-in-Slots
unfolding reads due_at
returns-in-Slots c = λ n p i d o. rw c.in-Slots.is c.number_behind-in-Slots.ensures

pub returns-in-Op : goal.returns-in-Op
unfolding reads due_at
returns-in-Op c = λ n p i d o. rw c.in-Op.is c.op_behind.ensures

pub returns-in-I : goal.returns-in-I
unfolding reads due_at
returns-in-I c = λ n p i d o. rw c.in-I.is c.number_behind-in-I.ensures

pub returns-in-D : goal.returns-in-D
unfolding reads due_at
returns-in-D c = λ n p i d o. rw c.in-D.is c.number_behind-in-D.ensures

pub returns-in-E : goal.returns-in-E
unfolding reads due_at
returns-in-E c = λ n p i d o. rw c.in-E.is c.number_behind-in-E.ensures
