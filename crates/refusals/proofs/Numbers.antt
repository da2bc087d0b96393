-- No reason has the number of a call that is carried out: `some_number`.
use mathlib.Core.Logic.{◌≢◌}
use native.Mathlib.Omega.{arith}
use Rattle.refusals.specs.declared.Reason.{Reason}
use Rattle.refusals.specs.declared.Reason.TheVariants.{WrongDimension, WrongTableLength, WrongMarksLength, WrongQueueLength, WrongJournal, WrongListLength, LinkNotLive, LinkNotReturned, PairNotReturning, Link3NotFree, NotEmpty, WrongForm, OtherType, VertexRepeated, FaceShared, OtherOrder, OutOfRange, NotLive, NoBlockMap, NotDrawn, NotEnclosed, NotSewn, WrongTurns, NotConnected, SameSide, NotFree, Free, NoPairing, CrossesItself, TooFewSlots, NoRoom, NoRecord, BrokenRecord}
use Rattle.refusals.specs.Numbers.{number_of}

pub some_number : (why : Reason) → number_of why ≢ 0
some_number WrongDimension h = absurd (omega arith)
some_number WrongTableLength h = absurd (omega arith)
some_number WrongMarksLength h = absurd (omega arith)
some_number WrongQueueLength h = absurd (omega arith)
some_number WrongJournal h = absurd (omega arith)
some_number WrongListLength h = absurd (omega arith)
some_number LinkNotLive h = absurd (omega arith)
some_number LinkNotReturned h = absurd (omega arith)
some_number PairNotReturning h = absurd (omega arith)
some_number Link3NotFree h = absurd (omega arith)
some_number NotEmpty h = absurd (omega arith)
some_number WrongForm h = absurd (omega arith)
some_number OtherType h = absurd (omega arith)
some_number VertexRepeated h = absurd (omega arith)
some_number FaceShared h = absurd (omega arith)
some_number OtherOrder h = absurd (omega arith)
some_number OutOfRange h = absurd (omega arith)
some_number NotLive h = absurd (omega arith)
some_number NoBlockMap h = absurd (omega arith)
some_number NotDrawn h = absurd (omega arith)
some_number NotEnclosed h = absurd (omega arith)
some_number NotSewn h = absurd (omega arith)
some_number WrongTurns h = absurd (omega arith)
some_number NotConnected h = absurd (omega arith)
some_number SameSide h = absurd (omega arith)
some_number NotFree h = absurd (omega arith)
some_number Free h = absurd (omega arith)
some_number NoPairing h = absurd (omega arith)
some_number CrossesItself h = absurd (omega arith)
some_number TooFewSlots h = absurd (omega arith)
some_number NoRoom h = absurd (omega arith)
some_number NoRecord h = absurd (omega arith)
some_number BrokenRecord h = absurd (omega arith)
