-- The number of each reason, as "Numbers a call gives back" has them.
use Rattle.std.specs.Prelude.{ℕ}
use Rattle.refusals.specs.declared.Reason.{Reason}
use Rattle.refusals.specs.declared.Reason.TheVariants.{WrongDimension, WrongTableLength, WrongMarksLength, WrongQueueLength, WrongJournal, WrongListLength, LinkNotLive, LinkNotReturned, PairNotReturning, Link3NotFree, NotEmpty, WrongForm, OtherType, VertexRepeated, FaceShared, OtherOrder, OutOfRange, NotLive, NoBlockMap, NotDrawn, NotEnclosed, NotSewn, WrongTurns, NotConnected, SameSide, NotFree, Free, NoPairing, CrossesItself, TooFewSlots, NoRoom, NoRecord, BrokenRecord}
use Rattle.refusals.specs.declared.Refused.{Refused}

abbrev pub number_of : Reason → ℕ
number_of WrongDimension = 1
number_of WrongTableLength = 2
number_of WrongMarksLength = 3
number_of WrongQueueLength = 37
number_of WrongJournal = 4
number_of WrongListLength = 38
number_of LinkNotLive = 5
number_of LinkNotReturned = 24
number_of PairNotReturning = 25
number_of Link3NotFree = 26
number_of NotEmpty = 18
number_of WrongForm = 19
number_of OtherType = 20
number_of VertexRepeated = 21
number_of FaceShared = 22
number_of OtherOrder = 23
number_of OutOfRange = 6
number_of NotLive = 7
number_of NoBlockMap = 8
number_of NotDrawn = 28
number_of NotEnclosed = 29
number_of NotSewn = 30
number_of WrongTurns = 31
number_of NotConnected = 32
number_of SameSide = 9
number_of NotFree = 10
number_of Free = 11
number_of NoPairing = 12
number_of CrossesItself = 13
number_of TooFewSlots = 14
number_of NoRoom = 15
number_of NoRecord = 16
number_of BrokenRecord = 17

-- with no place and no count
abbrev pub alone : Reason → Refused
alone reason = record { reason = reason; place = 0; count = 0 }
