-- What pick gives, as an answer (`answer_of`) and the number of darts taken off the queue (`taken_of`).
use Rattle.std.specs.Prelude.{ℕ, Result, Ok, Err}
use Rattle.answers.specs.Answers.{Answer, Refused, accepted}
use Rattle.call_pick.specs.declared.Picked.{Picked}

abbrev pub answer_of : Result Picked Refused → Answer
answer_of (Ok picked) = accepted 0 picked.count
answer_of (Err refused) = Err refused

-- of a refusal 0
abbrev pub taken_of : Result Picked Refused → ℕ
taken_of (Ok picked) = picked.taken
taken_of (Err refused) = 0
