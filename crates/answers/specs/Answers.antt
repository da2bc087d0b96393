-- What a call gives and leaves, as one value of the model: `outcome`.
use Rattle.std.specs.Prelude.{List, ℕ, Result, Ok, Err}
use Rattle.model.specs.Calls.{Outcome}
pub use Rattle.refusals.specs.declared.Reason.{Reason}
pub use Rattle.refusals.specs.declared.Reason.TheVariants.{NoRoom, BrokenRecord}
pub use Rattle.refusals.specs.declared.Refused.{Refused}
pub use Rattle.refusals.specs.Numbers.{number_of, alone}
use Rattle.answers.specs.declared.Done.{Done}
use Rattle.answers.specs.declared.Told.{Told}

-- what a call gives, in words of the code
abbrev pub Answer : Type 0
Answer = Result Done Refused

-- the number, place and count of an answer
abbrev pub number : Answer → ℕ
number (Ok done) = 0
number (Err refused) = number_of refused.reason

abbrev pub place : Answer → ℕ
place (Ok done) = done.place
place (Err refused) = refused.place

abbrev pub count : Answer → ℕ
count (Ok done) = done.count
count (Err refused) = refused.count

abbrev pub told : Answer → Told
told r = record { number = number r; place = place r; count = count r }

-- the answer, and the table, marks and journal as the call leaves them
abbrev pub outcome : Answer → List ℕ → List ℕ → List ℕ → Outcome
outcome r t m j = record { number = number r; place = place r; count = count r; table = t; marks = m; journal = j }

-- ---- answers as values

abbrev pub refusal : Reason → ℕ → ℕ → Answer
refusal reason p q = Err (record { reason = reason; place = p; count = q })

abbrev pub accepted : ℕ → ℕ → Answer
accepted p k = Ok (record { place = p; count = k })
