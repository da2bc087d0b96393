-- What a C call gives and leaves, as one value of the model: `given`.
use Rattle.std.specs.Prelude.{ℕ, List}
use Rattle.model.specs.Calls.{Outcome}

-- the number returned, place and count stored, and the table, marks and journal as the call leaves them
abbrev pub given : ℕ → ℕ → ℕ → List ℕ → List ℕ → List ℕ → Outcome
given r p k t m j = record { number = r; place = p; count = k; table = t; marks = m; journal = j }
