-- A C call gives what the call below it gives: `gives`.
use Prim.Native.Nat.{ℕ}
use mathlib.Core.Path.{◌≡◌}
use mathlib.Core.List.{List}
use Rattle.model.specs.Calls.{Outcome}
use Rattle.answers.specs.Answers.{Answer, told, outcome}
use Rattle.phlernsap.specs.Given.{given}

pub gives : {r p k : ℕ} (a : Answer) {t m j : List ℕ} {o : Outcome} → (r ≡ (told a).number) × (p ≡ (told a).place) × (k ≡ (told a).count)
    → outcome a t m j ≡ o → given r p k t m j ≡ o
gives a same e = rw (same.0, same.1, same.2) e
