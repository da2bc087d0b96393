-- What is known where a word was the one asked for, or a number, and where it was not. (docs/PORT.md names `place_unfit`, `number_none`,
-- `number_unfit` and `number_at_lem`.)
use Prim.Native.Nat.{ℕ, ◌≤◌, ◌<◌}
use mathlib.Core.Path.{◌≡◌, sym, ap, ◌∙◌}
use mathlib.Core.List.{List}
use mathlib.Core.Option.{Option, none, some}
use lib.ListN.{length}
use Rattle.std.specs.Prelude.{Option as Option_of_std, Some, None, Result, Ok, Err}
use Rattle.std.specs.Result.{result_ok}
use Rattle.std.proofs.lemmas.Option.{none-some}
use Rattle.model.specs.Vtk.{Counted}
use Rattle.vtk_words.specs.Words.{PlaceOf, NumberOf, number_at, large}
use Rattle.vtk_words.specs.declared.Decimal.{Decimal}
use Rattle.vtk_words.specs.declared.NoDecimal.{NoDecimal}
use Rattle.vtk_words.specs.declared.NoDecimal.TheVariants.{Large, Unfit}
use Rattle.vtk_words.proofs.Counting.{none_some}

module _ (text : List ℕ) (o : Option (List (List ℕ))) where
  pub place_unfit : (r : Option_of_std ℕ) → r ≡ None → PlaceOf text o r → o ≡ none
  place_unfit r e k = rw e at k

module _ (text : List ℕ) (o : Option Counted) where
  pub number_at_lem : {r : Result Decimal NoDecimal} {d : Decimal} → r ≡ Ok d → NumberOf text o r
      → (d.end ≤ length text) × (o ≡ some (number_at text d.value d.end)) × (d.value < large)
  number_at_lem e h = rw e at h

  pub number_none : (r : Result Decimal NoDecimal) → r ≡ Err Unfit → NumberOf text o r → o ≡ none
  number_none r e k = rw e at k

  -- a number that was asked for with at most 19 digits
  pub number_told : (r : Result Decimal NoDecimal) {q : Option_of_std Decimal} {d : Decimal} → q ≡ result_ok r → q ≡ Some d → NumberOf text o r
      → (d.end ≤ length text) × (o ≡ some (number_at text d.value d.end)) × (d.value < large)
  number_told (Ok f) {d = d} e s h = let same : f ≡ d = cc in rw same at h
  number_told (Err f) {d = d} e s h = absurd (none-some d (sym e ∙ s))

  -- where there is none, the word is no number, or too large
  pub number_refused : (f : NoDecimal) → NumberOf text o (Err f) → (c : Counted) → o ≡ some c → large ≤ c.value
  number_refused (Large p) k c s =
      let (v, q, high) = k.1 in
      let same : v ≡ c.value = ap (λ (c : Counted). c.value) (let s : number_at text v p ≡ c = cc in s) in
      rw same at high
  number_refused Unfit k c s = absurd (none_some k s)

  pub number_unfit : (r : Result Decimal NoDecimal) {q : Option_of_std Decimal} → q ≡ result_ok r → q ≡ None → NumberOf text o r
      → (c : Counted) → o ≡ some c → large ≤ c.value
  number_unfit (Ok d) e n k c s = absurd (none-some d (sym n ∙ e))
  number_unfit (Err f) e n k c s = number_refused f k c s
