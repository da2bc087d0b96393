-- The words of a text from a place on: where the next one begins and ends, and what it is as a keyword and as a number.
use Rattle.std.specs.Prelude.{ℕ, ◌+◌, ◌*◌, ◌-◌, ◌≤◌, ◌<◌, ◌≡◌, Bool, true, false, not, ◌&&◌, List, [], ◌∷◌, length, get_or, take, drop, Option as Option_of_std, Some, None, Result, Ok, Err}
use Rattle.std.proofs.Math.Option.{Option, none, some}
use Rattle.model.specs.Text.{is_digit}
use Rattle.model.specs.Vtk.{is_blank, ended, words, Counted}
use Rattle.vtk_words.specs.declared.Decimal.{Decimal}
use Rattle.vtk_words.specs.declared.NoDecimal.{NoDecimal}
use Rattle.vtk_words.specs.declared.NoDecimal.TheVariants.{Large, Unfit}

-- r is the first place from `at` on where a byte is blank, or is not, as b says; or the end
pub record First (b : Bool) (text : List ℕ) (at r : ℕ) : Type 0 where
  pub low : at ≤ r
  pub high : r ≤ length text
  pub passed : (k : ℕ) → at ≤ k → k < r → is_blank (get_or text k 0) ≡ not b
  pub found : r < length text → is_blank (get_or text r 0) ≡ b

-- r is where the first word from `at` on begins, or the end
pub record WordStart (text : List ℕ) (at r : ℕ) : Type 0 where
  pub low : at ≤ r
  pub high : r ≤ length text
  pub same : words (drop at text) ≡ words (drop r text)
  pub full : r < length text → is_blank (get_or text r 0) ≡ false

-- r is where the word ends that begins at `start`; there is none only where a blank stands there, or nothing
pub record WordEnd (text : List ℕ) (start r : ℕ) : Type 0 where
  pub low : start ≤ r
  pub high : r ≤ length text
  pub is : words (drop start text) ≡ ended (take (r - start) (drop start text)) (words (drop r text))
  pub some : start < length text → is_blank (get_or text start 0) ≡ false → start < r

-- how many words end between two bytes: one, where the second is the blank behind a word
unfoldable pub ends_between : ℕ → ℕ → ℕ
ends_between a b = elim (not (is_blank a) && is_blank b) [ true ↦ 1 | false ↦ 0 ]

-- e counts the words that end in the n bytes from `at` on: to pass more than e words from there is to pass e fewer from behind these bytes
pub record WordEnds (text : List ℕ) (at n e : ℕ) : Type 0 where
  pub few : e ≤ n
  pub same : (k : ℕ) → e < k → drop k (words (drop at text)) ≡ drop (k - e) (words (drop (at + n) text))

-- r is a place of the text, and ws are the words from there on
pub record WordsAt (text : List ℕ) (ws : List (List ℕ)) (r : ℕ) : Type 0 where
  pub high : r ≤ length text
  pub same : ws ≡ words (drop r text)

-- what stands behind a keyword, as a place
abbrev pub PlaceOf : List ℕ → Option (List (List ℕ)) → Option_of_std ℕ → Type 0
PlaceOf text o (Some r) = (r ≤ length text) × (o ≡ some (words (drop r text)))
PlaceOf text o None = o ≡ none

-- a number, and the place behind it
abbrev pub number_at : List ℕ → ℕ → ℕ → Counted
number_at text v r = record { value = v; rest = words (drop r text) }

-- numbers of at most 19 digits are below this, which no text's length reaches
abbrev pub large : ℕ
large = 10000000000000000000

-- what the first word is as a number
abbrev pub NumberOf : List ℕ → Option Counted → Result Decimal NoDecimal → Type 0
NumberOf text o (Ok d) = (d.end ≤ length text) × (o ≡ some (number_at text d.value d.end)) × (d.value < large)
NumberOf text o (Err (Large r)) = (r ≤ length text) × ((v : ℕ) × (o ≡ some (number_at text v r)) × (large ≤ v))
NumberOf text o (Err Unfit) = o ≡ none

-- the number whose digits are those of v and then those that the text begins with, up to a blank or the end, and the words behind it
unfoldable pub digits_on : ℕ → List ℕ → Option Counted
digits_on v [] = some (record { value = v; rest = [] })
digits_on v (b ∷ bs) =
    elim (is_blank b) [
      | true ↦ some (record { value = v; rest = words bs })
      | false ↦ elim (is_digit b) [ true ↦ digits_on (10 * v + (b - 48)) bs | false ↦ none ]
    ]
