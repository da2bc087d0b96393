-- Text: bytes, and "decimal without leading zeros", read and written.
use Rattle.std.specs.Prelude.{ℕ, zero, suc, ◌+◌, ◌*◌, ◌-◌, ◌/◌, ◌%◌, Bool, true, false, ◌&&◌, List, [], ◌∷◌, ◌++◌, length, take, eqb, leb, ltb}
use Prim.Native.Char.{code}
use Prim.Native.String.{String}
use Rattle.std.proofs.Math.Option.{Option, none, some}
use Rattle.model.specs.Lists.{equal}

-- a text's bytes
abbrev pub bytes : String → List ℕ
bytes s = elim s [ String.[] ↦ [] | String.◌∷◌ c (cs → r) ↦ code c ∷ r ]

-- LF
abbrev pub newline : ℕ
newline = 10

-- the text begins with these bytes
unfoldable pub begins : List ℕ → List ℕ → Bool
begins w xs = equal w (take (length w) xs)

-- ---- numbers read

unfoldable pub is_digit : ℕ → Bool
is_digit x = leb 48 x && leb x 57

-- the number whose digits are those of v and then these; none where a byte is no digit
unfoldable pub digits : ℕ → List ℕ → Option ℕ
digits v [] = some v
digits v (x ∷ xs) = elim (is_digit x) [ true ↦ digits (10 * v + (x - 48)) xs | false ↦ none ]

-- "Numbers are decimal without leading zeros": 0 may only stand alone
unfoldable pub number : List ℕ → Option ℕ
number [] = none
number (x ∷ []) = digits 0 (x ∷ [])
number (x ∷ y ∷ ys) = elim (eqb x 48) [ true ↦ none | false ↦ digits 0 (x ∷ y ∷ ys) ]

unfoldable pub up_to : ℕ → Option ℕ → Option ℕ
up_to top none = none
up_to top (some v) = elim (leb v top) [ true ↦ some v | false ↦ none ]

-- ---- numbers written

-- the last k digits of v, without leading zeros
unfoldable pub last_digits : ℕ → ℕ → List ℕ
last_digits zero v = []
last_digits (suc k) v = elim (ltb v 10) [ true ↦ (48 + v) ∷ [] | false ↦ last_digits k (v / 10) ++ ((48 + v % 10) ∷ []) ]

-- v has no more than v + 1 digits
unfoldable pub decimal : ℕ → List ℕ
decimal v = last_digits (suc v) v

-- a key, "=" and a number, on a line
unfoldable pub said : List ℕ → ℕ → List ℕ
said key v = key ++ decimal v ++ (newline ∷ [])
