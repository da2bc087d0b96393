-- The first word of a text as a number, byte by byte.
use Prim.Native.Nat.{ℕ, suc, ◌+◌, ◌*◌, ◌-◌, ◌<◌, ◌≤◌}
use mathlib.Core.Path.{◌≡◌, refl, ap, ◌∙◌}
use mathlib.Core.Logic.{◌≢◌, ◌⊎◌, inl, inr}
use mathlib.Core.Bool.{true, false}
use mathlib.Core.List.{List, [], ◌∷◌, ◌++◌}
use mathlib.Core.Option.{none, some}
use native.Mathlib.Omega.{arith}
use native.Mathlib.Numerals.{add-one}
use lib.ListN.{length, get_or, drop, length-drop}
use lib.Seq.{drop-cons}
use borrow.Author.Tests.{le-leb, lt-leb, ne_eqb}
use Rattle.model.specs.Text.{is_digit, digits, number}
use Rattle.model.specs.Vtk.{◌≫◌, is_blank, ended, words_from, words, counted}
use Rattle.theorems.proofs.Lists.Scan.{test}
use Rattle.vtk_words.specs.Words.{digits_on, number_at}
use Rattle.vtk_words.proofs.Passing.{from_letter}

-- ---- a word that grows

digits_on_lem : (v : ℕ) (xs ys : List ℕ) → digits v (xs ++ ys) ≡ (digits v xs ≫ λ u. digits u ys)
unfolding digits
digits_on_lem v [] ys = refl
digits_on_lem v (x ∷ xs) ys =
    test (is_digit x) (λ e. rw (e, digits) (digits_on_lem (10 * v + (x - 48)) xs ys)) (λ e. rw (e, digits))

module _ (x : ℕ) (first : x ≢ 48) where
  plain : (xs : List ℕ) → number (x ∷ xs) ≡ digits 0 (x ∷ xs)
  unfolding number
  plain [] = refl
  plain (y ∷ ys) = rw (ne_eqb x 48 first, number)

  -- a word with a byte that is no digit
  other : (xs bs : List ℕ) → digits 0 (x ∷ xs) ≡ none → counted (words_from (x ∷ xs) bs) ≡ none
  unfolding counted words_from ended
  other xs [] h = rw (plain xs, h)
  other xs (b ∷ bs) h =
      test (is_blank b)
      (λ e. rw (e, words_from, plain xs, h))
      (λ e. rw (e, words_from) (other (xs ++ (b ∷ [])) bs (rw (digits_on_lem 0 (x ∷ xs) (b ∷ []), h))))

  grown : (v : ℕ) (xs bs : List ℕ) → digits 0 (x ∷ xs) ≡ some v → counted (words_from (x ∷ xs) bs) ≡ digits_on v bs
  unfolding counted words_from ended digits_on words digits
  grown v xs [] h = rw (plain xs, h)
  grown v xs (b ∷ bs) h =
      test (is_blank b)
      (λ e. rw (e, words_from, digits_on, plain xs, h))
      (λ e. test (is_digit b)
      (λ q. rw (e, words_from, digits_on, q) (grown (10 * v + (b - 48)) (xs ++ (b ∷ [])) bs (rw (digits_on_lem 0 (x ∷ xs) (b ∷ []), h, digits, q))))
      (λ q. rw (e, words_from, digits_on, q) (other (xs ++ (b ∷ [])) bs (rw (digits_on_lem 0 (x ∷ xs) (b ∷ []), h, digits, q)))))

  -- from its first byte on
  begun : (bs : List ℕ) → is_blank x ≡ false → counted (words (x ∷ bs)) ≡ digits_on 0 (x ∷ bs)
  unfolding words words_from digits_on digits
  begun bs e = test (is_digit x)
      (λ q. rw (e, words_from, digits_on, q) (grown (10 * 0 + (x - 48)) [] bs (rw (q, digits))))
      (λ q. rw (e, words_from, digits_on, q) (other [] bs (rw (q, digits))))

-- ---- the digits from a place on

digit_full : (b : ℕ) → 48 ≤ b → is_blank b ≡ false
unfolding is_blank
digit_full b h =
    rw (ne_eqb b 32 (λ e. absurd (omega arith)), ne_eqb b 9 (λ e. absurd (omega arith)), ne_eqb b 10 (λ e. absurd (omega arith)))

module _ (v : ℕ) (text : List ℕ) (k : ℕ) where
  pub on_end : length text ≤ k → digits_on v (drop k text) ≡ some (number_at text v k)
  unfolding digits_on words words_from ended
  on_end h = go (drop k text) (simp length-drop (omega arith))
    where
      go : (xs : List ℕ) → length xs ≡ 0 → digits_on v xs ≡ some (record { value = v; rest = words xs })
      go [] h = refl
      go (x ∷ xs) h = absurd (omega arith)

  module _ (low : k < length text) where
    pub on_blank : is_blank (get_or text k 0) ≡ true → digits_on v (drop k text) ≡ some (number_at text v k)
    unfolding digits_on words words_from ended
    on_blank b = rw (drop-cons text k 0 low, digits_on, words_from, b)

    pub on_digit : 48 ≤ get_or text k 0 → get_or text k 0 ≤ 57
        → digits_on v (drop k text) ≡ digits_on (10 * v + (get_or text k 0 - 48)) (drop (k + 1) text)
    unfolding digits_on is_digit
    on_digit l h =
        rw (add-one k, drop-cons text k 0 low, digits_on, digit_full _ l, is_digit, le-leb 48 _ l, le-leb _ 57 h)

    pub on_other : is_blank (get_or text k 0) ≡ false → (get_or text k 0 < 48) ⊎ (57 < get_or text k 0) → digits_on v (drop k text) ≡ none
    unfolding digits_on is_digit
    on_other b (inl h) = rw (drop-cons text k 0 low, digits_on, b, is_digit, lt-leb 48 (get_or text k 0) h)
    on_other b (inr h) =
        rw (drop-cons text k 0 low, digits_on, b, is_digit, le-leb 48 (get_or text k 0) (omega arith), lt-leb (get_or text k 0) 57 h)

-- ---- a zero

-- no longer number begins with it
zeros : (y : ℕ) (ys bs : List ℕ) → counted (words_from (48 ∷ y ∷ ys) bs) ≡ none
unfolding counted words_from ended number
zeros y ys [] = refl
zeros y ys (b ∷ bs) = test (is_blank b) (λ e. rw (e, words_from)) (λ e. rw (e, words_from) (zeros y (ys ++ (b ∷ [])) bs))

module _ (text : List ℕ) (k : ℕ) (low : k < length text) (zero : get_or text k 0 ≡ 48) where
  zero_word : words (drop k text) ≡ words_from (48 ∷ []) (drop (k + 1) text)
  unfolding words
  zero_word =
      from_letter text k low [] (digit_full (get_or text k 0) (omega arith))
      ∙ ap (λ (x : ℕ). words_from (x ∷ []) (drop (k + 1) text)) zero

  pub zero_end : length text ≤ k + 1 → counted (words (drop k text)) ≡ some (number_at text 0 (k + 1))
  unfolding counted number digits is_digit words words_from ended
  zero_end h = ap counted zero_word ∙ go (drop (k + 1) text) (simp length-drop (omega arith))
    where
      go : (xs : List ℕ) → length xs ≡ 0 → counted (words_from (48 ∷ []) xs) ≡ some (record { value = 0; rest = words xs })
      go [] h = refl
      go (x ∷ xs) h = absurd (omega arith)

  pub zero_blank : k + 1 < length text → is_blank (get_or text (k + 1) 0) ≡ true
      → counted (words (drop k text)) ≡ some (number_at text 0 (k + 1))
  unfolding counted number digits is_digit words words_from ended
  zero_blank h b = rw (zero_word, drop-cons text (k + 1) 0 h, words_from, b)

  pub zero_other : k + 1 < length text → is_blank (get_or text (k + 1) 0) ≡ false → counted (words (drop k text)) ≡ none
  unfolding words_from
  zero_other h b = rw (zero_word, drop-cons text (k + 1) 0 h, words_from, b) (zeros (get_or text (k + 1) 0) [] (drop (suc (k + 1)) text))

-- ---- the first word

pub first_word : (text : List ℕ) (k : ℕ) → k < length text → is_blank (get_or text k 0) ≡ false → get_or text k 0 ≢ 48
    → counted (words (drop k text)) ≡ digits_on 0 (drop k text)
first_word text k low full first = rw (drop-cons text k 0 low) (begun (get_or text k 0) first (drop (suc k) text) full)

pub no_number : (ws : List (List ℕ)) → ws ≡ [] → counted ws ≡ none
unfolding counted
no_number ws e = rw e
