-- The words of a text, byte by byte.
use Prim.Native.Nat.{ℕ, zero, suc, ◌+◌, ◌-◌, ◌<◌, ◌≤◌}
use mathlib.Core.Path.{◌≡◌, refl, sym, ap, ◌∙◌}
use mathlib.Core.Bool.{true, false}
use mathlib.Core.List.{List, [], ◌∷◌, ◌++◌}
use mathlib.Core.Option.{none, some}
use native.Mathlib.Omega.{arith}
use native.Mathlib.Numerals.{add-one}
use lib.ListN.{length, get_or, take, drop, length-drop}
use lib.Seq.{drop-cons, take-suc, get_or-drop, length-take-le}
use Rattle.model.specs.Lists.{equal}
use Rattle.model.specs.Vtk.{is_blank, ended, words_from, words, behind_words}
use Rattle.theorems.proofs.Lists.Scan.{test, clash, if_lt, if_eq}
use Rattle.vtk_words.specs.Words.{First, WordStart, WordEnd, ends_between, WordEnds}

no_bytes : (xs : List ℕ) → length xs ≡ 0 → (w : List ℕ) → words_from w xs ≡ ended w (words xs)
unfolding words words_from ended
no_bytes [] h w = refl
no_bytes (x ∷ xs) h w = absurd (omega arith)

module _ (text : List ℕ) (k : ℕ) where
  pub from_end : (w : List ℕ) → length text ≤ k → words_from w (drop k text) ≡ ended w (words (drop k text))
  from_end w h = no_bytes (drop k text) (simp length-drop (omega arith)) w

  pub end_none : length text ≤ k → words (drop k text) ≡ []
  unfolding words words_from ended
  end_none h = go (drop k text) (simp length-drop (omega arith))
    where
      go : (xs : List ℕ) → length xs ≡ 0 → words_from [] xs ≡ []
      go [] h = refl
      go (x ∷ xs) h = absurd (omega arith)

  module _ (low : k < length text) where
    pub words_blank : is_blank (get_or text k 0) ≡ true → words (drop k text) ≡ words (drop (k + 1) text)
    unfolding words words_from ended
    words_blank b = rw (add-one k, drop-cons text k 0 low, b, words_from)

    pub from_letter : (w : List ℕ) → is_blank (get_or text k 0) ≡ false
        → words_from w (drop k text) ≡ words_from (w ++ (get_or text k 0 ∷ [])) (drop (k + 1) text)
    unfolding words_from
    from_letter w b = rw (add-one k, drop-cons text k 0 low, b, words_from)

    pub from_blank : (w : List ℕ) → is_blank (get_or text k 0) ≡ true → words_from w (drop k text) ≡ ended w (words (drop k text))
    unfolding words words_from ended
    from_blank w b = rw (drop-cons text k 0 low, b, words_from)

    pub part_more : (start : ℕ) → start ≤ k
        → take (k + 1 - start) (drop start text) ≡ take (k - start) (drop start text) ++ (get_or text k 0 ∷ [])
    part_more start h =
        let more : k + 1 - start ≡ suc (k - start) = omega arith in
        let at : start + (k - start) ≡ k = omega arith in
        let long : k - start < length (drop start text) = simp length-drop (omega arith) in
        rw (more, take-suc (drop start text) (k - start) 0 long, get_or-drop, at)

-- ---- blanks and letters, from a place on

blanks_passed : (n : ℕ) (text : List ℕ) (at : ℕ) → at + n ≤ length text
    → ((k : ℕ) → at ≤ k → k < at + n → is_blank (get_or text k 0) ≡ true) → words (drop at text) ≡ words (drop (at + n) text)
blanks_passed zero text at h blank = let here : at + 0 ≡ at = omega arith in rw here
blanks_passed (suc n) text at h blank =
    let next : at + suc n ≡ at + n + 1 = omega arith in
    let rec = blanks_passed n text at (omega arith) (λ k l m. blank k l (omega arith)) in
    let one = words_blank text (at + n) (omega arith) (blank (at + n) (omega arith) (omega arith)) in
    rw next (rec ∙ one)

letters_passed : (n : ℕ) (text : List ℕ) (at : ℕ) → at + n ≤ length text
    → ((k : ℕ) → at ≤ k → k < at + n → is_blank (get_or text k 0) ≡ false)
    → words_from [] (drop at text) ≡ words_from (take n (drop at text)) (drop (at + n) text)
letters_passed zero text at h letter = let here : at + 0 ≡ at = omega arith in rw here
letters_passed (suc n) text at h letter =
    let next : at + suc n ≡ at + n + 1 = omega arith in
    let more : at + n + 1 - at ≡ suc n = omega arith in
    let less : at + n - at ≡ n = omega arith in
    let rec = letters_passed n text at (omega arith) (λ k l m. letter k l (omega arith)) in
    let one = from_letter text (at + n) (omega arith) (take n (drop at text)) (letter (at + n) (omega arith) (omega arith)) in
    let part = rw (more, less) at (part_more text (at + n) (omega arith) at (omega arith)) in
    rw next (rec ∙ one ∙ ap (λ (w : List ℕ). words_from w (drop (at + n + 1) text)) (sym part))

-- where the first word begins
pub start_first : (text : List ℕ) (at r : ℕ) → First false text at r → WordStart text at r
start_first text at r f =
    let low = f.low in
    let high = f.high in
    let all : at + (r - at) ≡ r = omega arith in
    let same = blanks_passed (r - at) text at (omega arith) (λ k l m. f.passed k l (omega arith)) in
    record { low = low; high = high; same = rw all at same; full = f.found }

-- where it ends
pub end_first : (text : List ℕ) (start r : ℕ) → First true text start r → WordEnd text start r
unfolding words
end_first text start r f =
    let low = f.low in
    let high = f.high in
    let all : start + (r - start) ≡ r = omega arith in
    let same = letters_passed (r - start) text start (omega arith) (λ k l m. f.passed k l (omega arith)) in
    record {
      low = low;
      high = high;
      is =
          rw all at same
          ∙ if_lt r (length text) (λ l. from_blank text r l _ (f.found l)) (λ l. from_end text r _ l);
      some = λ l full. if_eq start r (λ e. absurd (clash (f.found (omega arith)) (rw e at full))) (λ e. omega arith);
    }

word_begun : (x : ℕ) (w bs : List ℕ) → 0 < length (words_from (x ∷ w) bs)
unfolding words_from ended
word_begun x w [] = omega arith
word_begun x w (b ∷ bs) =
    test (is_blank b) (λ e. rw (e, words_from) (omega arith)) (λ e. rw (e, words_from) (word_begun x (w ++ (b ∷ [])) bs))

-- where a word begins there is one
pub words_some : (text : List ℕ) (k : ℕ) → k < length text → is_blank (get_or text k 0) ≡ false → 0 < length (words (drop k text))
unfolding words
words_some text k low full = rw (from_letter text k low [] full) (word_begun (get_or text k 0) [] (drop (k + 1) text))

ended_first : (w : List ℕ) (ws : List (List ℕ)) → 0 < length w → ended w ws ≡ w ∷ ws
unfolding ended
ended_first [] ws h = absurd (omega arith)
ended_first (b ∷ bs) ws h = refl

-- the first word is what stands between its two ends
pub first_of : (text : List ℕ) (at start end : ℕ) → WordStart text at start → WordEnd text start end → start < length text
    → words (drop at text) ≡ take (end - start) (drop start text) ∷ words (drop end text)
first_of text at start end s e low =
    let some = e.some low (s.full low) in
    let high = e.high in
    let long = length-take-le (end - start) (drop start text) (simp length-drop (omega arith)) in
    s.same ∙ e.is ∙ ended_first _ _ (omega arith)

-- ---- the words that end in a stretch of bytes

-- what is begun of the first word changes none behind it
begun_behind : (k x y : ℕ) (v w bs : List ℕ) → drop (suc k) (words_from (x ∷ v) bs) ≡ drop (suc k) (words_from (y ∷ w) bs)
unfolding words_from ended
begun_behind k x y v w [] = refl
begun_behind k x y v w (b ∷ bs) =
    test (is_blank b) (λ e. rw (e, words_from)) (λ e. rw (e, words_from) (begun_behind k x y (v ++ (b ∷ [])) (w ++ (b ∷ [])) bs))

pub ends_one : (a b : ℕ) → ends_between a b ≤ 1
unfolding ends_between
ends_one a b =
    test (is_blank a) (λ e. rw (e, ends_between) (omega arith))
    (λ e. test (is_blank b) (λ f. rw (e, f, ends_between) (omega arith)) (λ f. rw (e, f, ends_between) (omega arith)))

module _ (text : List ℕ) (p : ℕ) (low : p + 1 < length text) where
  -- the words from the next byte on, where one is to be passed
  next_byte : (k : ℕ)
      → drop (suc k) (words (drop p text)) ≡ drop (suc k - ends_between (get_or text p 0) (get_or text (p + 1) 0)) (words (drop (p + 1) text))
  unfolding ends_between words ended
  next_byte k =
      let here : p < length text = omega arith in
      let all : suc k - 0 ≡ suc k = omega arith in
      let less : suc k - 1 ≡ k = omega arith in
      test (is_blank (get_or text p 0))
      (λ e. rw (e, ends_between, all) (ap (drop (suc k)) (words_blank text p here e)))
      (λ e.
      test (is_blank (get_or text (p + 1) 0))
      (λ f. rw (e, f, ends_between, less) (ap (drop (suc k)) (from_letter text p here [] e ∙ from_blank text (p + 1) low _ f)))
      (λ f.
      rw (e, f, ends_between, all)
      (ap (drop (suc k)) (from_letter text p here [] e ∙ from_letter text (p + 1) low _ f) ∙ begun_behind k _ _ _ _ _
      ∙ sym (ap (drop (suc k)) (from_letter text (p + 1) low [] f)))))

pub ends_none : (text : List ℕ) (at : ℕ) → WordEnds text at 0 0
ends_none text at =
    record { few = omega arith; same = λ k h. let all : k - 0 ≡ k = omega arith in let here : at + 0 ≡ at = omega arith in rw (all, here) }

pub ends_more : (text : List ℕ) (at n e : ℕ) → at + n + 1 < length text → WordEnds text at n e
    → WordEnds text at (n + 1) (e + ends_between (get_or text (at + n) 0) (get_or text (at + n + 1) 0))
ends_more text at n e low h =
    let more = ends_between (get_or text (at + n) 0) (get_or text (at + n + 1) 0) in
    let one : more ≤ 1 = ends_one _ _ in
    let few = h.few in
    record {
      few = omega arith;
      same = λ k left.
          let some : k - e ≡ suc (k - e - 1) = omega arith in
          let fewer : suc (k - e - 1) - more ≡ k - (e + more) = omega arith in
          let next : at + n + 1 ≡ at + (n + 1) = omega arith in
          h.same k (omega arith) ∙ rw (some, ← fewer, ← next) (next_byte text (at + n) low (k - e - 1));
    }

-- ---- a keyword

module _ (k : List ℕ) where
  pub key_none : (ws : List (List ℕ)) → ws ≡ [] → behind_words (k ∷ []) ws ≡ none
  unfolding behind_words
  key_none ws e = rw e

  module _ (w : List ℕ) (ws rest : List (List ℕ)) (first : ws ≡ w ∷ rest) where
    pub key_is : equal k w ≡ true → behind_words (k ∷ []) ws ≡ some rest
    unfolding behind_words
    key_is e = rw (first, behind_words, e)

    pub key_other : equal k w ≡ false → behind_words (k ∷ []) ws ≡ none
    unfolding behind_words
    key_other e = rw (first, behind_words, e)
