-- Rows read one after the other, as a program reads them: a length, and so many numbers, with the words left counted.
-- Main theorem: `rows_stream`: that is the same as to read all the numbers first and then to part them, for a wrong size too.
-- `numbers_few`, `points_few`, `words_few`: counts that are too large.
use Prim.Native.Nat.{ℕ, zero, suc, ◌+◌, ◌-◌, ◌≤◌, ◌<◌}
use mathlib.Core.Path.{◌≡◌, refl, sym, ap, ap₂, ◌∙◌}
use mathlib.Core.Bool.{true, false}
use mathlib.Core.List.{List, [], ◌∷◌, ◌++◌}
use mathlib.Core.Option.{Option, none, some}
use native.Mathlib.Omega.{arith}
use lib.ListN.{length, take, drop, length-append}
use lib.Seq.{take_at, drop_at}
use lib.Dec.{leb}
use borrow.Author.Tests.{le-leb, lt-leb, lt-ltb, le-ltb}
use Rattle.model.specs.Text.{number}
use Rattle.model.specs.Vtk.{◌≫◌, is_blank, ended, words_from, words, behind_words, numbers, rows_of, cells_of}
use Rattle.model.specs.Meaning.Vtk.{row_then, rows_from}
use Rattle.theorems.proofs.Lists.Scan.{test, if_lt}
use Rattle.theorems.proofs.Vtk.Form.{numbers_long}

-- the first k of s numbers, and the others
numbers_split : (k s : ℕ) (ws : List (List ℕ)) → k ≤ s
    → numbers s ws ≡ (numbers k ws ≫ λ a. numbers (s - k) (drop k ws) ≫ λ b. some (a ++ b))
unfolding numbers
numbers_split zero s ws h = let e : s - 0 ≡ s = omega arith in rw e (go (numbers s ws))
  where
    go : (o : Option (List ℕ)) → o ≡ (o ≫ λ b. some b)
    go none = refl
    go (some b) = refl
numbers_split (suc k) zero ws h = absurd (omega arith)
numbers_split (suc k) (suc s) [] h = refl
numbers_split (suc k) (suc s) (w ∷ ws) h =
    let e : suc s - suc k ≡ s - k = omega arith in
    rw (e, numbers_split k s ws (omega arith)) (go (number w) (numbers k ws) (numbers (s - k) (drop k ws)))
  where
    go : (o : Option ℕ) (p q : Option (List ℕ))
        → (o ≫ λ v. (p ≫ λ a. q ≫ λ b. some (a ++ b)) ≫ λ vs. some (v ∷ vs))
        ≡ ((o ≫ λ v. p ≫ λ vs. some (v ∷ vs)) ≫ λ a. q ≫ λ b. some (a ++ b))
    go none p q = refl
    go (some v) none q = refl
    go (some v) (some a) none = refl
    go (some v) (some a) (some b) = refl

module _ (n k s : ℕ) (ws : List (List ℕ)) where
  -- what is done with all the numbers behind a length k
  abbrev parted : List ℕ → Option (List (List ℕ))
  parted xs = elim (leb k (length xs)) [ true ↦ rows_of n (drop k xs) ≫ λ rows. some (take k xs ∷ rows) | false ↦ none ]

  part_at : (a b : List ℕ) → length a ≡ k → parted (a ++ b) ≡ (rows_of n b ≫ λ rows. some (a ∷ rows))
  part_at a b l =
      let m = length-append a b in
      rw (le-leb k (length (a ++ b)) (omega arith), parted) (ap₂ (λ (x : List ℕ) (y : List ℕ). rows_of n x ≫ λ rows. some (y ∷ rows))
      (drop_at a b k l) (take_at a b k l))

  short : s < k → (o : Option (List ℕ)) → numbers s ws ≡ o → none ≡ (o ≫ parted)
  short h none e = refl
  short h (some xs) e = let l = numbers_long s ws xs e in rw (lt-leb k (length xs) (omega arith), parted)

  long : k ≤ s → (p : Option (List ℕ)) → numbers k ws ≡ p → (q : Option (List ℕ))
      → (p ≫ λ row. (q ≫ rows_of n) ≫ λ rows. some (row ∷ rows)) ≡ ((p ≫ λ a. q ≫ λ b. some (a ++ b)) ≫ parted)
  long h none e q = refl
  long h (some a) e none = refl
  long h (some a) e (some b) = sym (part_at a b (numbers_long k ws a e))

pub rows_stream : (n size : ℕ) (ws : List (List ℕ)) → rows_from n size ws ≡ (numbers size ws ≫ rows_of n)
unfolding rows_from row_then numbers rows_of
rows_stream zero zero ws = refl
rows_stream zero (suc s) [] = refl
rows_stream zero (suc s) (w ∷ ws) = go (number w) (numbers s ws)
  where
    go : (o : Option ℕ) (p : Option (List ℕ)) → none ≡ ((o ≫ λ v. p ≫ λ vs. some (v ∷ vs)) ≫ rows_of zero)
    go none p = refl
    go (some v) none = refl
    go (some v) (some vs) = refl
rows_stream (suc n) zero [] = refl
rows_stream (suc n) zero (w ∷ ws) = go (number w)
  where
    go : (o : Option ℕ) → (o ≫ row_then 0 ws (rows_from n)) ≡ none
    go none = refl
    go (some k) = rw (le-ltb k 0 (omega arith), row_then)
rows_stream (suc n) (suc s) [] = refl
rows_stream (suc n) (suc s) (w ∷ ws) = go (number w) (λ k. rows_stream n (s - k) (drop k ws))
  where
    tail : (k : ℕ) (o : Option (List ℕ)) → (o ≫ parted n k s ws) ≡ ((o ≫ λ vs. some (k ∷ vs)) ≫ rows_of (suc n))
    tail k none = refl
    tail k (some vs) = refl

    go : (o : Option ℕ) → ((k : ℕ) → rows_from n (s - k) (drop k ws) ≡ (numbers (s - k) (drop k ws) ≫ rows_of n))
        → (o ≫ row_then (suc s) ws (rows_from n)) ≡ ((o ≫ λ v. numbers s ws ≫ λ vs. some (v ∷ vs)) ≫ rows_of (suc n))
    go none rec = refl
    go (some k) rec = if_lt s k
        (λ h. rw (le-ltb k (suc s) h, row_then) (short n k s ws h (numbers s ws) refl ∙ tail k (numbers s ws)))
        (λ h.
        let e : suc s - suc k ≡ s - k = omega arith in
        rw (lt-ltb k (suc s) (omega arith), row_then, e, rec k) (long n k s ws h (numbers k ws) refl (numbers (s - k) (drop k ws))
        ∙ ap (λ (o : Option (List ℕ)). o ≫ parted n k s ws) (sym (numbers_split k s ws h)) ∙ tail k (numbers s ws)))

-- ---- counts that are too large

-- fewer words than numbers asked for
pub numbers_few : (k : ℕ) (ws : List (List ℕ)) → length ws < k → numbers k ws ≡ none
unfolding numbers
numbers_few zero ws h = absurd (omega arith)
numbers_few (suc k) [] h = refl
numbers_few (suc k) (w ∷ ws) h = rw (numbers_few k ws (omega arith)) (go (number w))
  where
    go : (o : Option ℕ) → ◌≡◌ {A = Option (List ℕ)} (o ≫ λ v. none) none
    go none = refl
    go (some v) = refl

no_words : (m : ℕ) (ws : List (List ℕ)) → length ws ≤ m → drop m ws ≡ []
no_words zero [] h = refl
no_words zero (w ∷ ws) h = absurd (omega arith)
no_words (suc m) [] h = refl
no_words (suc m) (w ∷ ws) h = no_words m ws (omega arith)

-- no word is left for CELLS
pub points_few : (m : ℕ) (ws : List (List ℕ)) → length ws ≤ m → cells_of (drop m ws) ≡ none
unfolding cells_of behind_words
points_few m ws h = rw (no_words m ws h)

ended_few : (w : List ℕ) (ws : List (List ℕ)) → length (ended w ws) ≤ length w + length ws
unfolding ended
ended_few [] ws = omega arith
ended_few (b ∷ bs) ws = omega arith

-- a text has no more words than bytes
words_from_lem : (w bs : List ℕ) → length (words_from w bs) ≤ length w + length bs
unfolding words_from
words_from_lem w [] = let e = ended_few w [] in omega arith
words_from_lem w (b ∷ bs) = test (is_blank b)
    (λ e. rw (e, words_from) (let l = ended_few w (words_from [] bs) in let rec = words_from_lem [] bs in omega arith))
    (λ e. rw (e, words_from) (let rec = words_from_lem (w ++ (b ∷ [])) bs in let l = length-append w (b ∷ []) in omega arith))

pub words_few : (bs : List ℕ) → length (words bs) ≤ length bs
unfolding words
words_few bs = let h = words_from_lem [] bs in omega arith
