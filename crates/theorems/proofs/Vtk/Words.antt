-- `words_exactly`: the words of a text are those between blanks, tabs or LF.
use Prim.Native.Nat.{ℕ, ◌<◌}
use mathlib.Core.Path.{◌≡◌, refl, sym, ap, ◌∙◌, subst}
use mathlib.Core.Logic.{◌↔◌, ⊎_elim}
use mathlib.Core.Bool.{true, false, ◌||◌}
use mathlib.Core.List.Memᴰ.{append_cases as in-append}
use mathlib.Core.List.{List, [], ◌∷◌, ◌++◌, append-nil, Memᴰ as In}
use mathlib.Core.List.Memᴰ.{cases_cons as in-cons}
use mathlib.Core.List.Memᴰ.{head as here}
use mathlib.Core.List.Memᴰ.{not-nil}
use mathlib.Core.List.Memᴰ.{tail as there}
use native.Mathlib.Omega.{arith}
use lib.ListN.{length}
use lib.Seq.{append_snoc}
use lib.Dec.{eqb}
use borrow.Author.Tests.{eqb-true}
use Rattle.model.specs.Text.{newline}
use Rattle.model.specs.Vtk.{is_blank, ended, words_from, words}
use Rattle.model.specs.Meaning.Vtk.{Blank, is_blank_lem, is_tab, is_newline, Word, WordsOf, ends, last, blank, word}
use Rattle.theorems.proofs.Lists.Scan.{test, clash, or_cases}

-- ---- blank bytes

blank_of : (b : ℕ) → is_blank b ≡ true → Blank b
unfolding is_blank
blank_of b h = ⊎_elim
    (λ h. ⊎_elim (λ e. subst Blank (sym (eqb-true b 32 e)) is_blank_lem) (λ e. subst Blank (sym (eqb-true b 9 e)) is_tab)
    (or_cases (eqb b 32) _ h))
    (λ e. subst Blank (sym (eqb-true b newline e)) is_newline) (or_cases (eqb b 32 || eqb b 9) _ h)

of_blank : {b : ℕ} → Blank b → is_blank b ≡ true
unfolding is_blank
of_blank is_blank_lem = refl
of_blank is_tab = refl
of_blank is_newline = refl

not_blank : (b : ℕ) → (Blank b → ⊥) → is_blank b ≡ false
not_blank b h = test (is_blank b) (λ e. absurd (h (blank_of b e))) (λ e. e)

-- ---- the words of a text are so

-- no byte of it is blank
Plain : List ℕ → Type 0
Plain w = (x : ℕ) → In x w → Blank x → ⊥

-- the bytes of a word so far, and what follows
words_so : (w bs : List ℕ) → Plain w → WordsOf (w ++ bs) (words_from w bs)
unfolding words_from ended Plain
words_so [] [] plain = ends
words_so (x ∷ w) [] plain =
    subst (λ (l : List ℕ). WordsOf l ((x ∷ w) ∷ [])) (sym (append-nil (x ∷ w))) (last (record { some = omega arith; plain = plain }))
words_so w (b ∷ bs) plain = test (is_blank b)
    (λ e. rw (e, words_from) (end w (words_so [] bs (λ x i. absurd (not-nil i))) plain (blank_of b e)))
    (λ e. rw (e, words_from) (subst (λ (l : List ℕ). WordsOf l (words_from (w ++ (b ∷ [])) bs)) (append_snoc w b bs)
    (words_so (w ++ (b ∷ [])) bs (longer e))))
  where
    end : (w : List ℕ) → WordsOf bs (words_from [] bs) → Plain w → Blank b → WordsOf (w ++ (b ∷ bs)) (ended w (words_from [] bs))
    end [] rest plain at = blank at rest
    end (x ∷ w) rest plain at = word {w = x ∷ w} (record { some = omega arith; plain = plain }) at rest

    longer : is_blank b ≡ false → Plain (w ++ (b ∷ []))
    longer e x i at = ⊎_elim (λ k. plain x k at)
        (λ k. ⊎_elim (λ q. clash (of_blank (subst Blank q at)) e) (λ l. not-nil l) (in-cons k)) (in-append w i)

-- ---- there are no others

-- a word so far, and the rest of it
word_read : (u w bs : List ℕ) → Plain w → words_from u (w ++ bs) ≡ words_from (u ++ w) bs
unfolding words_from Plain
word_read u [] bs plain = ap (λ (l : List ℕ). words_from l bs) (sym (append-nil u))
word_read u (x ∷ w) bs plain =
    rw (not_blank x (plain x (here refl)), words_from)
    (word_read (u ++ (x ∷ [])) w bs (λ y i. plain y (there i)) ∙ ap (λ (l : List ℕ). words_from l bs) (append_snoc u x w))

word_ends : {w : List ℕ} → Word w → (ws : List (List ℕ)) → ended w ws ≡ w ∷ ws
unfolding ended
word_ends {w} W ws = by w W.some
  where
    by : (w : List ℕ) → 0 < length w → ended w ws ≡ w ∷ ws
    by [] h = absurd (omega arith)
    by (x ∷ w) h = refl

so_words : {bs : List ℕ} {ws : List (List ℕ)} → WordsOf bs ws → words_from [] bs ≡ ws
unfolding words_from ended Plain
so_words ends = refl
so_words (last {w = w} W) =
    ap (words_from []) (sym (append-nil w)) ∙ word_read [] w [] W.plain ∙ word_ends W []
so_words (blank {b = b} {bs = bs} at rest) = rw (of_blank at, words_from) (so_words rest)
so_words (word {w = w} {b = b} {bs = bs} W at rest) =
    word_read [] w (b ∷ bs) W.plain ∙ rw (of_blank at, words_from) (word_ends W (words_from [] bs) ∙ ap (λ (ws : List (List ℕ)). w ∷ ws) (so_words rest))

pub words_exactly : (bs : List ℕ) (ws : List (List ℕ)) → (words bs ≡ ws) ↔ WordsOf bs ws
unfolding words Plain
words_exactly bs ws = (λ e. subst (WordsOf bs) e (words_so [] bs (λ x i. absurd (not-nil i))), so_words)
