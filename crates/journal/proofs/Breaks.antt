-- The tests by which a record is broken: of a change (`sound_low` to `sound_differs`), of the changes one after another
-- (`sound_stops`, `sound_goes`), of a record (`unbroken_tested`), and what they say where all are passed (`sound_within`).
use Prim.Native.Nat.{ℕ, suc, ◌+◌, ◌*◌, ◌≤◌, ◌<◌}
use mathlib.Core.Path.{◌≡◌, refl, ◌∙◌}
use mathlib.Core.Bool.{Bool, true, false, not, ◌&&◌}
use mathlib.Core.List.{List, [], ◌∷◌}
use native.Mathlib.Numerals.{add-one}
use lib.ListN.{length, get_or}
use lib.Dec.{leb, ltb, eqb}
use borrow.Author.Tests.{le-leb, lt-leb, lt-ltb, le-ltb, eq-eqb, ne_eqb}
use Rattle.model.specs.Journal.{Change, end, record_length, changes_at, sound, unbroken}
use Rattle.theorems.proofs.Lists.Scan.{and_i}
use Rattle.theorems.proofs.History.Sound.{first_sound}
use Rattle.journal.specs.Records.{change_at, value_put, within}
use Rattle.journal.proofs.Puts.{rest_from, rest_next}

-- the tests of a change, and of those behind it
sound_tests : (redo : Bool) (t : List ℕ) (e : ℕ) (c : Change) (cs : List Change) → sound redo t e (c ∷ cs)
    ≡ (leb e c.entry && ltb c.entry (length t) && not (eqb c.old c.new)
    && eqb (get_or t c.entry 0) (value_put (not redo) c) && sound redo t (suc c.entry) cs)
unfolding sound value_put
sound_tests true t e c cs = refl
sound_tests false t e c cs = refl

and_true : (a : Bool) → (a && true) ≡ a
and_true true = refl
and_true false = refl

and_false : (a : Bool) → (a && false) ≡ false
and_false true = refl
and_false false = refl

sound_next : (redo : Bool) (t : List ℕ) (e : ℕ) (c : Change) (cs : List Change)
    → sound redo t e (c ∷ cs) ≡ (sound redo t e (c ∷ []) && sound redo t (suc c.entry) cs)
unfolding sound
sound_next redo t e c cs = rw and_true

-- ---- the tests of the change at the word w

module _ (redo : Bool) (t j : List ℕ) (e w : ℕ) where
  abbrev here : Change
  here = change_at j w

  pub sound_low : get_or j w 0 < e → sound redo t e (change_at j w ∷ []) ≡ false
  unfolding change_at
  sound_low h = sound_tests redo t e here [] ∙ rw (lt-leb e here.entry h)

  pub sound_past : length t ≤ get_or j w 0 → sound redo t e (change_at j w ∷ []) ≡ false
  unfolding change_at
  sound_past h = sound_tests redo t e here [] ∙ rw (le-ltb here.entry (length t) h, and_false)

  pub sound_alike : get_or j (w + 1) 0 ≡ get_or j (w + 2) 0 → sound redo t e (change_at j w ∷ []) ≡ false
  unfolding change_at
  sound_alike h = sound_tests redo t e here [] ∙ rw (eq-eqb here.old here.new h, and_false)

  pub sound_differs : e ≤ get_or j w 0 → get_or j w 0 < length t → (get_or j (w + 1) 0 ≡ get_or j (w + 2) 0 → ⊥)
      → sound redo t e (change_at j w ∷ []) ≡ eqb (get_or t (get_or j w 0) 0) (value_put (not redo) (change_at j w))
  unfolding sound change_at
  sound_differs low inside h =
      sound_tests redo t e here []
      ∙ rw (le-leb e here.entry low, lt-ltb here.entry (length t) inside, ne_eqb here.old here.new h) (and_true _)

-- ---- the tests of the record of k changes at the word a

module _ (redo : Bool) (t j : List ℕ) (a k : ℕ) where
  -- r is what the test of the changes gave
  pub unbroken_tested : (k ≡ 0 → ⊥) → 2 ≤ a → a + record_length k ≤ end j → get_or j a 0 ≡ get_or j (a + (3 * k + 2)) 0
      → (r : Bool) → r ≡ sound redo t 0 (changes_at j a k) → r ≡ unbroken redo t j a k
  unfolding unbroken
  unbroken_tested some low fits counts r h =
      rw (h, ne_eqb k 0 some, le-leb 2 a low, le-leb (a + record_length k) (end j) fits, eq-eqb _ _ counts)

-- ---- a turn of the loop over the triples of the record of k changes at the word a

module _ (j : List ℕ) (a k i : ℕ) (low : i < k) where
  sound_turn : (redo : Bool) (t : List ℕ) (e : ℕ) → sound redo t e (rest_from j a k i)
      ≡ (sound redo t e (change_at j (a + 2 + 3 * i) ∷ []) && sound redo t (suc (get_or j (a + 2 + 3 * i) 0)) (rest_from j a k (i + 1)))
  unfolding change_at
  sound_turn redo t e = rw (rest_next j a k i low) (sound_next redo t e (change_at j (a + 2 + 3 * i)) _)

  -- r is what the test of the change gave
  module _ (redo : Bool) (t : List ℕ) (e : ℕ) (r : Bool) (tested : r ≡ sound redo t e (change_at j (a + 2 + 3 * i) ∷ [])) where
    pub sound_stops : r ≡ false → sound redo t e (rest_from j a k i) ≡ false
    sound_stops h = sound_turn redo t e ∙ rw (← tested, h)

    pub sound_goes : r ≡ true
        → sound redo t e (rest_from j a k i) ≡ sound redo t (get_or j (a + 2 + 3 * i) 0 + 1) (rest_from j a k (i + 1))
    sound_goes h = sound_turn redo t e ∙ rw (← tested, h, add-one (get_or j (a + 2 + 3 * i) 0))

-- ---- what the tests say where all are passed

-- the entries of a sound record lie in the table
pub sound_within : (redo : Bool) (t : List ℕ) (e : ℕ) (cs : List Change) → sound redo t e cs ≡ true → within (length t) cs ≡ true
unfolding within
sound_within redo t e [] h = refl
sound_within redo t e (c ∷ cs) h =
    let s = first_sound redo t e c cs h in
    and_i (lt-ltb _ _ s.within) (sound_within redo t (suc c.entry) cs s.rest)
