-- When a record is broken, by its words. `unbroken_exactly`: the test fails exactly for one of 01's reasons; `whole_exactly`: it
-- holds exactly if there is none. `undo_passes_2`, `undo_last_count`: where undo's record begins, and the count that undo reads.
use Prim.Native.Nat.{ℕ, zero, suc, ◌+◌, ◌*◌, ◌≤◌, ◌<◌}
use mathlib.Core.Path.{◌≡◌, refl, sym, ap, ap₂, ◌∙◌}
use mathlib.Core.Logic.{◌≢◌, ◌↔◌}
use mathlib.Core.Bool.{Bool, true, false, not, ◌&&◌}
use mathlib.Core.List.{List, [], ◌∷◌}
use native.Mathlib.Omega.{arith}
use lib.ListN.{length, get_or, drop}
use lib.Seq.{get_or-drop, drop-drop}
use lib.Dec.{leb, eqb}
use borrow.Author.Tests.{eqb-true, eqb-false, eq-eqb, ne_eqb, leb-true, le-leb, not-true}
use Rattle.model.specs.Journal.{Change, cursor, end, record_length, read_changes, changes_at, sound, unbroken}
use Rattle.model.specs.Meaning.Ends.{undo_count, undo_start}
use Rattle.model.specs.Meaning.Records.{Broken, counts_differ, no_change, passes_2, passes_end, not_rising, past_table, alike, not_held}
use Rattle.model.specs.Meaning.Records.{count_at, last_count_at, entry_at, old_at, new_at, replaced_at}
use Rattle.theorems.proofs.Lists.Scan.{clash, test, if_eq, if_lt, and_i, and_l, and_r}
use Rattle.theorems.proofs.History.Sound.{replaced, FirstSound, first_sound, sound_first}

-- ---- changes by their rule

-- f 0, f 1, ..: k of them
unfoldable pub listed : ℕ → (ℕ → Change) → List Change
listed zero f = []
listed (suc k) f = f 0 ∷ listed k (λ x. f (suc x))

listed_same : (k : ℕ) (f g : ℕ → Change) → ((x : ℕ) → f x ≡ g x) → listed k f ≡ listed k g
unfolding listed
listed_same zero f g h = refl
listed_same (suc k) f g h =
    ap₂ (λ (c : Change) (cs : List Change). c ∷ cs) (h 0) (listed_same k (λ x. f (suc x)) (λ x. g (suc x)) (λ x. h (suc x)))

-- change x of the record at the word a
abbrev pub triple_at : List ℕ → ℕ → ℕ → Change
triple_at j a x = record { entry = entry_at j a x; old = old_at j a x; new = new_at j a x }

-- the changes that are read are those
pub read_listed : (j : List ℕ) (a k : ℕ) → changes_at j a k ≡ listed k (triple_at j a)
unfolding changes_at read_changes listed
read_listed j a zero = refl
read_listed j a (suc k) = ap₂ (λ (c : Change) (cs : List Change). c ∷ cs) first (behind (read_listed j (a + 3) k))
  where
    word : (i w v : ℕ) → w + i ≡ v → get_or (drop w j) i 0 ≡ get_or j v 0
    word i w v q = get_or-drop w j i 0 ∙ ap (λ (x : ℕ). get_or j x 0) q

    same : (e o n e' o' n' : ℕ) → e ≡ e' → o ≡ o' → n ≡ n'
        → ◌≡◌ {A = Change} (record { entry = e; old = o; new = n }) (record { entry = e'; old = o'; new = n' })
    same e o n e' o' n' p q r = rw (p, q, r)

    first : record { entry = get_or (drop (a + 2) j) 0 0; old = get_or (drop (a + 2) j) 1 0; new = get_or (drop (a + 2) j) 2 0 }
        ≡ triple_at j a 0
    first = same _ _ _ _ _ _ (word 0 (a + 2) (a + 2 + 3 * 0) (omega arith)) (word 1 (a + 2) (a + 3 + 3 * 0) (omega arith))
        (word 2 (a + 2) (a + 4 + 3 * 0) (omega arith))

    next : (x : ℕ) → triple_at j (a + 3) x ≡ triple_at j a (suc x)
    next x = same _ _ _ _ _ _ (ap (λ (w : ℕ). get_or j w 0) (omega arith)) (ap (λ (w : ℕ). get_or j w 0) (omega arith))
        (ap (λ (w : ℕ). get_or j w 0) (omega arith))

    behind : read_changes k (drop (a + 3 + 2) j) ≡ listed k (triple_at j (a + 3))
        → read_changes k (drop 3 (drop (a + 2) j)) ≡ listed k (λ x. triple_at j a (suc x))
    behind rest =
        let moved : a + 2 + 3 ≡ a + 3 + 2 = omega arith in
        ap (read_changes k) (drop-drop 3 (a + 2) j ∙ ap (λ (w : ℕ). drop w j) moved) ∙ rest ∙ listed_same k _ _ next

-- ---- changes that are not sound

pub data Unsound (redo : Bool) (t : List ℕ) (e k : ℕ) (f : ℕ → Change) : Type 0 where
  starts_low : 0 < k → (f 0).entry < e → Unsound redo t e k f
  falls : (x : ℕ) → suc x < k → (f (suc x)).entry ≤ (f x).entry → Unsound redo t e k f
  past : (x : ℕ) → x < k → length t ≤ (f x).entry → Unsound redo t e k f
  same : (x : ℕ) → x < k → (f x).old ≡ (f x).new → Unsound redo t e k f
  differs : (x : ℕ) → x < k → get_or t (f x).entry 0 ≢ replaced redo (f x) → Unsound redo t e k f

module _ {redo : Bool} {t : List ℕ} where
  -- a reason of those behind the first change is one of all
  later : {e k : ℕ} {f : ℕ → Change} → Unsound redo t (suc (f 0).entry) k (λ x. f (suc x)) → Unsound redo t e (suc k) f
  later (starts_low l h) = falls 0 (omega arith) (omega arith)
  later (falls x l h) = falls (suc x) (omega arith) h
  later (past x l h) = past (suc x) (omega arith) h
  later (same x l h) = same (suc x) (omega arith) h
  later (differs x l h) = differs (suc x) (omega arith) h

  sound_fails : (k : ℕ) (f : ℕ → Change) (e : ℕ) → sound redo t e (listed k f) ≡ false → Unsound redo t e k f
  unfolding sound listed
  sound_fails zero f e h = absurd (clash refl h)
  sound_fails (suc k) f e h =
      let c = f 0 in
      let cs = listed k (λ x. f (suc x)) in
      let rec = sound_fails k (λ x. f (suc x)) (suc c.entry) in
      if_lt c.entry e (λ l. starts_low (omega arith) l)
      (λ rising. if_lt c.entry (length t)
      (λ within. if_eq c.old c.new (λ q. same 0 (omega arith) q)
      (λ other. if_eq (get_or t c.entry 0) (replaced redo c)
      (λ held. later (rec (test (sound redo t (suc c.entry) cs)
      (λ rest. absurd (clash (sound_first redo t e c cs (record {
        rising = rising;
        within = within;
        differs = ne_eqb _ _ other;
        held = held;
        rest = rest;
      })) h))
      (λ q. q))))
      (λ q. differs 0 (omega arith) q)))
      (λ q. past 0 (omega arith) q))

  pub sound_holds : (k : ℕ) (f : ℕ → Change) (e : ℕ) → sound redo t e (listed k f) ≡ true → Unsound redo t e k f → ⊥
  unfolding listed
  sound_holds zero f e h (starts_low l q) = omega arith
  sound_holds zero f e h (falls x l q) = omega arith
  sound_holds zero f e h (past x l q) = omega arith
  sound_holds zero f e h (same x l q) = omega arith
  sound_holds zero f e h (differs x l q) = omega arith
  sound_holds (suc k) f e h u =
      let first = first_sound redo t e (f 0) _ h in
      none first (sound_holds k (λ x. f (suc x)) (suc (f 0).entry) first.rest) u
    where
      none : FirstSound redo t e (f 0) (listed k (λ x. f (suc x)))
          → (Unsound redo t (suc (f 0).entry) k (λ x. f (suc x)) → ⊥) → Unsound redo t e (suc k) f → ⊥
      none first behind (starts_low l q) = let r = first.rising in omega arith
      none first behind (falls zero l q) = behind (starts_low (omega arith) (omega arith))
      none first behind (falls (suc x) l q) = behind (falls x (omega arith) q)
      none first behind (past zero l q) = let r = first.within in omega arith
      none first behind (past (suc x) l q) = behind (past x (omega arith) q)
      none first behind (same zero l q) = eqb-false _ _ first.differs q
      none first behind (same (suc x) l q) = behind (same x (omega arith) q)
      none first behind (differs zero l q) = q first.held
      none first behind (differs (suc x) l q) = behind (differs x (omega arith) q)

-- ---- a record that is not broken

pub record Whole (redo : Bool) (t j : List ℕ) (a k : ℕ) : Type 0 where
  pub some : k ≢ 0
  pub low : 2 ≤ a
  pub fits : a + record_length k ≤ end j
  pub counts : count_at j a ≡ last_count_at j a k
  pub sounds : sound redo t 0 (changes_at j a k) ≡ true

replaced_is : (redo : Bool) (j : List ℕ) (a x : ℕ) → replaced redo (triple_at j a x) ≡ replaced_at redo j a x
replaced_is true j a x = refl
replaced_is false j a x = refl

module _ {redo : Bool} {t j : List ℕ} {a k : ℕ} where
  pub unbroken_whole : unbroken redo t j a k ≡ true → Whole redo t j a k
  unfolding unbroken
  unbroken_whole h =
      let some = not (eqb k 0) in
      let low = leb 2 a in
      let fits = leb (a + record_length k) (end j) in
      let counts = eqb (get_or j a 0) (get_or j (a + (3 * k + 2)) 0) in
      let four = and_l (some && low && fits && counts) _ h in
      let three = and_l (some && low && fits) _ four in
      let two = and_l (some && low) _ three in
      record {
        some = eqb-false _ _ (not-true _ (and_l some low two));
        low = leb-true _ _ (and_r some low two);
        fits = leb-true _ _ (and_r (some && low) fits three);
        counts = eqb-true _ _ (and_r (some && low && fits) counts four);
        sounds = and_r (some && low && fits && counts) _ h;
      }

  whole_unbroken : Whole redo t j a k → unbroken redo t j a k ≡ true
  unfolding unbroken
  whole_unbroken w =
      let some : not (eqb k 0) ≡ true = rw (ne_eqb k 0 w.some) in
      let low = le-leb 2 a w.low in
      and_i (and_i (and_i (and_i some low) (le-leb _ _ w.fits)) (eq-eqb _ _ w.counts)) w.sounds

  -- what is not sound is broken
  broken_change : Unsound redo t 0 k (triple_at j a) → Broken redo t j a k
  broken_change (starts_low l q) = absurd (omega arith)
  broken_change (falls x l q) = not_rising x l q
  broken_change (past x l q) = past_table x l q
  broken_change (same x l q) = alike x l q
  broken_change (differs x l q) = not_held x l (λ r. q (r ∙ sym (replaced_is redo j a x)))

  whole_not_broken : Whole redo t j a k → Broken redo t j a k → ⊥
  whole_not_broken w = none
    where
      sounds : Unsound redo t 0 k (triple_at j a) → ⊥
      sounds = sound_holds k (triple_at j a) 0 (rw (read_listed j a k) at w.sounds)

      none : Broken redo t j a k → ⊥
      none (counts_differ q) = q w.counts
      none (no_change q) = w.some q
      none (passes_2 q) = let r = w.low in omega arith
      none (passes_end q) = let r = w.fits in omega arith
      none (not_rising x l q) = sounds (falls x l q)
      none (past_table x l q) = sounds (past x l q)
      none (alike x l q) = sounds (same x l q)
      none (not_held x l q) = sounds (differs x l (λ r. q (r ∙ replaced_is redo j a x)))

module _ (redo : Bool) (t j : List ℕ) (a k : ℕ) where
  broken_test : unbroken redo t j a k ≡ false → Broken redo t j a k
  broken_test h =
      if_eq k 0 no_change
      (λ some. if_lt a 2 passes_2
      (λ low. if_lt (end j) (a + (3 * k + 3)) passes_end
      (λ fits. if_eq (count_at j a) (last_count_at j a k)
      (λ counts. broken_change (sound_fails k (triple_at j a) 0 (rw (read_listed j a k) at (test (sound redo t 0 (changes_at j a k))
      (λ sounds. absurd (clash (whole_unbroken (record { some = some; low = low; fits = fits; counts = counts; sounds = sounds })) h))
      (λ q. q)))))
      counts_differ)))

  pub unbroken_exactly : (unbroken redo t j a k ≡ false) ↔ Broken redo t j a k
  unbroken_exactly =
      (broken_test, λ b. test _ (λ h. absurd (whole_not_broken (unbroken_whole h) b)) (λ h. h))

  pub whole_exactly : (unbroken redo t j a k ≡ true) ↔ (Broken redo t j a k → ⊥)
  whole_exactly =
      (λ h. whole_not_broken (unbroken_whole h), λ f. test _ (λ h. h) (λ h. absurd (f (broken_test h))))

-- ---- the record before the cursor

-- it passes 2 exactly if the words from 2 to the cursor are too few for it
pub undo_passes_2 : (j : List ℕ) → (undo_start j < 2) ↔ (cursor j < 2 + (3 * undo_count j + 3))
undo_passes_2 j = (λ h. omega arith, λ h. omega arith)

-- where it does not, the count that undo reads is its last one
pub undo_last_count : (j : List ℕ) → 2 ≤ undo_start j → last_count_at j (undo_start j) (undo_count j) ≡ undo_count j
undo_last_count j h = ap (λ (w : ℕ). get_or j w 0) (omega arith)
