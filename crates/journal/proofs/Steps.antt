-- What undo and redo need of a record: where it is unbroken it can be put (`unbroken_fits`) and taken back (`unbroken_again`,
-- `unbroken_back`), and `step_outcome` is one of three (`step_broken`, `step_no_map`, `step_taken`).
use Prim.Native.Nat.{ℕ, suc, ◌+◌, ◌≤◌, ◌<◌}
use mathlib.Core.Path.{◌≡◌, refl, sym, ap, ◌∙◌}
use mathlib.Core.Bool.{Bool, true, false, not}
use mathlib.Core.List.{List, [], ◌∷◌}
use native.Mathlib.Omega.{arith}
use lib.ListN.{length, set}
use lib.Seq.{set_comm, set-set, set-get_or}
use Rattle.model.specs.Map.{is_map}
use Rattle.model.specs.Journal.{Change, end, record_length, changes_at, tag_at, put, sound, unbroken}
use Rattle.model.specs.Calls.{step_outcome, refused}
use Rattle.theorems.proofs.History.Sound.{replaced, first_sound}
use Rattle.theorems.proofs.History.Broken.{Whole, unbroken_whole}
use Rattle.journal.specs.Records.{value_put, within}
use Rattle.journal.proofs.Puts.{put_none, put_next, put_length}
use Rattle.journal.proofs.Breaks.{sound_within}

-- undo puts what redo replaces, and redo what undo replaces
replaced_put : (redo : Bool) (c : Change) → replaced redo c ≡ value_put (not redo) c
unfolding value_put
replaced_put true c = refl
replaced_put false c = refl

module _ (redo : Bool) (t : List ℕ) where
  -- a value before the entries of a sound record can be set before or after
  put_set : (way : Bool) (cs : List Change) (e x v : ℕ) (u : List ℕ) → sound redo t e cs ≡ true → x < e
      → put way cs (set u x v) ≡ set (put way cs u) x v
  put_set way [] e x v u h l = put_none way (set u x v) ∙ ap (λ (r : List ℕ). set r x v) (sym (put_none way u))
  put_set way (c ∷ cs) e x v u h l =
      let s = first_sound redo t e c cs h in
      let low = s.rising in
      let y = c.entry in
      let z = value_put way c in
      put_next way c cs (set u x v)
      ∙ ap (put way cs) (set_comm u x y v z (λ q. omega arith))
      ∙ put_set way cs (suc y) x v (set u y z) s.rest (omega arith)
      ∙ ap (λ (r : List ℕ). set r x v) (sym (put_next way c cs u))

  -- the first value of a sound record, taken back when all have been put
  put_unset : (c : Change) (cs : List Change) (e : ℕ) → sound redo t e (c ∷ cs) ≡ true
      → set (put redo (c ∷ cs) t) c.entry (value_put (not redo) c) ≡ put redo cs t
  put_unset c cs e h =
      let s = first_sound redo t e c cs h in
      let x = c.entry in
      let v = value_put redo c in
      let w = value_put (not redo) c in
      ap (λ (r : List ℕ). set r x w) (put_next redo c cs t)
      ∙ sym (put_set redo cs (suc x) x w (set t x v) s.rest (omega arith))
      ∙ ap (put redo cs) (set-set t x v w ∙ ap (set t x) (sym (s.held ∙ replaced_put redo c)) ∙ set-get_or t x 0)

  back_from : (cs : List Change) (e : ℕ) → sound redo t e cs ≡ true → put (not redo) cs (put redo cs t) ≡ t
  back_from [] e h = put_none (not redo) _ ∙ put_none redo t
  back_from (c ∷ cs) e h =
      put_next (not redo) c cs _ ∙ ap (put (not redo) cs) (put_unset c cs e h)
      ∙ back_from cs (suc c.entry) (first_sound redo t e c cs h).rest

  -- the values of a sound record put into a table, and then those that they replaced, give the table back
  pub put_back : (cs : List Change) → sound redo t 0 cs ≡ true → put (not redo) cs (put redo cs t) ≡ t
  put_back cs h = back_from cs 0 h

-- ---- the record of k changes at the word a, of which `unbroken` gave r

module _ (redo : Bool) (t j : List ℕ) (a k : ℕ) (r : Bool) (tested : r ≡ unbroken redo t j a k) where
  abbrev cs : List Change
  cs = changes_at j a k

  pub step_broken : r ≡ false → (n c : ℕ) → step_outcome redo n t j a k c ≡ refused 17 0 0 t [] j
  unfolding step_outcome
  step_broken h n c = rw (← tested, h, step_outcome)

  module _ (whole : r ≡ true) where
    parts : Whole redo t j a k
    parts = unbroken_whole (sym tested ∙ whole)

    pub unbroken_fits : end j ≤ length j → (a + record_length k ≤ length j) × (within (length t) (changes_at j a k) ≡ true)
    unbroken_fits h = let f = parts.fits in (omega arith, sound_within redo t 0 cs parts.sounds)

    -- put into t, giving t', it still lies within the table, and can be taken back
    module _ (t' : List ℕ) (done : t' ≡ put redo (changes_at j a k) t) where
      pub unbroken_again : end j ≤ length j → (a + record_length k ≤ length j) × (within (length t') (changes_at j a k) ≡ true)
      unbroken_again h = rw (done, put_length redo cs t) (unbroken_fits h)

      pub unbroken_back : (t'' : List ℕ) → t'' ≡ put (not redo) (changes_at j a k) t' → t'' ≡ t
      unbroken_back t'' h = h ∙ rw done (put_back redo t cs parts.sounds)

      module _ (n c : ℕ) where
        pub step_no_map : is_map n t' ≡ false → step_outcome redo n t j a k c ≡ refused 17 0 0 t [] j
        unfolding step_outcome
        step_no_map h = rw (← tested, whole, ← done, h, step_outcome)

        pub step_taken : is_map n t' ≡ true → step_outcome redo n t j a k c
            ≡ record { number = 0; place = tag_at j a; count = k; table = t'; marks = []; journal = set j 0 c }
        unfolding step_outcome
        step_taken h = rw (← tested, whole, ← done, h, step_outcome) (rw done)
