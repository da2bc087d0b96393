-- Putting the values of a record, one change after another: `rest_from` has those that are left (`rest_first`, `rest_next`, `rest_none`),
-- `put_turn` and `within_turn` are a turn of the loop.
use Prim.Native.Nat.{ℕ, zero, suc, ◌+◌, ◌*◌, ◌-◌, ◌≤◌, ◌<◌}
use mathlib.Core.Path.{◌≡◌, refl, sym, ap, ◌∙◌}
use mathlib.Core.Bool.{Bool, true, false}
use mathlib.Core.List.{List, [], ◌∷◌}
use native.Mathlib.Omega.{arith}
use lib.ListN.{length, get_or, set, drop, length-set}
use lib.Seq.{get_or-drop, drop-drop}
use lib.Dec.{ltb}
use borrow.Author.Tests.{ltb-true}
use Rattle.model.specs.Journal.{Change, read_changes, changes_at, put_new, put_old, put}
use Rattle.theorems.proofs.Lists.Scan.{and_l, and_r}
use Rattle.journal.specs.Records.{change_at, value_put, within}

pub read_next : (j : List ℕ) (w k : ℕ) → zero < k → read_changes k (drop w j) ≡ change_at j w ∷ read_changes (k - 1) (drop (w + 3) j)
unfolding read_changes change_at
read_next j w zero h = absurd (omega arith)
read_next j w (suc k) h =
    let p : w + 0 ≡ w = omega arith in
    let q : suc k - 1 ≡ k = omega arith in
    rw (get_or-drop w j 0 0, get_or-drop w j 1 0, get_or-drop w j 2 0, drop-drop 3 w j, p, q)

pub put_none : (redo : Bool) (t : List ℕ) → put redo [] t ≡ t
unfolding put put_new put_old
put_none true t = refl
put_none false t = refl

pub put_next : (redo : Bool) (c : Change) (cs : List Change) (t : List ℕ)
    → put redo (c ∷ cs) t ≡ put redo cs (set t c.entry (value_put redo c))
unfolding put put_new put_old value_put
put_next true c cs t = refl
put_next false c cs t = refl

pub within_next : (n : ℕ) (c : Change) (cs : List Change) → within n (c ∷ cs) ≡ true → (c.entry < n) × (within n cs ≡ true)
unfolding within
within_next n c cs h = let i = ltb c.entry n in let r = within n cs in (ltb-true _ _ (and_l i r h), and_r i r h)

pub put_length : (redo : Bool) (cs : List Change) (t : List ℕ) → length (put redo cs t) ≡ length t
put_length redo [] t = ap length (put_none redo t)
put_length redo (c ∷ cs) t =
    let v = value_put redo c in
    ap length (put_next redo c cs t) ∙ put_length redo cs (set t c.entry v) ∙ length-set t c.entry v

-- ---- a turn of a loop over the triples of the record of k changes at the word a

-- the changes from the turn i on
abbrev pub rest_from : List ℕ → ℕ → ℕ → ℕ → List Change
rest_from j a k i = read_changes (k - i) (drop (a + 2 + 3 * i) j)

module _ (j : List ℕ) (a k i : ℕ) where
  pub rest_first : i ≡ 0 → rest_from j a k i ≡ changes_at j a k
  unfolding changes_at
  rest_first e =
      let p : k - i ≡ k = omega arith in
      let q : a + 2 + 3 * i ≡ a + 2 = omega arith in
      rw (p, q)

  pub rest_next : i < k → rest_from j a k i ≡ change_at j (a + 2 + 3 * i) ∷ rest_from j a k (i + 1)
  rest_next low =
      let p : k - i - 1 ≡ k - (i + 1) = omega arith in
      let q : a + 2 + 3 * i + 3 ≡ a + 2 + 3 * (i + 1) = omega arith in
      rw (p, q) at (read_next j (a + 2 + 3 * i) (k - i) (omega arith))

  pub rest_none : k ≤ i → rest_from j a k i ≡ []
  unfolding read_changes
  rest_none high = let p : k - i ≡ 0 = omega arith in rw p

  pub put_turn : i < k → (redo : Bool) (t : List ℕ) (v : ℕ) → v ≡ value_put redo (change_at j (a + 2 + 3 * i))
      → put redo (rest_from j a k (i + 1)) (set t (get_or j (a + 2 + 3 * i) 0) v) ≡ put redo (rest_from j a k i) t
  unfolding change_at
  put_turn low redo t v h = rw (h, rest_next low) (sym (put_next redo (change_at j (a + 2 + 3 * i)) _ t))

  pub within_turn : i < k → (n : ℕ) → within n (rest_from j a k i) ≡ true
      → (get_or j (a + 2 + 3 * i) 0 < n) × (within n (rest_from j a k (i + 1)) ≡ true)
  unfolding change_at
  within_turn low n h = within_next n (change_at j (a + 2 + 3 * i)) _ (rw (rest_next low) at h)
