-- The changes from a table to another of the same length: put forward they make the second of the first, put back the
-- first of the second; and the words of their record give them back. `length_record`, `longest_record`: how long it is.
use Prim.Native.Nat.{ℕ, suc, ◌+◌, ◌*◌, ◌≤◌, ◌<◌}
use mathlib.Core.Path.{◌≡◌, refl, sym, ap, ◌∙◌}
use mathlib.Core.Logic.{◌⊎◌, inl, inr, ◌≢◌}
use mathlib.Core.Bool.{true, false}
use mathlib.Core.List.{List, [], ◌∷◌, ◌++◌, append_assoc}
use native.Mathlib.Nat.{suc_inj}
use native.Mathlib.Omega.{arith}
use lib.ListN.{length, set, length-append}
use lib.Seq.{set_at}
use lib.Dec.{eqb}
use borrow.Author.Tests.{eqb-true, eqb-false, eq-eqb, ne_eqb}
use Rattle.model.specs.Journal.{Change, changes_from, put_new, put_old, triples, read_changes, record_of, record_length}
use Rattle.theorems.proofs.Lists.Scan.{bool_cases, test}

module _ (e x y : ℕ) (xs ys : List ℕ) where
  pub changes_same : eqb x y ≡ true → changes_from e (x ∷ xs) (y ∷ ys) ≡ changes_from (suc e) xs ys
  unfolding changes_from
  changes_same h = rw (h, changes_from)

  pub changes_other : eqb x y ≡ false
      → changes_from e (x ∷ xs) (y ∷ ys) ≡ record { entry = e; old = x; new = y } ∷ changes_from (suc e) xs ys
  unfolding changes_from
  changes_other h = rw (h, changes_from)

pub eqb_comm : (x y : ℕ) → eqb y x ≡ eqb x y
eqb_comm x y =
    test (eqb x y) (λ h. eq-eqb y x (sym (eqb-true x y h)) ∙ sym h) (λ h. ne_eqb y x (λ q. eqb-false x y h (sym q)) ∙ sym h)

-- one more entry before the entry e
pub longer : (before : List ℕ) (x e : ℕ) → length before ≡ e → length (before ++ x ∷ []) ≡ suc e
longer before x e l = rw length-append (omega arith)

-- ---- put forward, and put back

put_new_from : (xs ys before : List ℕ) (e : ℕ) → length before ≡ e → length xs ≡ length ys
    → put_new (changes_from e xs ys) (before ++ xs) ≡ before ++ ys
unfolding changes_from put_new
put_new_from [] [] before e l h = refl
put_new_from [] (y ∷ ys) before e l h = absurd (omega arith)
put_new_from (x ∷ xs) [] before e l h = absurd (omega arith)
put_new_from (x ∷ xs) (y ∷ ys) before e l h =
    go (λ z. put_new_from xs ys (before ++ z ∷ []) (suc e) (longer before z e l) (suc_inj h)) (bool_cases (eqb x y))
  where
    go : ((z : ℕ) → put_new (changes_from (suc e) xs ys) ((before ++ z ∷ []) ++ xs) ≡ (before ++ z ∷ []) ++ ys)
        → (eqb x y ≡ true) ⊎ (eqb x y ≡ false) → put_new (changes_from e (x ∷ xs) (y ∷ ys)) (before ++ x ∷ xs) ≡ before ++ y ∷ ys
    go rest (inl p) =
        rw (changes_same e x y xs ys p) (simp append_assoc at (rest x) ∙ ap (λ (z : ℕ). before ++ z ∷ ys) (eqb-true x y p))
    go rest (inr p) =
        rw (changes_other e x y xs ys p)
        (ap (put_new (changes_from (suc e) xs ys)) (set_at before x xs y e l) ∙ simp append_assoc at (rest y))

-- to put back is to put forward the changes from the new table to the old one
put_old_turned : (xs ys : List ℕ) (e : ℕ) (t : List ℕ) → put_old (changes_from e xs ys) t ≡ put_new (changes_from e ys xs) t
unfolding changes_from put_new put_old
put_old_turned [] [] e t = refl
put_old_turned [] (y ∷ ys) e t = refl
put_old_turned (x ∷ xs) [] e t = refl
put_old_turned (x ∷ xs) (y ∷ ys) e t = go (put_old_turned xs ys (suc e)) (bool_cases (eqb x y))
  where
    go : ((u : List ℕ) → put_old (changes_from (suc e) xs ys) u ≡ put_new (changes_from (suc e) ys xs) u)
        → (eqb x y ≡ true) ⊎ (eqb x y ≡ false)
        → put_old (changes_from e (x ∷ xs) (y ∷ ys)) t ≡ put_new (changes_from e (y ∷ ys) (x ∷ xs)) t
    go rest (inl p) = rw (changes_same e x y xs ys p, changes_same e y x ys xs (eqb_comm x y ∙ p)) (rest t)
    go rest (inr p) = rw (changes_other e x y xs ys p, changes_other e y x ys xs (eqb_comm x y ∙ p)) (rest (set t e x))

module _ (t u : List ℕ) (long : length t ≡ length u) where
  pub put_new_changes : put_new (changes_from 0 t u) t ≡ u
  put_new_changes = put_new_from t u [] 0 refl long

  pub changes_some : t ≢ u → 0 < length (changes_from 0 t u)
  unfolding put_new
  changes_some h = go (changes_from 0 t u) put_new_changes
    where
      go : (cs : List Change) → put_new cs t ≡ u → 0 < length cs
      go [] e = absurd (h e)
      go (c ∷ cs) e = omega arith

pub put_old_changes : (t u : List ℕ) → length t ≡ length u → put_old (changes_from 0 t u) u ≡ t
put_old_changes t u long = put_old_turned t u 0 u ∙ put_new_changes u t (sym long)

-- ---- the words of a record

pub read_triples : (cs : List Change) (ws : List ℕ) → read_changes (length cs) (triples cs ++ ws) ≡ cs
unfolding read_changes triples
read_triples [] ws = refl
read_triples (c ∷ cs) ws = ap (λ (r : List Change). c ∷ r) (read_triples cs ws)

pub length_triples : (cs : List Change) → length (triples cs) ≡ 3 * length cs
unfolding triples
length_triples [] = refl
length_triples (c ∷ cs) = let h = length_triples cs in omega arith

pub length_record : (tag : ℕ) (cs : List Change) → length (record_of tag cs) ≡ record_length (length cs)
unfolding record_of
length_record tag cs =
    let h = length_triples cs in
    let a = length-append (triples cs) (length cs ∷ []) in
    omega arith

-- a table has no more changes than entries ..
pub few_changes : (t u : List ℕ) (e : ℕ) → length (changes_from e t u) ≤ length t
unfolding changes_from
few_changes [] u e = omega arith
few_changes (x ∷ t) [] e = omega arith
few_changes (x ∷ t) (y ∷ u) e =
    let rest = few_changes t u (suc e) in
    test (eqb x y)
    (λ p. let l = ap length (changes_same e x y t u p) in omega arith)
    (λ p. let l = ap length (changes_other e x y t u p) in omega arith)

-- .. so that in a fresh journal of 786,437 words every record has room
pub longest_record : (tag : ℕ) (t u : List ℕ) → length t ≤ 262144 → 2 + length (record_of tag (changes_from 0 t u)) ≤ 786437
longest_record tag t u few =
    let most = few_changes t u 0 in
    let long = length_record tag (changes_from 0 t u) in
    omega arith
