-- The changes between two tables, met by a rising pass: below the entry e + 1 there are those below e, and one more exactly
-- if the tables differ at e (`below_same`, `below_other`).
use Prim.Native.Nat.{ℕ, zero, suc, ◌+◌, ◌≤◌, ◌<◌}
use mathlib.Core.Path.{◌≡◌, refl, sym, ap, ◌∙◌}
use mathlib.Core.List.{List, [], ◌∷◌, ◌++◌, append-nil}
use native.Mathlib.Nat.{suc_inj, add-zero, add-suc}
use native.Mathlib.Omega.{arith}
use lib.ListN.{length, get_or, take, drop, length-append, take-append-drop}
use lib.Seq.{length-take-le, take-suc, take-length}
use lib.Dec.{eqb}
use borrow.Author.Tests.{eq-eqb, ne_eqb}
use Rattle.model.specs.Journal.{Change, changes_from}
use Rattle.theorems.proofs.Lists.Scan.{test}
use Rattle.theorems.proofs.History.Record.{changes_same, changes_other}
use Rattle.drafts.specs.Drafts.{changes_below}

changes_append : (xs ys xs' ys' : List ℕ) (e : ℕ) → length xs ≡ length ys
    → changes_from e (xs ++ xs') (ys ++ ys') ≡ changes_from e xs ys ++ changes_from (e + length xs) xs' ys'
unfolding changes_from
changes_append [] [] xs' ys' e l = ap (λ (k : ℕ). changes_from k xs' ys') (sym (add-zero e))
changes_append [] (y ∷ ys) xs' ys' e l = absurd (omega arith)
changes_append (x ∷ xs) [] xs' ys' e l = absurd (omega arith)
changes_append (x ∷ xs) (y ∷ ys) xs' ys' e l =
    let rec = changes_append xs ys xs' ys' (suc e) (suc_inj l) in
    let q : suc e + length xs ≡ e + suc (length xs) = omega arith in
    let next = rw q at rec in
    test (eqb x y)
    (λ p. changes_same e x y (xs ++ xs') (ys ++ ys') p ∙ next ∙ sym (rw (changes_same e x y xs ys p)))
    (λ p.
    changes_other e x y (xs ++ xs') (ys ++ ys') p
    ∙ ap (λ (r : List Change). record { entry = e; old = x; new = y } ∷ r) next ∙ sym (rw (changes_other e x y xs ys p)))

module _ (t u : List ℕ) (long : length t ≡ length u) where
  pub below_none : changes_below 0 t u ≡ []
  unfolding changes_below changes_from
  below_none = refl

  pub below_all : changes_below (length t) t u ≡ changes_from 0 t u
  unfolding changes_below
  below_all = rw (take-length t, long, take-length u)

  -- those from an entry on stand behind those below it
  below_rest : (e : ℕ) → e ≤ length t → (r : List Change) × (changes_from 0 t u ≡ changes_below e t u ++ r)
  unfolding changes_below
  below_rest e h =
      let lt = length-take-le e t h in
      let lu = length-take-le e u (omega arith) in
      let p = changes_append (take e t) (take e u) (drop e t) (drop e u) 0 (omega arith) in
      (_, rw (take-append-drop e t, take-append-drop e u) at p)

  -- those below an entry are no more than all
  pub below_most : (e : ℕ) → e ≤ length t → length (changes_below e t u) ≤ length (changes_from 0 t u)
  below_most e h =
      let (r, p) = below_rest e h in
      let l = ap length p in
      let q = length-append (changes_below e t u) r in
      omega arith

  module _ (e : ℕ) (inside : e < length t) (d : ℕ) where
    abbrev x : ℕ
    x = get_or t e d

    abbrev y : ℕ
    y = get_or u e d

    below_step : changes_below (suc e) t u ≡ changes_below e t u ++ changes_from e (x ∷ []) (y ∷ [])
    unfolding changes_below
    below_step =
        let lt = length-take-le e t (omega arith) in
        let lu = length-take-le e u (omega arith) in
        let q : 0 + length (take e t) ≡ e = omega arith in
        rw (take-suc t e d inside, take-suc u e d (omega arith))
        (rw q at (changes_append (take e t) (take e u) (x ∷ []) (y ∷ []) 0 (omega arith)))

    more : (cs : List Change) → changes_from e (x ∷ []) (y ∷ []) ≡ cs → changes_below (suc e) t u ≡ changes_below e t u ++ cs
    more cs h = below_step ∙ ap (λ (r : List Change). changes_below e t u ++ r) h

    pub below_same : get_or t e d ≡ get_or u e d → changes_below (suc e) t u ≡ changes_below e t u
    unfolding changes_from
    below_same h = more [] (changes_same e x y [] [] (eq-eqb x y h)) ∙ append-nil _

    pub below_other : (get_or t e d ≡ get_or u e d → ⊥)
        → changes_below (suc e) t u ≡ changes_below e t u ++ record { entry = e; old = get_or t e d; new = get_or u e d } ∷ []
    unfolding changes_from
    below_other h = more _ (changes_other e x y [] [] (ne_eqb x y h))

    pub below_count : (get_or t e d ≡ get_or u e d → ⊥) → length (changes_below (suc e) t u) ≡ suc (length (changes_below e t u))
    below_count h = rw (below_other h, length-append) (omega arith)

  -- entries that are alike in both tables are passed over together
  pub below_alike : (e n d : ℕ) → e + n ≤ length t → ((i : ℕ) → i < n → get_or t (e + i) d ≡ get_or u (e + i) d)
      → changes_below (e + n) t u ≡ changes_below e t u
  below_alike e zero d h same = ap (λ (k : ℕ). changes_below k t u) (add-zero e)
  below_alike e (suc n) d h same =
      ap (λ (k : ℕ). changes_below k t u) (add-suc e n)
      ∙ below_same (e + n) (omega arith) d (same n (omega arith))
      ∙ below_alike e n d (omega arith) (λ i l. same i (omega arith))
