-- In a cell whose words return, the links of the places follow the rows: one deduction, computed over the rows, for n = 2 and 3.
-- Main definitions: `around` (the words that return), `Turning` (they return in a set of darts). Main theorem: `places_follow`.
use Prim.Native.Nat.{ℕ, zero, suc, ◌+◌, ◌*◌, ◌/◌, ◌%◌, ◌<◌}
use mathlib.Core.Path.{◌≡◌, refl, sym, ap, ap₂, ◌∙◌}
use mathlib.Core.Logic.{◌≢◌, ⊎_elim}
use mathlib.Core.Bool.{Bool, true, false, not, ◌&&◌, ◌||◌}
use mathlib.Core.List.{List, [], ◌∷◌, ◌++◌}
use native.Mathlib.Omega.{arith}
use lib.ListN.{get_or}
use lib.Dec.{eqb, ltb}
use borrow.Author.Tests.{eqb-true, eqb-false, ltb-true, not-true, not-false}
use Rattle.model.specs.Lists.{tabulate, all_below}
use Rattle.model.specs.Table.{link, walk}
use Rattle.model.specs.Cell.{cell_size}
use Rattle.model.specs.Numbering.{cell_link}
use Rattle.model.specs.Everything.{everything}
use Rattle.model.specs.Meaning.Maps.{Dim}
use Rattle.model.specs.Meaning.Places.{path, place, Follows}
use Rattle.theorems.proofs.Maps.Dim.{two_cases}
use Rattle.theorems.proofs.Lists.Scan.{test, clash, and_l, and_r, or_cases, or_false, below_both, below_not, get_or_tab}
use Rattle.theorems.proofs.Cells.Rows.{walk_keeps, rows_in, path_small}

-- ---- equal words

abbrev pub same : List ℕ → List ℕ → Bool
same [] [] = true
same [] (y ∷ ys) = false
same (x ∷ xs) [] = false
same (x ∷ xs) (y ∷ ys) = elim (eqb x y) [ true ↦ same xs ys | false ↦ false ]

pub same_eq : (v w : List ℕ) → same v w ≡ true → v ≡ w
same_eq [] [] h = refl
same_eq [] (y ∷ ys) h = absurd (clash h refl)
same_eq (x ∷ xs) [] h = absurd (clash h refl)
same_eq (x ∷ xs) (y ∷ ys) h =
    let rec = same_eq xs ys in
    test (eqb x y) (λ e. ap₂ (λ (z : ℕ) (zs : List ℕ). z ∷ zs) (eqb-true x y e) (rec (rw (e, same) at h)))
    (λ e. absurd (clash h (rw (e, same))))

-- ---- the words that return

-- a, b, a, ..: k links
unfoldable pub alternate : ℕ → ℕ → ℕ → List ℕ
alternate zero a b = []
alternate (suc k) a b = a ∷ alternate k b a

-- j, i, j, .., j: with i before it or after it, it goes 0, 1 four times, 0, 2 twice, and 1, 2 three times
unfoldable pub around : ℕ → ℕ → List ℕ
unfolding alternate
around i j = alternate (get_or (0 ∷ 7 ∷ 3 ∷ 5 ∷ []) (i + j) 0) j i

-- a set of darts, closed under the links of a cell, in which these words return
pub record Turning (n : ℕ) (t : List ℕ) (C : ℕ → Type 0) : Type 0 where
  pub goes : (x i : ℕ) → i < n → C x → C (link t i x)
  pub comes : (x i : ℕ) → i < n → C x → link t i (link t i x) ≡ x
  pub turn : (x i j : ℕ) → i < n → j < n → i ≢ j → C x → link t i (walk t (around i j) x) ≡ x

-- ---- the deduction, over the rows alone

-- the edges that are known: the link i of the place k at 3 * k + i
known : List ℕ → ℕ → ℕ → Bool
known e i k = eqb (get_or e (3 * k + i) 0) 1

-- the word leads from the place k to the place z by known edges
leads : ℕ → List ℕ → List ℕ → ℕ → ℕ → Bool
leads n e [] k z = eqb k z
leads n e (j ∷ w) k z =
    elim (known e j k && (ltb j n && ltb k (cell_size n))) [ true ↦ leads n e w (cell_link n j k) z | false ↦ false ]

-- no word that returns with the link i leads from the place k to the place z
none_leads : ℕ → List ℕ → ℕ → ℕ → ℕ → Bool
none_leads n e i k z = all_below n (λ j. eqb i j || not (leads n e (around i j) k z))

-- why link i of the place k leads to the place z: the last link of a path, the edge back, or a word that returns
why : ℕ → List ℕ → ℕ → ℕ → ℕ → Bool
why n e i k z =
    same (path n z) (path n k ++ (i ∷ [])) || ((eqb (cell_link n i z) k && known e i z) || not (none_leads n e i z k))

-- 1 if there is a reason for link i of the place k, else 0
deduced : ℕ → List ℕ → ℕ → ℕ → ℕ
deduced n e i k = elim (why n e i k (cell_link n i k)) [ true ↦ 1 | false ↦ 0 ]

round : ℕ → List ℕ → List ℕ
round n e = tabulate (3 * cell_size n) (λ x. deduced n e (x % 3) (x / 3))

rounds : ℕ → ℕ → List ℕ
rounds n zero = []
rounds n (suc k) = round n (rounds n k)

-- every edge of a cell is found
full_true : (n : ℕ) → Dim n → all_below n (λ i. all_below (cell_size n) (known (rounds n 9) i)) ≡ true
unfolding rounds round deduced why none_leads leads known around everything path
full_true n dim = two_cases n dim (λ n. all_below n (λ i. all_below (cell_size n) (known (rounds n 9) i)) ≡ true) refl refl

-- ---- what is found holds

walk_snoc : (t : List ℕ) (w : List ℕ) (i x : ℕ) → walk t (w ++ (i ∷ [])) x ≡ link t i (walk t w x)
unfolding walk
walk_snoc t [] i x = refl
walk_snoc t (j ∷ w) i x = walk_snoc t w i (link t j x)

deduced_why : (n : ℕ) (e : List ℕ) (i k : ℕ) → deduced n e i k ≡ 1 → why n e i k (cell_link n i k) ≡ true
unfolding deduced
deduced_why n e i k h =
    test (why n e i k (cell_link n i k)) (λ q. q) (λ q. let z : deduced n e i k ≡ 0 = rw (q, deduced) in absurd (omega arith))

module _ (n : ℕ) (t : List ℕ) (d : ℕ) (C : ℕ → Type 0) (dim : Dim n) (T : Turning n t C) (c : C d) where
  abbrev at : ℕ → ℕ
  at k = place n t d k

  at_in : (k : ℕ) → k < cell_size n → C (at k)
  unfolding place
  at_in k l = walk_keeps n t C T.goes (path n k) (path_small n k dim l) d c

  abbrev Sound : List ℕ → Type 0
  Sound e = (i k : ℕ) → known e i k ≡ true → i < n → k < cell_size n → link t i (at k) ≡ at (cell_link n i k)

  module _ (e : List ℕ) (s : Sound e) where
    leads_sound : (w : List ℕ) (k z : ℕ) → leads n e w k z ≡ true → walk t w (at k) ≡ at z
    unfolding leads walk
    leads_sound [] k z h = ap at (eqb-true k z h)
    leads_sound (j ∷ w) k z h =
        let rec = leads_sound w (cell_link n j k) z in
        test B (λ q. ap (walk t w) (step q) ∙ rec (rw (q, leads) at h)) (λ q. absurd (clash h (rw (q, leads))))
      where
        B : Bool
        B = known e j k && (ltb j n && ltb k (cell_size n))

        step : B ≡ true → link t j (at k) ≡ at (cell_link n j k)
        step q =
            let r = and_r (known e j k) (ltb j n && ltb k (cell_size n)) q in
            s j k (and_l (known e j k) _ q) (ltb-true j n (and_l (ltb j n) _ r)) (ltb-true k _ (and_r (ltb j n) _ r))

    module _ (i k : ℕ) (hi : i < n) (hk : k < cell_size n) where
      abbrev to : ℕ
      to = cell_link n i k

      to_in : to < cell_size n
      to_in = rows_in n i k dim hi hk

      abbrev Edge : Type 0
      Edge = link t i (at k) ≡ at to

      by_path : same (path n to) (path n k ++ (i ∷ [])) ≡ true → Edge
      unfolding place
      by_path h = sym (ap (λ (w : List ℕ). walk t w d) (same_eq _ _ h) ∙ walk_snoc t (path n k) i d)

      by_back : (eqb (cell_link n i to) k && known e i to) ≡ true → Edge
      by_back h =
          let is_back = eqb-true _ _ (and_l (eqb (cell_link n i to) k) _ h) in
          let back = s i to (and_r (eqb (cell_link n i to) k) _ h) hi to_in ∙ ap at is_back in
          ap (link t i) (sym back) ∙ T.comes (at to) i hi (at_in to to_in)

      by_turn : not (none_leads n e i to k) ≡ true → Edge
      unfolding none_leads
      by_turn h =
          let (j, hj, q) = below_not (λ j. eqb i j || not (leads n e (around i j) to k)) n (not-true _ h) in
          let (apart, leading) = or_false (eqb i j) (not (leads n e (around i j) to k)) q in
          ap (link t i) (sym (leads_sound (around i j) to k (not-false _ leading)))
          ∙ T.turn (at to) i j hi hj (eqb-false i j apart) (at_in to to_in)

      why_sound : why n e i k to ≡ true → Edge
      unfolding why
      why_sound h =
          let path_test = same (path n to) (path n k ++ (i ∷ [])) in
          let back_test = eqb (cell_link n i to) k && known e i to in
          ⊎_elim by_path (λ r. ⊎_elim by_back by_turn (or_cases back_test _ r)) (or_cases path_test _ h)

  rounds_sound : (k : ℕ) → Sound (rounds n k)
  unfolding rounds round known
  rounds_sound zero i j h hi hj = absurd (clash h refl)
  rounds_sound (suc k) i j h hi hj =
      let e = rounds n k in
      let top = dim.1 in
      let index_of : (3 * j + i) % 3 ≡ i = omega arith in
      let place_of_lem : (3 * j + i) / 3 ≡ j = omega arith in
      let entry = get_or_tab (λ x. deduced n e (x % 3) (x / 3)) (3 * cell_size n) (3 * j + i) 0 (omega arith) in
      let one = sym (ap₂ (deduced n e) index_of place_of_lem) ∙ sym entry ∙ eqb-true _ 1 h in
      why_sound e (rounds_sound k) i j hi hj (deduced_why n e i j one)

pub places_follow : (n : ℕ) (t : List ℕ) (d : ℕ) (C : ℕ → Type 0) → Dim n → Turning n t C → C d → Follows n t (place n t d)
places_follow n t d C dim T c i k hi hk =
    rounds_sound n t d C dim T c 9 i k (below_both (known (rounds n 9)) n (cell_size n) (full_true n dim) i k hi hk) hi hk
