-- Marks of the darts that are seen: how they are set, and that they stay within good cells.
-- Main theorems: `seen_next` (marking darts), `seen_listed` (a good cell is marked), `visit_answers`.
use Prim.Native.Nat.{ℕ, ◌+◌, ◌<◌}
use mathlib.Core.Path.{◌≡◌, refl, sym, ap, ◌∙◌}
use mathlib.Core.Logic.{◌⊎◌, inl, inr, ◌≢◌, ⊎_elim}
use mathlib.Core.Bool.{Bool, true, false, not}
use mathlib.Core.List.Memᴰ.{head as here}
use mathlib.Core.List.Memᴰ.{tail as there}
use mathlib.Core.List.{List, [], ◌∷◌, ◌++◌, Memᴰ as In}
use native.Mathlib.Numerals.{add-one}
use native.Mathlib.Omega.{arith}
use lib.ListN.{length, get_or, set, take, length-set}
use lib.Seq.{take-suc, get_or-set_other}
use Rattle.model.specs.Lists.{tabulate}
use Rattle.model.specs.Table.{unused, link, live}
use Rattle.model.specs.Cell.{cell_size, cell_of, good_cell, in_wrong_cell}
use Rattle.model.specs.Meaning.Maps.{MapTable}
use Rattle.model.specs.Meaning.Places.{place}
use Rattle.theorems.proofs.Lists.Scan.{test, if_eq, in_tab}
use Rattle.theorems.proofs.Maps.Tables.{live_below, rule_at}
use Rattle.theorems.proofs.Cells.Cell.{place_in, cell_same}
use Rattle.cells.specs.Listing.{MapDart, places}
use Rattle.block_test.specs.Seen.{seen_with, SeenGood}
use Rattle.cells.proofs.Listing.{places_length, places_at, place_live}

-- ---- setting marks

pub seen_first : (s : List ℕ) → s ≡ seen_with s []
unfolding seen_with
seen_first s = refl

seen_snoc : (s xs : List ℕ) (x : ℕ) → seen_with s (xs ++ (x ∷ [])) ≡ set (seen_with s xs) x 1
unfolding seen_with
seen_snoc s [] x = refl
seen_snoc s (y ∷ xs) x = seen_snoc (set s y 1) xs x

pub seen_next : (s darts : List ℕ) (k : ℕ) (seen : List ℕ) → k < length darts → seen ≡ seen_with s (take k darts)
    → set seen (get_or darts k 0) 1 ≡ seen_with s (take (k + 1) darts)
seen_next s darts k seen l e =
    rw (e, add-one k, take-suc darts k 0 l) (sym (seen_snoc s (take k darts) (get_or darts k 0)))

pub seen_length : (s xs : List ℕ) → length (seen_with s xs) ≡ length s
unfolding seen_with
seen_length s [] = refl
seen_length s (x ∷ xs) = seen_length (set s x 1) xs ∙ length-set s x 1

-- a dart that is seen was so before, or is one of those marked
seen_cases : (s xs : List ℕ) (x : ℕ) → get_or (seen_with s xs) x 0 ≢ 0 → (get_or s x 0 ≢ 0) ⊎ In x xs
unfolding seen_with
seen_cases s [] x h = inl h
seen_cases s (y ∷ xs) x h =
    ⊎_elim (λ q. if_eq x y (λ e. inr (here e)) (λ e. inl (rw (get_or-set_other s y x 1 0 e) at q))) (λ i. inr (there i))
    (seen_cases (set s y 1) xs x h)

-- ---- wrong cells

wrong_live : (n : ℕ) (t : List ℕ) (x : ℕ) → live t x ≡ true → in_wrong_cell n t x ≡ not (good_cell n t (cell_of n t x))
unfolding in_wrong_cell
wrong_live n t x l = rw (l, in_wrong_cell)

-- in a map a slot whose link 0 says so is unused
pub unused_right : {n : ℕ} {t : List ℕ} → MapTable n t → (x : ℕ) → link t 0 x ≡ unused → in_wrong_cell n t x ≡ false
unfolding in_wrong_cell
unused_right {n} {t} T x e = test (live t x) (λ l. absurd (outside l)) (λ l. rw (l, in_wrong_cell))
  where
    outside : live t x ≡ true → ⊥
    outside l =
        let inside = live_below T (link t 0 x) ((rule_at T x l).goes 0 (omega arith)) in
        let few = T.few in
        omega arith

-- ---- marking a good cell

module _ {n : ℕ} {t : List ℕ} {d : ℕ} (D : MapDart n t d) (seen : List ℕ) (S : SeenGood n t seen) where
  -- its darts have their marks
  pub places_in : (cell : List ℕ) → cell ≡ places n t d → (k : ℕ) → k < length cell → get_or cell k 0 < length seen
  places_in cell e k l =
      let low : k < cell_size n = rw (e, places_length D) at l in
      let inside = live_below D.table _ (place_live D k low) in
      let long = S.long in
      rw (e, places_at D k low) (omega arith)

  module _ (good : good_cell n t (cell_of n t d) ≡ true) where
    place_right : (k : ℕ) → k < cell_size n → in_wrong_cell n t (place n t d k) ≡ false
    place_right k l =
        let T = D.table in
        let same = cell_same T d (place n t d k) D.lives (place_in T d D.lives k l) in
        wrong_live n t _ (place_live D k l) ∙ ap not (ap (good_cell n t) same ∙ good)

    seen_places : SeenGood n t (seen_with seen (places n t d))
    unfolding places tabulate
    seen_places = record {
      long = let same = seen_length seen (places n t d) in let long = S.long in omega arith;
      good = λ x l h. ⊎_elim (S.good x l)
          (λ i. let (k, _, low, e) = in_tab (place n t d) (cell_size n) 0 x i in rw e (place_right k (omega arith)))
          (seen_cases seen (places n t d) x h);
    }

    pub seen_listed : (cell new : List ℕ) → cell ≡ places n t d → new ≡ seen_with seen cell → SeenGood n t new
    seen_listed cell new e f = rw (f, e) seen_places

-- ---- the visit of a dart that is not seen, in the dimension m that n is

module _ {n m : ℕ} {t : List ℕ} (d : ℕ) (seen : List ℕ) (same : n ≡ m) (lives : live t d ≡ true) where
  pub visit_ready : MapTable n t → SeenGood n t seen → MapDart m t d × SeenGood m t seen
  visit_ready T S = (record { table = rw same at T; lives = lives }, rw same at S)

  pub visit_answers : (r : Bool) → (r ≡ good_cell m t (cell_of m t d)) × SeenGood m t seen
      → (not r ≡ in_wrong_cell n t d) × SeenGood n t seen
  visit_answers r (e, S) = rw same (ap not e ∙ sym (wrong_live m t d lives), S)
