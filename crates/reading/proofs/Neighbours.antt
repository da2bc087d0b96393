-- A table is a map exactly if each slot is unused or keeps the near rules: `near_map`, and `broken_map` for the other way.
-- A slot by the range of its links: `near_in` where all four are slots, `near_out` where one is not.
use Prim.Native.Nat.{ℕ, ◌+◌, ◌≤◌, ◌<◌}
use mathlib.Core.Path.{◌≡◌, sym, ap, ◌∙◌}
use mathlib.Core.Logic.{◌≢◌}
use mathlib.Core.Bool.{Bool, true, false, ◌&&◌}
use mathlib.Core.List.{List, [], ◌∷◌}
use native.Mathlib.Omega.{arith}
use lib.ListN.{get_or}
use lib.Dec.{eqb, ltb}
use borrow.Author.Tests.{eqb-true, eq-eqb, lt-ltb, ltb-true, not-true, not-false}
use Rattle.model.specs.Table.{unused, slots, link, live}
use Rattle.model.specs.Map.{is_map}
use Rattle.model.specs.Meaning.Maps.{Dim, Rule}
use Rattle.theorems.proofs.Lists.Scan.{test, clash}
use Rattle.theorems.proofs.Maps.Rules.{map_of, of_map, live_in, live_by}
use Rattle.reading.specs.Sized.{Sized}
use Rattle.reading.specs.Near.{four, turned, commutes, near_rules, keeps_near, Row, Below}
use Rattle.reading.proofs.Rules.{four_at, four_of, Tests, tests_of, of_tests, turned_live}

-- all four links of d are slots
abbrev pub in_range : List ℕ → ℕ → Bool
in_range t d = four (λ i. ltb (link t i d) (slots t))

module _ (s a b c e : ℕ) where
  pub below : (ltb a s && ltb b s && ltb c s && ltb e s) ≡ true → Below s a b c e
  below h = record { a_in = at 0 (omega arith); b_in = at 1 (omega arith); c_in = at 2 (omega arith); e_in = at 3 (omega arith) }
    where
      at : (i : ℕ) → i < 4 → get_or (a ∷ b ∷ c ∷ e ∷ []) i 0 < s
      at i l = ltb-true _ _ (four_at (λ i. ltb (get_or (a ∷ b ∷ c ∷ e ∷ []) i 0) s) h i l)

-- what a test of four values read at d says of d
module _ (t : List ℕ) (d a b c e : ℕ) (r : Row t d a b c e) where
  pub row_range : (v : Bool) → (ltb a (slots t) && ltb b (slots t) && ltb c (slots t) && ltb e (slots t)) ≡ v → in_range t d ≡ v
  row_range v h = rw (r.a_is, r.b_is, r.c_is, r.e_is) at h

  pub row_unused : (eqb a unused && eqb b unused && eqb c unused && eqb e unused) ≡ four (λ i. eqb (link t i d) unused)
  row_unused = rw (r.a_is, r.b_is, r.c_is, r.e_is)

module _ (n : ℕ) (t : List ℕ) (d : ℕ) where
  near_live : live t d ≡ true → keeps_near n t d ≡ near_rules n t d
  unfolding keeps_near
  near_live e = rw (e, keeps_near)

  near_unused : live t d ≡ false → keeps_near n t d ≡ true
  unfolding keeps_near
  near_unused e = rw (e, keeps_near)

module _ (n : ℕ) (t : List ℕ) (dim : Dim n) (sized : Sized t) where
  used : (x : ℕ) → x < slots t → x ≢ unused
  used x l q = let few = sized.few in omega arith

  -- ---- all slots

  pub near_map : ((d : ℕ) → d < slots t → keeps_near n t d ≡ true) → is_map n t ≡ true
  unfolding near_rules turned commutes
  near_map near = of_map n t (record {
    rule = λ d l e. record {
      goes = goes d l e;
      comes = back d e;
      cross = cross d l e;
      plane = λ q. eqb-true _ _ ((at d e).plane q);
    };
  })
    where
      at : (d : ℕ) → live t d ≡ true → Tests n (turned t d) (commutes t d) (eqb (link t 3 d) d)
      at d e = tests_of n _ _ _ dim (sym (near_live n t d e) ∙ near d (live_in t d sized.fits e))

      back : (d : ℕ) → live t d ≡ true → (i : ℕ) → i < 4 → link t i (link t i d) ≡ d
      back d e i h = eqb-true _ _ ((at d e).each i h)

      goes : (d : ℕ) → d < slots t → live t d ≡ true → (i : ℕ) → i < 4 → live t (link t i d) ≡ true
      goes d l e i h = turned_live t d i h (used d l) (back d e i h)

      cross : (d : ℕ) → d < slots t → live t d ≡ true → (i j : ℕ) → i + 2 ≤ j → j ≤ n
          → link t j (link t i (link t j (link t i d))) ≡ d
      cross d l e i j ij jn =
          let small = dim.1 in
          let swap : link t j (link t i d) ≡ link t i (link t j d) = eqb-true _ _ ((at d e).pair i j ij jn) in
          rw (swap, back (link t j d) (goes d l e j (omega arith)) i (omega arith)) (back d e j (omega arith))

  map_near : is_map n t ≡ true → (d : ℕ) → keeps_near n t d ≡ true
  unfolding near_rules turned commutes
  map_near m d = test (live t d) (λ e. near_live n t d e ∙ of_tests n _ _ _ dim (tests e)) (near_unused n t d)
    where
      rule : (x : ℕ) → live t x ≡ true → Rule n t x
      rule x e = (map_of n t dim.1 m).rule x (live_in t x sized.fits e) e

      swap : live t d ≡ true → (i j : ℕ) → i + 2 ≤ j → j ≤ n → link t j (link t i d) ≡ link t i (link t j d)
      swap e i j ij jn =
          let small = dim.1 in
          let x = link t j (link t i d) in
          let i_live = (rule d e).goes i (omega arith) in
          let x_live = (rule (link t i d) i_live).goes j (omega arith) in
          let y_live = (rule x x_live).goes i (omega arith) in
          let back = (rule (link t i x) y_live).comes j (omega arith) in
          sym ((rule x x_live).comes i (omega arith))
          ∙ ap (link t i) (sym back ∙ ap (link t j) ((rule d e).cross i j ij jn))

      tests : live t d ≡ true → Tests n (turned t d) (commutes t d) (eqb (link t 3 d) d)
      tests e = record {
        each = λ i l. eq-eqb _ _ ((rule d e).comes i l);
        pair = λ i j ij jn. eq-eqb _ _ (swap e i j ij jn);
        plane = λ q. eq-eqb _ _ ((rule d e).plane q);
      }

  pub broken_map : (d : ℕ) → keeps_near n t d ≡ false → is_map n t ≡ false
  broken_map d h = test (is_map n t) (λ m. absurd (clash (map_near m d) h)) (λ e. e)

  -- ---- one slot, by the range of its links

  pub near_in : (d : ℕ) → in_range t d ≡ true → keeps_near n t d ≡ near_rules n t d
  near_in d h =
      let l = ltb-true _ _ (four_at (λ i. ltb (link t i d) (slots t)) h 0 (omega arith)) in
      near_live n t d (live_by t d (used (link t 0 d) l))

  near_range : (d : ℕ) → d < slots t → near_rules n t d ≡ true → in_range t d ≡ true
  unfolding near_rules turned
  near_range d l q = four_of _ (λ i k.
      let back = eqb-true _ _ ((tests_of n _ _ _ dim q).each i k) in
      lt-ltb _ _ (live_in t (link t i d) sized.fits (turned_live t d i k (used d l) back)))

  pub near_out : (d : ℕ) → d < slots t → in_range t d ≡ false → four (λ i. eqb (link t i d) unused) ≡ keeps_near n t d
  unfolding live
  near_out d l h =
      test (live t d)
      (λ e. not-true _ e ∙ sym (near_live n t d e ∙ broken))
      (λ e. not-false _ e ∙ sym (near_unused n t d e))
    where
      broken : near_rules n t d ≡ false
      broken = test (near_rules n t d) (λ q. absurd (clash (near_range d l q) h)) (λ q. q)
