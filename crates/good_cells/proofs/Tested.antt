-- The tests of a listed cell, those of its links and those of its sides, pass exactly if it is good.
-- Main theorems: `given_listing` (what they read is there); `wrong_link`, `wrong_again` and `good_by`.
use Prim.Native.Nat.{ℕ}
use mathlib.Core.Path.{◌≡◌, refl, sym, ◌∙◌}
use mathlib.Core.Bool.{Bool, true, false, ◌&&◌}
use mathlib.Core.List.{List}
use Rattle.model.specs.Cell.{cell_of, good_cell}
use Rattle.theorems.proofs.Lists.Scan.{and_l, and_r, and_i, same_test}
use Rattle.theorems.proofs.Cells.Cell.{good_chart}
use Rattle.theorems.proofs.Cells.Exact.{good_exactly}
use Rattle.cells.specs.Listing.{MapDart, Listing, places}
use Rattle.good_cells.specs.Good.{all_follow, only_first, all_straight}
use Rattle.cells.proofs.Listing.{places_listing}
use Rattle.good_cells.proofs.Good.{tests_follow, tests_other, follow_tests, other_tests}
use Rattle.good_cells.proofs.Sides.{all_straight_lem, straight_all}

module _ {n : ℕ} {t : List ℕ} {d : ℕ} (D : MapDart n t d) where
  abbrev cell : List ℕ
  cell = places n t d

  abbrev fit : Bool
  fit = all_follow n t cell

  abbrev only : Bool
  only = only_first d cell

  abbrev straight : Bool
  straight = all_straight n t cell

  listed_good : (fit && only && straight) ≡ good_cell n t (cell_of n t d)
  listed_good = same_test
      (λ h.
      let links = and_l (fit && only) _ h in
      let follow = tests_follow D (and_l fit _ links) in
      (good_exactly D.table d D.lives).1 (record {
        follow = follow;
        other = tests_other D (and_r fit _ links);
        straight = all_straight_lem D follow (and_r (fit && only) _ h);
      }))
      (λ g.
      let listed = (good_exactly D.table d D.lives).0 g in
      and_i (and_i (follow_tests D listed) (other_tests D listed))
      (straight_all D (good_chart D.table d D.lives g) listed.straight))

  -- ---- the same of what the code is given

  module _ (given : List ℕ) (is : given ≡ places n t d) where
    pub given_listing : Listing n t given
    given_listing = rw is (places_listing D)

    all_tests : (a b c : Bool) → a ≡ all_follow n t given → b ≡ only_first d given → c ≡ all_straight n t given
        → (a && b && c) ≡ good_cell n t (cell_of n t d)
    all_tests a b c e f g = rw (e, f, g, is) listed_good

    pub wrong_link : false ≡ all_follow n t given → false ≡ good_cell n t (cell_of n t d)
    wrong_link e = all_tests false _ _ e refl refl

    pub wrong_again : false ≡ only_first d given → false ≡ good_cell n t (cell_of n t d)
    wrong_again e = sym (and_false (all_follow n t given)) ∙ all_tests _ false _ refl e refl
      where
        and_false : (a : Bool) → (a && false && all_straight n t given) ≡ false
        and_false true = refl
        and_false false = refl

    pub good_by : (c : Bool) → true ≡ all_follow n t given → true ≡ only_first d given → c ≡ all_straight n t given
        → c ≡ good_cell n t (cell_of n t d)
    good_by c = all_tests true true c
