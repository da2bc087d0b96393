-- The darts of S, listed one by one with the places of their new darts: `placing_none`, `placing_more`, `placing_past`, and where all are listed
-- (`placing_all`).
use Prim.Native.Nat.{ℕ, zero, suc, ◌+◌, ◌-◌, ◌*◌, ◌≤◌, ◌<◌}
use mathlib.Core.Path.{◌≡◌, refl, sym, ap, ◌∙◌}
use mathlib.Core.Logic.{◌≢◌, inr}
use mathlib.Core.List.{List}
use native.Mathlib.Omega.{arith}
use lib.ListN.{length, get_or, take, set, length-set}
use lib.Seq.{take_all, get_or-set_same, get_or-set_other}
use Rattle.model.specs.Lists.{ones}
use Rattle.theorems.proofs.Lists.Scan.{if_eq, if_lt}
use Rattle.scans.specs.Clear.{Clear, Skips}
use Rattle.scans.proofs.Lowest.{Listing, listing_none, listing_more, listing_past, listing_first}
use Rattle.new_darts.specs.Placed.{Placed}

-- the ones before the slot x are listed, each with its place
pub record Placing (n : ℕ) (m : List ℕ) (x r : ℕ) (darts₀ darts places₀ places : List ℕ) : Type 0 where
  pub lists : Listing m x r darts₀ darts
  pub before : (k : ℕ) → k < r → get_or darts k 0 < x
  pub place : (k : ℕ) → k < r → get_or places (get_or darts k 0) 0 ≡ n * k
  pub wide : length places ≡ length places₀

pub placing_none : (n : ℕ) (m darts places : List ℕ) → Placing n m 0 0 darts darts places places
placing_none n m darts places = record {
  lists = listing_none m darts;
  before = λ k h. absurd (omega arith);
  place = λ k h. absurd (omega arith);
  wide = refl;
}

module _ {n : ℕ} {m : List ℕ} {x r : ℕ} {darts₀ darts places₀ places : List ℕ} (P : Placing n m x r darts₀ darts places₀ places) where
  -- a dart with the mark 1 is listed
  pub placing_more : x < length m → get_or m x 0 ≡ 1 → r < length darts → x < length places
      → Placing n m (x + 1) (r + 1) darts₀ (set darts r x) places₀ (set places x (n * r))
  placing_more low is room known = record {
    lists = listing_more P.lists low is room;
    before = λ k h. if_eq k r (λ e. rw (e, last) (omega arith)) (λ e.
        let b = P.before k (omega arith) in
        rw (front k (omega arith)) (omega arith));
    place = λ k h. if_eq k r (λ e. rw (e, last) (get_or-set_same places x (n * r) 0 known)) (λ e.
        let b = P.before k (omega arith) in
        rw (front k (omega arith)) (get_or-set_other places x (get_or darts k 0) (n * r) 0 (λ q. omega arith) ∙ P.place k (omega arith)));
    wide = length-set places x (n * r) ∙ P.wide;
  }
    where
      last : get_or (set darts r x) r 0 ≡ x
      last = get_or-set_same darts r x 0 room

      front : (k : ℕ) → k < r → get_or (set darts r x) k 0 ≡ get_or darts k 0
      front k h = get_or-set_other darts r k x 0 (λ e. omega arith)

  -- another is not
  pub placing_past : x < length m → get_or m x 0 ≢ 1 → Placing n m (x + 1) r darts₀ darts places₀ places
  placing_past low off = record {
    lists = listing_past P.lists low off;
    before = λ k h. let b = P.before k h in omega arith;
    place = P.place;
    wide = P.wide;
  }

  -- where one is missing, there is a slot left
  pub placing_left : r < length (ones m) → x < length m
  placing_left h = if_lt x (length m) (λ low. low) (λ end.
      let size = P.lists.lists.size ∙ ap (λ (k : List ℕ). length (ones k)) (take_all x m end) in
      absurd (omega arith))

  pub placing_all : (size : ℕ) → size ≡ length (ones m) → r ≡ size → Placed n (ones m) size darts₀ darts places₀ places
  placing_all size is all = record {
    front = ap (λ (k : ℕ). take k darts) (sym all) ∙ (listing_first P.lists size (omega arith) (inr (omega arith))).front
        ∙ take_all size (ones m) (omega arith);
    place = λ k h. P.place k (omega arith);
    long = P.lists.lists.long;
    wide = P.wide;
  }

placing_skips : {n : ℕ} {m : List ℕ} {x r : ℕ} {darts₀ darts places₀ places : List ℕ} (k : ℕ)
    → Placing n m x r darts₀ darts places₀ places → x + k ≤ length m → Clear m x (x + k) → r < length darts
    → length m ≤ length places → Placing n m (x + k) r darts₀ darts places₀ places
placing_skips {x = x} zero P inside clear room wide = let here : x + zero ≡ x = omega arith in rw here P
placing_skips {x = x} (suc k) P inside clear room wide =
    let next : x + suc k ≡ x + k + 1 = omega arith in
    let zero = clear (x + k) (omega arith) (omega arith) in
    rw next (placing_past (placing_skips k P (omega arith) (λ z low high. clear z low (omega arith)) room wide) (omega arith) (λ e. omega arith))

-- marks that are 0 are passed
pub placing_over : {n : ℕ} {m : List ℕ} {x y r : ℕ} {darts₀ darts places₀ places : List ℕ}
    → Placing n m x r darts₀ darts places₀ places → Skips m x y → r < length darts → length m ≤ length places
    → Placing n m y r darts₀ darts places₀ places
placing_over {x = x} {y = y} P S room wide =
    let on = S.onward in
    let within = S.within in
    let sum : x + (y - x) ≡ y = omega arith in
    rw sum at (placing_skips (y - x) P (omega arith) (λ z low high. S.clear z low (omega arith)) room wide)
