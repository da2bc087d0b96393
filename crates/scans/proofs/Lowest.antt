-- The places of the ones of a list, listed one by one (`listing_none`, `listing_more`, `listing_past`, `listing_over`) until all are passed
-- (`listing_all`) or as many are listed as are wanted (`listing_first`). The unused slots, lowest first, are such places.
use Prim.Native.Nat.{ℕ, zero, suc, ◌+◌, ◌-◌, ◌≤◌, ◌<◌}
use mathlib.Core.Path.{◌≡◌, refl, sym, ap, ◌∙◌, subst}
use mathlib.Core.Logic.{◌⊎◌, ◌↔◌, ◌≢◌, inl, inr}
use mathlib.Core.Bool.{true, false}
use mathlib.Core.List.{List, [], ◌∷◌, ◌++◌, append-nil}
use native.Mathlib.Numerals.{add-one}
use native.Mathlib.Omega.{arith}
use lib.Dec.{eqb}
use lib.ListN.{length, get_or, take, drop, set, length-append, length-set, take-append-drop}
use lib.Seq.{take-suc, take_all, take-append_seam, take-suc-set, length-take-le}
use borrow.Author.Tests.{eq-eqb, ne_eqb}
use Rattle.model.specs.Lists.{tabulate, ones_from, ones}
use Rattle.model.specs.Table.{unused, slots, link, live}
use Rattle.theorems.proofs.Lists.Scan.{test, if_eq, clash, length_tab, get_or_tab}
use Rattle.theorems.proofs.Maps.Rules.{live_by}
use Rattle.scans.specs.Clear.{Clear, Skips}
use Rattle.scans.specs.Lowest.{Lists}
use Rattle.reading.specs.Told.{Told}

-- ---- the places of the ones, one by one

ones_append : (a : ℕ) (l m : List ℕ) → ones_from a (l ++ m) ≡ ones_from a l ++ ones_from (a + length l) m
unfolding ones_from
ones_append a [] m = ap (λ (b : ℕ). ones_from b m) (omega arith)
ones_append a (x ∷ l) m =
    let next : suc a + length l ≡ a + suc (length l) = omega arith in
    let rec = ones_append (suc a) l m ∙ ap (λ (b : ℕ). ones_from (suc a) l ++ ones_from b m) next in
    test (eqb x 1) (λ e. rw (e, ones_from) (ap (λ (k : List ℕ). a ∷ k) rec)) (λ e. rw (e, ones_from) rec)

ones_more : (m : List ℕ) (x : ℕ) → x < length m
    → ones (take (x + 1) m) ≡ ones (take x m) ++ (elim (eqb (get_or m x 0) 1) [ true ↦ x ∷ [] | false ↦ [] ])
unfolding ones_from
ones_more m x low =
    let long = length-take-le x m (omega arith) in
    let at : 0 + length (take x m) ≡ x = omega arith in
    ap (λ (k : ℕ). ones (take k m)) (add-one x) ∙ ap ones (take-suc m x 0 low) ∙ ones_append 0 (take x m) (get_or m x 0 ∷ [])
    ∙ ap (λ (k : ℕ). ones (take x m) ++ ones_from k (get_or m x 0 ∷ [])) at

-- marks that are 0 add none
ones_over : (m : List ℕ) (x k : ℕ) → x + k ≤ length m → Clear m x (x + k) → ones (take (x + k) m) ≡ ones (take x m)
ones_over m x zero inside clear = let here : x + zero ≡ x = omega arith in rw here
ones_over m x (suc k) inside clear =
    let next : x + suc k ≡ x + k + 1 = omega arith in
    let here = clear (x + k) (omega arith) (omega arith) in
    ap (λ (y : ℕ). ones (take y m)) next ∙ ones_more m (x + k) (omega arith)
    ∙ rw (ne_eqb (get_or m (x + k) 0) 1 (λ e. omega arith), append-nil) (ones_over m x k (omega arith) (λ z low high. clear z low (omega arith)))

ones_front : (m : List ℕ) (x : ℕ) → take (length (ones (take x m))) (ones m) ≡ ones (take x m)
ones_front m x =
    ap (λ (k : List ℕ). take (length (ones (take x m))) (ones k)) (sym (take-append-drop x m))
    ∙ ap (take (length (ones (take x m)))) (ones_append 0 (take x m) (drop x m))
    ∙ take-append_seam (ones (take x m)) _

-- ---- listed

lists_more : {l : List ℕ} {r : ℕ} {words₀ words : List ℕ} → Lists l r words₀ words → (x : ℕ) → r < length words
    → Lists (l ++ x ∷ []) (r + 1) words₀ (set words r x)
lists_more {l} {r} {words₀} {words} L x room = record {
  size = let size = L.size in let more = length-append l (x ∷ []) in omega arith;
  front = rw add-one (take-suc-set words r x room ∙ ap (λ (m : List ℕ). m ++ (x ∷ [])) L.front);
  long = length-set words r x ∙ L.long;
}

-- the ones before the place x are listed
pub record Listing (m : List ℕ) (x r : ℕ) (words₀ words : List ℕ) : Type 0 where
  pub lists : Lists (ones (take x m)) r words₀ words
  pub few : r ≤ x

pub listing_none : (m words : List ℕ) → Listing m 0 0 words words
unfolding ones_from
listing_none m words = record { lists = record { size = refl; front = refl; long = refl }; few = omega arith }

module _ {m : List ℕ} {x r : ℕ} {words₀ words : List ℕ} (G : Listing m x r words₀ words) where
  -- a place with the mark 1 is listed
  pub listing_more : x < length m → get_or m x 0 ≡ 1 → r < length words → Listing m (x + 1) (r + 1) words₀ (set words r x)
  listing_more low is room = record {
    lists = rw (ones_more m x low, eq-eqb (get_or m x 0) 1 is) (lists_more G.lists x room);
    few = let few = G.few in omega arith;
  }

  -- another is not
  pub listing_past : x < length m → get_or m x 0 ≢ 1 → Listing m (x + 1) r words₀ words
  listing_past low off = record {
    lists = rw (ones_more m x low, ne_eqb (get_or m x 0) 1 off, append-nil) G.lists;
    few = let few = G.few in omega arith;
  }

  -- marks that are 0 are passed
  pub listing_over : {y : ℕ} → Skips m x y → Listing m y r words₀ words
  listing_over {y} S =
      let on = S.onward in
      let within = S.within in
      let sum : x + (y - x) ≡ y = omega arith in
      let same = ones_over m x (y - x) (omega arith) (λ z low high. S.clear z low (omega arith)) in
      let few = G.few in
      record { lists = rw (ap (λ (k : ℕ). ones (take k m)) (sym sum) ∙ same) G.lists; few = omega arith }

  pub listing_all : length m ≤ x → Lists (ones m) r words₀ words
  listing_all end = subst (λ (k : List ℕ). Lists (ones k) r words₀ words) (take_all x m end) G.lists

  -- all places are passed, or as many are listed as are wanted
  pub listing_first : (want : ℕ) → r ≤ want → (length m ≤ x) ⊎ (want ≤ r) → Lists (take want (ones m)) r words₀ words
  listing_first want most (inl end) =
      let L = listing_all end in
      let size = L.size in
      rw (take_all want (ones m) (omega arith)) L
  listing_first want most (inr full) =
      let size = G.lists.size in
      let is : want ≡ length (ones (take x m)) = omega arith in
      rw (is, ones_front m x) G.lists

-- ---- the unused slots

-- 1 at the unused slots
abbrev pub unused_marks : List ℕ → List ℕ
unused_marks t = tabulate (slots t) (λ d. elim (live t d) [ true ↦ 0 | false ↦ 1 ])

pub unused_long : (t : List ℕ) → length (unused_marks t) ≡ slots t
unused_long t = length_tab (λ d. elim (live t d) [ true ↦ 0 | false ↦ 1 ]) (slots t)

pub unused_mark : (t : List ℕ) → Told t → (x : ℕ) → x < slots t → (link t 0 x ≡ unused) ↔ (get_or (unused_marks t) x 0 ≡ 1)
unused_mark t told x low =
    let at = get_or_tab (λ d. elim (live t d) [ true ↦ 0 | false ↦ 1 ]) (slots t) x 0 low in
    rw at (test (live t x)
    (λ e. rw e (λ q. absurd (told x e q), λ q. absurd (omega arith)))
    (λ e. rw e (λ q. refl, λ q. if_eq (link t 0 x) unused (λ u. u) (λ u. absurd (clash (live_by t x u) e)))))
