-- The wall of insert (02, R-5): "a marked set, closed under links 0..n-2 and n, with no n-free dart, connected by those links and by
-- next." Its marks are m: a dart of the wall has the mark 1.
use Rattle.std.specs.Prelude.{ℕ, zero, suc, ◌-◌, Bool, true, false, not, ◌&&◌, ◌||◌, List, [], ◌∷◌, length, get_or, ltb, eqb}
use Rattle.model.specs.Lists.{ones, all_below, all_of}
use Rattle.model.specs.Table.{slots, link, live, relink}
use Rattle.model.specs.Reach.{closure, links, in_set}

-- ---- next: "found by turning with link n-1, then n and n-1 by turns, until a wall dart is met, or a free side ends the turn"

-- the turn goes on from x, which link n-1 led to: x is no wall dart, and not n-free
unfoldable pub turns_on : ℕ → List ℕ → List ℕ → ℕ → Bool
turns_on n t m x = not (in_set m x) && not (eqb (link t n x) x)

unfoldable pub turn_from : ℕ → List ℕ → List ℕ → ℕ → ℕ → ℕ
turn_from n t m zero x = x
turn_from n t m (suc fuel) x =
    elim (turns_on n t m x) [ true ↦ turn_from n t m fuel (link t (n - 1) (link t n x)) | false ↦ x ]

-- the dart at which the turn from h ends: a wall dart, or an n-free one
unfoldable pub turn_end : ℕ → List ℕ → List ℕ → ℕ → ℕ
turn_end n t m h = turn_from n t m (slots t) (link t (n - 1) h)

unfoldable pub ends_free : ℕ → List ℕ → List ℕ → ℕ → Bool
ends_free n t m h = not (in_set m (turn_end n t m h))

-- next(h); "Where h ends free, those links to next are to the dart itself", so there it is h
unfoldable pub next : ℕ → List ℕ → List ℕ → ℕ → ℕ
next n t m h = elim (ends_free n t m h) [ true ↦ h | false ↦ turn_end n t m h ]

-- ---- the tests of the wall, by the numbers that refuse where they fail

-- 28: "mark not 0 or 1 or a marked dead slot"
unfoldable pub drawn : List ℕ → List ℕ → Bool
drawn t m = all_below (slots t) (λ d. eqb (get_or m d 0) 0 || (eqb (get_or m d 0) 1 && live t d))

-- 29: "empty or not closed", under links 0..n-2 and n
unfoldable pub closed_at : ℕ → List ℕ → List ℕ → ℕ → Bool
closed_at n t m h = all_below (suc n) (λ j. eqb j (n - 1) || in_set m (link t j h))

unfoldable pub enclosed : ℕ → List ℕ → List ℕ → Bool
enclosed n t m = ltb 0 (length (ones m)) && all_of (closed_at n t m) (ones m)

-- 30: "free side in the wall"
unfoldable pub sewn_wall : ℕ → List ℕ → List ℕ → Bool
sewn_wall n t m = all_of (λ h. not (eqb (link t n h) h)) (ones m)

-- 31: "h and h.n both end free, or next(h).n = next(h.n) and next(h) is not h.n, nor in 3D h.0 or h.0.n"
unfoldable pub both_free : ℕ → List ℕ → List ℕ → ℕ → Bool
both_free n t m h = ends_free n t m h && ends_free n t m (link t n h)

unfoldable pub next_over : ℕ → List ℕ → List ℕ → ℕ → Bool
next_over n t m h =
    not (ends_free n t m h) && not (ends_free n t m (link t n h)) && eqb (link t n (next n t m h)) (next n t m (link t n h))

unfoldable pub next_apart : ℕ → List ℕ → List ℕ → ℕ → Bool
next_apart n t m h =
    let z = next n t m h in
    not (eqb z (link t n h))
    && elim (eqb n 3) [ true ↦ not (eqb z (link t 0 h)) && not (eqb z (link t n (link t 0 h))) | false ↦ true ]

unfoldable pub turns_well : ℕ → List ℕ → List ℕ → ℕ → Bool
turns_well n t m h = both_free n t m h || (next_over n t m h && next_apart n t m h)

-- 32: "not connected": by links 0..n-2 and n and by next, which stands for link n-1 here, all is reached from the first dart
unfoldable pub wall_table : ℕ → List ℕ → List ℕ → List ℕ
wall_table n t m = relink t (n - 1) (next n t m)

unfoldable pub wall_reached : ℕ → List ℕ → List ℕ → List ℕ
wall_reached n t m = closure (wall_table n t m) (links n (λ _. true)) (get_or (ones m) 0 0 ∷ [])

unfoldable pub connected : ℕ → List ℕ → List ℕ → Bool
connected n t m = all_of (in_set (wall_reached n t m)) (ones m)
