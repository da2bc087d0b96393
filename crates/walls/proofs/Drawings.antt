-- 28 slot by slot (`fits_over`, `fits_more`, `fits_all`, `fits_not`), and what it says of marked darts: they and their links are slots of
-- the table (`dart_in`, `entry_of`, `link_of`). 29, as the code tests it.
use Prim.Native.Nat.{ℕ, ◌+◌, ◌*◌, ◌<◌, ◌≤◌}
use mathlib.Core.Path.{◌≡◌}
use mathlib.Core.Bool.{Bool, true, false, ◌&&◌, ◌||◌}
use mathlib.Core.List.{List}
use native.Mathlib.Omega.{arith}
use lib.Dec.{eqb}
use lib.ListN.{length, get_or}
use borrow.Author.Tests.{eq-eqb, lt-ltb, le-ltb}
use Rattle.model.specs.Lists.{ones, all_below, all_from, all_of}
use Rattle.model.specs.Table.{slots, link, live}
use Rattle.model.specs.Reach.{in_set}
use Rattle.model.specs.Wall.{drawn, closed_at, enclosed}
use Rattle.model.specs.Meaning.Sets.{Marked}
use Rattle.theorems.proofs.Lists.Scan.{test, clash, if_eq, if_lt, below_at, below_of}
use Rattle.theorems.proofs.Maps.Tables.{map_table, live_below}
use Rattle.theorems.proofs.Insert.Wall.{marked_live}
use Rattle.scans.specs.Clear.{Skips}
use Rattle.reach.proofs.Meeting.{linked, link_in, entry_in}
use Rattle.walls.specs.Given.{Drawing}

-- ---- slot by slot

-- the mark of d is 0, or 1 at a live slot
abbrev pub fits_at : List ℕ → List ℕ → ℕ → Bool
fits_at t m d = eqb (get_or m d 0) 0 || (eqb (get_or m d 0) 1 && live t d)

-- the marks before x fit
abbrev pub Fits : List ℕ → List ℕ → ℕ → Type 0
Fits t m x = (d : ℕ) → d < x → fits_at t m d ≡ true

module _ (t m : List ℕ) where
  pub fits_none : Fits t m 0
  fits_none d h = absurd (omega arith)

  pub fits_more : (x : ℕ) → Fits t m x → fits_at t m x ≡ true → Fits t m (x + 1)
  fits_more x before here d h = if_eq d x (λ e. rw e here) (λ e. before d (omega arith))

  -- marks that are 0 fit
  pub fits_over : {x y : ℕ} → Fits t m x → Skips m x y → Fits t m y
  fits_over {x} {y} before S d h = if_lt d x (before d) (λ l. rw (eq-eqb (get_or m d 0) 0 (S.clear d l h)))

  pub fits_all : (x : ℕ) → slots t ≤ x → Fits t m x → drawn t m ≡ true
  unfolding drawn
  fits_all x end all = below_of (fits_at t m) (slots t) (λ d h. all d (omega arith))

  pub fits_not : (x : ℕ) → x < slots t → fits_at t m x ≡ false → drawn t m ≡ false
  unfolding drawn
  fits_not x low fails = test (all_below (slots t) (fits_at t m)) (λ e. absurd (clash (below_at (fits_at t m) (slots t) e x low) fails)) (λ e. e)

-- ---- a dart of the wall

module _ {n : ℕ} {t m : List ℕ} (D : Drawing n t m) (h : ℕ) (i : Marked m h) where
  pub dart_lives : live t h ≡ true
  dart_lives = marked_live t m D.long D.drawn h i

  pub dart_in : h < slots t
  dart_in = live_below (map_table D.table) h dart_lives

  pub entry_of : (j : ℕ) → j < 4 → 4 * h + j < length t
  entry_of j low = entry_in t (linked (map_table D.table)) h dart_lives j low

  pub link_of : (j : ℕ) → j < 4 → link t j h < slots t
  link_of j low = link_in t (linked (map_table D.table)) h dart_lives j low

-- ---- 29

module _ (n : ℕ) (t m : List ℕ) where
  pub enclosed_none : length (ones m) ≡ 0 → enclosed n t m ≡ false
  unfolding enclosed
  enclosed_none e = rw (le-ltb 0 (length (ones m)) (omega arith))

  pub enclosed_some : 0 < length (ones m) → enclosed n t m ≡ all_of (closed_at n t m) (ones m)
  unfolding enclosed
  enclosed_some h = rw (lt-ltb 0 (length (ones m)) h)

-- of one dart

module _ (t m : List ℕ) (h : ℕ) where
  abbrev on : ℕ → Bool
  on j = in_set m (link t j h)

  pub closed_flat : (on 0 && on 2) ≡ closed_at 2 t m h
  unfolding closed_at all_below all_from
  closed_flat = test (on 0) (λ e. rw (e, all_from) (test (on 2) (λ f. rw (f, all_from)) (λ f. rw (f, all_from)))) (λ e. rw (e, all_from))

  pub closed_solid : ((on 0 && on 3) && on 1) ≡ closed_at 3 t m h
  unfolding closed_at all_below all_from
  closed_solid = test (on 0)
      (λ e. rw (e, all_from) (test (on 1)
      (λ f. rw (f, all_from) (test (on 3) (λ g. rw (g, all_from)) (λ g. rw (g, all_from))))
      (λ f. rw (f, all_from) (test (on 3) (λ g. rw g) (λ g. rw g)))))
      (λ e. rw (e, all_from))
