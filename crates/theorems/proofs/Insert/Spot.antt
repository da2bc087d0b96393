-- A new cell of insert, seen from a dart h of the wall: its spots, each the role of a place of h's face on one side of the wall,
-- and the facts of its rows, all computed: the spots follow the numbering and differ (`cell_fitting`); the cell
-- holds each new dart of h (`role_held`).
use Prim.Native.Nat.{ℕ, suc, ◌<◌}
use mathlib.Core.Path.{◌≡◌, refl}
use mathlib.Core.Bool.{Bool, true, false, not, ◌&&◌, ◌||◌}
use mathlib.Core.List.{List, [], ◌∷◌}
use lib.Dec.{eqb, ltb, leb}
use borrow.Author.Tests.{eqb-true, eq-eqb}
use Rattle.model.specs.Lists.{all_below}
use Rattle.model.specs.Numbering.{cell_link}
use Rattle.model.specs.Everything.{everything}
use Rattle.model.specs.Meaning.Maps.{Dim}
use Rattle.theorems.proofs.Lists.Scan.{clash, and_l, and_r, and_i, below_at, below_both}
use Rattle.theorems.proofs.Maps.Dim.{two_cases}
use Rattle.theorems.proofs.Cells.Rows.{row_walk, small}
use Rattle.theorems.proofs.Layers.Near.{in_face}
use Rattle.theorems.proofs.Layers.Spots.{Spots, standing, holds, Fitting, Held, held, spots}
use Rattle.theorems.proofs.Insert.Role.{role_to, role_word}

-- a role, a place of the cell of h, and whether link n leads over the wall from there
pub data Spot : Type 0 where
  spot : ℕ → ℕ → Bool → Spot

-- where a word of the links 0..n-2 and n leads over the wall
unfoldable pub move_place : ℕ → List ℕ → ℕ → ℕ
move_place n [] p = p
move_place n (j ∷ w) p = move_place n w (elim (eqb j n) [ true ↦ p | false ↦ cell_link n j p ])

unfoldable pub move_side : ℕ → List ℕ → Bool → Bool
move_side n [] s = s
move_side n (j ∷ w) s = move_side n w (elim (eqb j n) [ true ↦ not s | false ↦ s ])

-- the word has links 0..n-2 and n only
unfoldable pub level : ℕ → List ℕ → Bool
level n [] = true
level n (j ∷ w) = (eqb j n || ltb (suc j) n) && level n w

unfoldable pub spot_link : ℕ → ℕ → Spot → Spot
spot_link n j (spot r p s) = spot (role_to n r j) (move_place n (role_word n r j) p) (move_side n (role_word n r j) s)

unfoldable pub valid : ℕ → Spot → Bool
valid n (spot r p s) = ltb 0 r && (leb r n && in_face n p)

same_side : Bool → Bool → Bool
same_side true b = b
same_side false b = not b

same_side_lem : (a b : Bool) → same_side a b ≡ true → a ≡ b
unfolding same_side
same_side_lem true true h = refl
same_side_lem true false h = absurd (clash h refl)
same_side_lem false true h = absurd (clash h refl)
same_side_lem false false h = refl

side_same : (a b : Bool) → a ≡ b → same_side a b ≡ true
unfolding same_side
side_same true true h = refl
side_same true false h = absurd (clash refl h)
side_same false true h = absurd (clash h refl)
side_same false false h = refl

pub same_spot : Spot → Spot → Bool
same_spot (spot r p s) (spot q o z) = eqb r q && (eqb p o && same_side s z)

pub spot_same : (r q p o : ℕ) (s z : Bool) → r ≡ q → p ≡ o → s ≡ z → spot r p s ≡ spot q o z
spot_same r q p o s z a b c = cc

pub of_same : (e f : Spot) → same_spot e f ≡ true → e ≡ f
unfolding same_spot
of_same (spot r p s) (spot q o z) h =
    let rest = and_r (eqb r q) (eqb p o && same_side s z) h in
    spot_same r q p o s z (eqb-true r q (and_l (eqb r q) (eqb p o && same_side s z) h))
    (eqb-true p o (and_l (eqb p o) (same_side s z) rest)) (same_side_lem s z (and_r (eqb p o) (same_side s z) rest))

pub to_same : (e f : Spot) → e ≡ f → same_spot e f ≡ true
unfolding same_spot
to_same (spot r p s) (spot q o z) h = and_i (eq-eqb r q (cc)) (and_i (eq-eqb p o (cc)) (side_same s z (cc)))

abbrev pub cell_spots : ℕ → Spots Spot
cell_spots n = record {
  same = same_spot;
  of_same = of_same;
  to_same = to_same;
  go = spot_link n;
  valid = valid n;
  first = spot 1 0 false;
}

-- the spot at the place k of the new cell: p(h) is at the place 0
abbrev pub spot_at : ℕ → ℕ → Spot
spot_at n k = standing n (cell_spots n) k

-- to unfold `computed` is to unfold all that the tests below compute with
computed : Unit {0}
unfolding everything spots move_place move_side level spot_link in_face valid same_spot same_side role_to role_word row_walk small
computed = tt

-- the spots follow the numbering, and differ
pub cell_fitting : (n : ℕ) → Dim n → Fitting n (cell_spots n)
unfolding computed
cell_fitting n dim = two_cases n dim (λ n. Fitting n (cell_spots n)) (record { follow = refl; apart = refl }) (record { follow = refl; apart = refl })

-- the words of the new darts' links below n
level_word : ℕ → ℕ → ℕ → Bool
level_word n r j = level n (role_word n (suc r) j)

level_words : (n : ℕ) → Dim n → all_below n (λ r. all_below n (level_word n r)) ≡ true
unfolding computed level_word
level_words n dim = two_cases n dim (λ n. all_below n (λ r. all_below n (level_word n r)) ≡ true) refl refl

pub word_level : (n : ℕ) → Dim n → (r j : ℕ) → r < n → j < n → level n (role_word n (suc r) j) ≡ true
unfolding level_word
word_level n dim = below_both (level_word n) n n (level_words n dim)

-- the cell holds each new dart of h
roles_held : (n : ℕ) → Dim n → all_below n (λ r. holds n (cell_spots n) (spot (suc r) 0 false)) ≡ true
unfolding computed
roles_held n dim = two_cases n dim (λ n. all_below n (λ r. holds n (cell_spots n) (spot (suc r) 0 false)) ≡ true) refl refl

pub role_held : (n : ℕ) → Dim n → (r : ℕ) → r < n → Held n (cell_spots n) (spot (suc r) 0 false)
role_held n dim r h =
    held n (cell_spots n) (spot (suc r) 0 false) (below_at (λ r. holds n (cell_spots n) (spot (suc r) 0 false)) n (roles_held n dim) r h)
