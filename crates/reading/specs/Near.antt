-- The rules of a map at a slot in a form that reads only the slots it is linked with: d.i.i = d, and d.i.j = d.j.i in place
-- of the walk i, j, i, j. Over all slots together they are the rules of 01 (proofs/Neighbours.antt). At one slot they are
-- not: the least slot that breaks one may be another.
use Rattle.std.specs.Prelude.{ℕ, ◌<◌, ◌≡◌, Bool, true, false, ◌&&◌, List, eqb}
use Rattle.model.specs.Table.{link, live}

-- a test of the links 0 to 3
abbrev pub four : (ℕ → Bool) → Bool
four p = p 0 && p 1 && p 2 && p 3

-- the rules at a slot, from a test of each link, a test of each pair i+2 <= j <= n, and a test for n = 2
unfoldable pub rules : ℕ → (ℕ → Bool) → (ℕ → ℕ → Bool) → Bool → Bool
rules n one two flat = four one && two 0 2 && elim (eqb n 2) [ true ↦ flat | false ↦ two 0 3 && two 1 3 ]

-- d.i.i = d
unfoldable pub turned : List ℕ → ℕ → ℕ → Bool
turned t d i = eqb (link t i (link t i d)) d

-- d.i.j = d.j.i
unfoldable pub commutes : List ℕ → ℕ → ℕ → ℕ → Bool
commutes t d i j = eqb (link t j (link t i d)) (link t i (link t j d))

unfoldable pub near_rules : ℕ → List ℕ → ℕ → Bool
near_rules n t d = rules n (turned t d) (commutes t d) (eqb (link t 3 d) d)

-- d is unused, or keeps the rules in this form
unfoldable pub keeps_near : ℕ → List ℕ → ℕ → Bool
keeps_near n t d = elim (live t d) [ true ↦ near_rules n t d | false ↦ true ]

-- a, b, c and e are the links of d
pub record Row (t : List ℕ) (d a b c e : ℕ) : Type 0 where
  pub a_is : a ≡ link t 0 d
  pub b_is : b ≡ link t 1 d
  pub c_is : c ≡ link t 2 d
  pub e_is : e ≡ link t 3 d

-- a, b, c and e are below s
pub record Below (s a b c e : ℕ) : Type 0 where
  pub a_in : a < s
  pub b_in : b < s
  pub c_in : c < s
  pub e_in : e < s
