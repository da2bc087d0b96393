-- Sides that are sewn: far links, a side in a map, a pairing, and two sides that sew accepts.
use Rattle.std.specs.Prelude.{ℕ, ◌+◌, ◌≤◌, ◌≡◌, ◌⊎◌, true, List}
use Rattle.model.specs.Table.{link, live}
use Rattle.model.specs.Sew.{side, is_paired}
use Rattle.model.specs.Meaning.Maps.{MapTable}
use Rattle.model.specs.Meaning.Sets.{Marked}

-- links that lie two apart or more
abbrev pub Far : ℕ → ℕ → Type 0
Far i j = (i + 2 ≤ j) ⊎ (j + 2 ≤ i)

-- d has a side for link i: what the checks up to 7 of sew and unsew say
pub record OnSide (n : ℕ) (t : List ℕ) (i d : ℕ) : Type 0 where
  pub table : MapTable n t
  pub index : i ≤ n
  pub lives : live t d ≡ true

-- a one-to-one map of d's side onto e's side, that takes d to e and goes with the side's links
pub record Pairing (n : ℕ) (t : List ℕ) (i d e : ℕ) : Type 0 where
  pub f : ℕ → ℕ
  pub start : f d ≡ e
  pub goes : (x j : ℕ) → Marked (side n t i d) x → Far i j → j ≤ n → f (link t j x) ≡ link t j (f x)
  pub one : (x y : ℕ) → Marked (side n t i d) x → Marked (side n t i d) y → f x ≡ f y → x ≡ y
  pub into : (x : ℕ) → Marked (side n t i d) x → Marked (side n t i e) (f x)
  pub onto : (y : ℕ) → Marked (side n t i e) y → (x : ℕ) × Marked (side n t i d) x × (f x ≡ y)

-- d and e can be sewn by link i: what the checks 1 to 12 of sew say
pub record Sewable (n : ℕ) (t : List ℕ) (i d e : ℕ) : Type 0 where
  pub left : OnSide n t i d
  pub right : OnSide n t i e
  pub apart : Marked (side n t i d) e → ⊥
  pub free_left : link t i d ≡ d
  pub free_right : link t i e ≡ e
  pub paired : is_paired n t i d e ≡ true
