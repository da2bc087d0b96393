-- Marked darts that link i sews and unsew frees: a table and the one in which they are free (`Freed`), and the record of the change
-- from the one to the other (`MarkedRecord`).
use Rattle.std.specs.Prelude.{ℕ, ◌*◌, ◌≤◌, ◌<◌, ◌≡◌, ◌≢◌, Bool, true, false, List, length}
use Rattle.model.specs.Table.{slots, link}
use Rattle.model.specs.Meaning.Sets.{Marked}
use Rattle.model.specs.Meaning.Numbers.{JournalRule}
use Rattle.drafts.specs.Passes.{Room, Pass}

-- in v the marked darts are i-free, in t none of them is; all else is alike
pub record Freed (t v m : List ℕ) (i : ℕ) : Type 0 where
  pub long : length v ≡ length t
  pub fits : length t ≡ 4 * slots t
  pub few : slots t ≤ 65536
  pub wide : slots t ≤ length m
  pub index : i < 4
  pub sewn : (x : ℕ) → x < slots t → Marked m x → link t i x ≢ x
  pub free : (x : ℕ) → x < slots t → Marked m x → link v i x ≡ x
  pub rest : (x : ℕ) → x < slots t → (Marked m x → ⊥) → link v i x ≡ link t i x
  pub other : (x j : ℕ) → x < slots t → j < 4 → j ≢ i → link v j x ≡ link t j x

-- the table before and the table after: where it sews, t is the one after
abbrev pub before : Bool → List ℕ → List ℕ → List ℕ
before sews t v = elim sews [ true ↦ v | false ↦ t ]

abbrev pub after : Bool → List ℕ → List ℕ → List ℕ
after sews t v = elim sews [ true ↦ t | false ↦ v ]

-- the record of that change has room in j
pub record MarkedRecord (sews : Bool) (t v m : List ℕ) (i : ℕ) (j : List ℕ) : Type 0 where
  pub freed : Freed t v m i
  pub rule : JournalRule j
  pub room : Room (before sews t v) (after sews t v) j

pub record SomeMarkedRecord (sews : Bool) (t m : List ℕ) (i : ℕ) (j : List ℕ) : Type 0 where
  pub v : List ℕ
  pub is : MarkedRecord sews t v m i j

-- ---- the pass that drafts it

-- it has met the slots below x, and its next triple is at the word `at`
pub record MarkedPass (sews : Bool) (t v m : List ℕ) (i : ℕ) (j : List ℕ) (x at : ℕ) (w : List ℕ) : Type 0 where
  pub freed : Freed t v m i
  pub few : length j ≤ 1048576
  pub pass : Pass (before sews t v) (after sews t v) j x at w

-- some such pass comes to the slot x
pub record ToMarked (sews : Bool) (t m : List ℕ) (i x at : ℕ) (w : List ℕ) : Type 0 where
  pub v : List ℕ
  pub j : List ℕ
  pub met : MarkedPass sews t v m i j x at w
  pub inside : x < slots t

-- .. and goes on to before y
pub record ToSome (sews : Bool) (t m : List ℕ) (i x y at : ℕ) (w : List ℕ) : Type 0 where
  pub v : List ℕ
  pub j : List ℕ
  pub met : MarkedPass sews t v m i j x at w
  pub onward : x ≤ y
  pub inside : y ≤ slots t
