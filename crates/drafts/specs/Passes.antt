-- A rising pass over the slots of a table t, which drafts the record of the change to a table u into a journal j: what it has met
-- (`Met`, `Pass`), what a slot's change is (`OneLink`, `FourLinks`), and the draft that it ends with (`Drafted`).
use Rattle.std.specs.Prelude.{ℕ, ◌+◌, ◌*◌, ◌≤◌, ◌<◌, ◌≡◌, ◌≢◌, List, length, get_or}
use Rattle.model.specs.Table.{slots, link}
use Rattle.model.specs.Journal.{cursor, changes_from, record_length}
use Rattle.model.specs.Meaning.Numbers.{JournalRule}
use Rattle.drafts.specs.Drafts.{drafted, changes_below}

-- in j the record of the changes from t to u has room
abbrev pub Room : (t u j : List ℕ) → Type 0
Room t u j = cursor j + record_length (length (changes_from 0 t u)) ≤ length j

-- the entries below e are met: w is j with the draft of the changes there, and `at` the word behind it
pub record Met (t u j : List ℕ) (e at : ℕ) (w : List ℕ) : Type 0 where
  pub draft : w ≡ drafted j (changes_below e t u)
  pub word : at ≡ cursor j + (3 * length (changes_below e t u) + 2)

-- the slots below x are met
pub record Pass (t u j : List ℕ) (x at : ℕ) (w : List ℕ) : Type 0 where
  pub long : length t ≡ length u
  pub fits : length t ≡ 4 * slots t
  pub few : slots t ≤ 65536
  pub room : Room t u j
  pub met : Met t u j (4 * x) at w

-- ---- the change of the slot x

-- link i alone, from old to new
pub record OneLink (t u : List ℕ) (x i old new : ℕ) : Type 0 where
  pub inside : x < slots t
  pub index : i < 4
  pub before : old ≡ link t i x
  pub after : new ≡ link u i x
  pub differ : old ≢ new
  pub others : (j : ℕ) → j < 4 → j ≢ i → link u j x ≡ link t j x

-- all four, from those of old to those of new
pub record FourLinks (t u : List ℕ) (x : ℕ) (old new : List ℕ) : Type 0 where
  pub inside : x < slots t
  pub before : (j : ℕ) → j < 4 → get_or old j 0 ≡ link t j x
  pub after : (j : ℕ) → j < 4 → get_or new j 0 ≡ link u j x
  pub differ : (j : ℕ) → j < 4 → get_or old j 0 ≢ get_or new j 0

-- some pass comes to such a slot
pub record ToLink (x i old new at : ℕ) (w : List ℕ) : Type 0 where
  pub t : List ℕ
  pub u : List ℕ
  pub j : List ℕ
  pub pass : Pass t u j x at w
  pub one : OneLink t u x i old new

pub record ToSlot (x : ℕ) (old new : List ℕ) (at : ℕ) (w : List ℕ) : Type 0 where
  pub t : List ℕ
  pub u : List ℕ
  pub j : List ℕ
  pub pass : Pass t u j x at w
  pub four : FourLinks t u x old new

-- ---- the end

-- in w the triples of the k changes from t to u are drafted into j
pub record Drafted (t u j : List ℕ) (k : ℕ) (w : List ℕ) : Type 0 where
  pub long : length t ≡ length u
  pub rule : JournalRule j
  pub room : Room t u j
  pub count : k ≡ length (changes_from 0 t u)
  pub draft : w ≡ drafted j (changes_from 0 t u)

-- of some change of t
pub record SomeDraft (t : List ℕ) (k : ℕ) (w : List ℕ) : Type 0 where
  pub u : List ℕ
  pub j : List ℕ
  pub drafted : Drafted t u j k w
