-- Journal: "lent u32 words, 2 to 1,048,576. Word 0 is the cursor, word 1 the end; 2 <= cursor <= end <= length."
-- "A record has k, then k triples (table entry, old value, new value) by strictly rising entry, then k again"; 02, R-11: "Each
-- record gets a u32 tag from the caller .. after its first count, so it has 3k+3 words".
use Rattle.std.specs.Prelude.{ℕ, zero, suc, ◌+◌, ◌*◌, Bool, true, false, not, ◌&&◌, List, [], ◌∷◌, ◌++◌, length, get_or, set, take, drop, leb, ltb, eqb}

unfoldable pub cursor : List ℕ → ℕ
cursor j = get_or j 0 0

unfoldable pub end : List ℕ → ℕ
end j = get_or j 1 0

-- ---- a record

-- a triple
pub record Change : Type 0 where
  pub entry : ℕ
  pub old : ℕ
  pub new : ℕ

-- "every entry whose value changed", rising; the lists are those from the entry e on
unfoldable pub changes_from : ℕ → List ℕ → List ℕ → List Change
changes_from e [] ys = []
changes_from e (x ∷ xs) [] = []
changes_from e (x ∷ xs) (y ∷ ys) =
    elim (eqb x y) [
      | true ↦ changes_from (suc e) xs ys
      | false ↦ record { entry = e; old = x; new = y } ∷ changes_from (suc e) xs ys
    ]

unfoldable pub triples : List Change → List ℕ
triples [] = []
triples (c ∷ cs) = c.entry ∷ c.old ∷ c.new ∷ triples cs

-- the record of these changes, with a tag
unfoldable pub record_of : ℕ → List Change → List ℕ
record_of tag cs = length cs ∷ tag ∷ triples cs ++ (length cs ∷ [])

-- the words of a record of k changes
abbrev pub record_length : ℕ → ℕ
record_length k = 3 * k + 3

-- the record is written at the cursor; "cursor and end go behind it"; "Other journal words stay."
unfoldable pub written : List ℕ → List ℕ → List ℕ
written j r =
    let c = cursor j in
    let e = c + length r in
    set (set (take c j ++ r ++ drop e j) 0 e) 1 e

-- ---- undo and redo

-- k triples of a list of words
unfoldable pub read_changes : ℕ → List ℕ → List Change
read_changes zero ws = []
read_changes (suc k) ws = record { entry = get_or ws 0 0; old = get_or ws 1 0; new = get_or ws 2 0 } ∷ read_changes k (drop 3 ws)

-- the k triples of the record at the word a, and its tag
unfoldable pub changes_at : List ℕ → ℕ → ℕ → List Change
changes_at j a k = read_changes k (drop (a + 2) j)

unfoldable pub tag_at : List ℕ → ℕ → ℕ
tag_at j a = get_or j (a + 1) 0

unfoldable pub put_new : List Change → List ℕ → List ℕ
put_new [] t = t
put_new (c ∷ cs) t = put_new cs (set t c.entry c.new)

unfoldable pub put_old : List Change → List ℕ → List ℕ
put_old [] t = t
put_old (c ∷ cs) t = put_old cs (set t c.entry c.old)

-- "put back old, or new, values": the new ones where redo is true
unfoldable pub put : Bool → List Change → List ℕ → List ℕ
put true cs t = put_new cs t
put false cs t = put_old cs t

-- not "an entry isn't rising or lies past the table, old = new, or the table doesn't hold the value to be replaced";
-- the entries rise from e on
unfoldable pub sound : Bool → List ℕ → ℕ → List Change → Bool
sound redo t e [] = true
sound redo t e (c ∷ cs) =
    leb e c.entry && ltb c.entry (length t) && not (eqb c.old c.new)
    && eqb (get_or t c.entry 0) (elim redo [ true ↦ c.old | false ↦ c.new ])
    && sound redo t (suc c.entry) cs

-- of the record of k changes at the word a: not "its two counts differ, k is 0, it passes 2 or the end", and `sound`
unfoldable pub unbroken : Bool → List ℕ → List ℕ → ℕ → ℕ → Bool
unbroken redo t j a k =
    not (eqb k 0) && leb 2 a && leb (a + record_length k) (end j) && eqb (get_or j a 0) (get_or j (a + (3 * k + 2)) 0)
    && sound redo t 0 (changes_at j a k)
