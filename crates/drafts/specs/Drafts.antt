-- A record of which the triples stand already (`drafted`), and the changes below an entry (`changes_below`).
use Rattle.std.specs.Prelude.{ℕ, suc, ◌+◌, ◌*◌, List, ◌++◌, length, take, drop}
use Rattle.model.specs.Journal.{Change, cursor, changes_from, triples}

-- the journal j in which the triples of cs stand where a record at the cursor has them; all else as in j
unfoldable pub drafted : List ℕ → List Change → List ℕ
drafted j cs =
    let a = suc (suc (cursor j)) in
    take a j ++ triples cs ++ drop (a + 3 * length cs) j

-- of the changes from t to u those at the entries below e
unfoldable pub changes_below : ℕ → List ℕ → List ℕ → List Change
changes_below e t u = changes_from 0 (take e t) (take e u)
