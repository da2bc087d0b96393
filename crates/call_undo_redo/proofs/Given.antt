-- What the map test behind a step asks: `put_given`.
use Prim.Native.Nat.{ℕ}
use mathlib.Core.Path.{◌≡◌}
use mathlib.Core.Bool.{Bool}
use mathlib.Core.List.{List}
use Rattle.model.specs.Journal.{Change, put}
use Rattle.model.specs.Checks.{pass, table_ok}
use Rattle.journal.proofs.Puts.{put_length}

-- a table keeps its length where a record is put
pub put_given : (redo : Bool) (cs : List Change) (t t' : List ℕ) → t' ≡ put redo cs t → table_ok t ≡ pass → table_ok t' ≡ pass
unfolding table_ok
put_given redo cs t t' done h = rw (done, put_length redo cs t) h
