-- Layers that are removed one after the other: `ShareNoCell`, of two sheets; `Parted`, of several; `RemovedInTurn`, their removals as
-- calls. `Disjoint` and `join` are of the marks of two.
use Rattle.std.specs.Prelude.{ℕ, ◌≡◌, true, false, ◌||◌, length}
use mathlib.Core.List.{List, [], ◌∷◌, Memᴰ as In}
use Rattle.model.specs.Lists.{tabulate}
use Rattle.model.specs.Table.{live}
use Rattle.model.specs.Sheet.{sheet}
use Rattle.model.specs.Remove.{marked, remove_table}
use Rattle.model.specs.Calls.{remove_call}
use Rattle.model.specs.Meaning.Sheets.{InCells}

-- ---- two sheets

-- "Two sheets that share no cell": no dart is in a cell of both
abbrev pub ShareNoCell : ℕ → List ℕ → ℕ → ℕ → Type 0
ShareNoCell n t d e = (x : ℕ) → InCells n t (sheet n t d) x → InCells n t (sheet n t e) x → ⊥

-- no dart has a mark 1 or 2 in both
abbrev pub Disjoint : List ℕ → List ℕ → Type 0
Disjoint a b = (x : ℕ) → marked a x ≡ true → marked b x ≡ true → ⊥

-- marks as long as a and b, 1 where one of these is 1 or 2
unfoldable pub join : List ℕ → List ℕ → List ℕ
join a b = tabulate (length a) (λ x. elim (marked a x || marked b x) [ true ↦ 1 | false ↦ 0 ])

-- ---- several sheets

-- these darts are live, and no two of their sheets share a cell
pub data Parted (n : ℕ) (t : List ℕ) : List ℕ → Type 0 where
  lone : Parted n t []
  with : {d : ℕ} {ds : List ℕ} → live t d ≡ true → ((e : ℕ) → In e ds → ShareNoCell n t d e) → Parted n t ds
      → Parted n t (d ∷ ds)

-- what is left of t where the sheets of these darts are removed, one after the other
unfoldable pub remove_each : ℕ → List ℕ → List ℕ → List ℕ
remove_each n t [] = t
remove_each n t (d ∷ ds) = remove_each n (remove_table n t d) ds

-- the calls that remove the sheets of these darts, one after the other, each with whatever marks, journal and tag it is given, are
-- all accepted, and of t they leave u
pub data RemovedInTurn (n : ℕ) : List ℕ → List ℕ → List ℕ → Type 0 where
  finished : {t u : List ℕ} → t ≡ u → RemovedInTurn n t [] u
  accepted : {t u : List ℕ} {d : ℕ} {ds : List ℕ} (m j : List ℕ) (tag : ℕ) → (remove_call n t m j tag d).number ≡ 0
      → RemovedInTurn n (remove_call n t m j tag d).table ds u → RemovedInTurn n t (d ∷ ds) u
