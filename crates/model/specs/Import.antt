-- The program `import`: it reads a VTK text (02, R-1) from standard input, and prints the map that the text gives, in the form of
-- R-12's input, or why it is refused.
use Rattle.std.specs.Prelude.{ℕ, zero, suc, true, false, List, [], ◌++◌, length, leb}
use Rattle.model.specs.Calls.{Outcome, vtk_call}
use Rattle.model.specs.Runs.{begin}
use Rattle.model.specs.Text.{bytes, said}
use Rattle.model.specs.Session.{answered, to_line}

-- "one `to=` line per slot": of k slots from a on
unfoldable pub to_lines : ℕ → ℕ → List ℕ → List ℕ
to_lines zero a t = []
to_lines (suc k) a t = to_line t a ++ to_lines k (suc a) t

-- "`dim=`, `slots=` and one `to=` line per slot with four links", of the first k slots
unfoldable pub map_lines : ℕ → ℕ → List ℕ → List ℕ
map_lines n k t = said (bytes "dim=") n ++ said (bytes "slots=") k ++ to_lines k 0 t

-- an accepted text gives its map, one that is refused its number, place and count
unfoldable pub told : Outcome → List ℕ
told o = elim o.number [ zero ↦ map_lines 3 o.count o.table | suc z ↦ answered o ]

-- the longest text that is read, in bytes
abbrev pub longest_text : ℕ
longest_text = 2097152

-- a table as long as any, with no live slot, and a fresh journal with room for one step
unfoldable pub imported : List ℕ → List ℕ
imported text =
    let o = begin 65536 786437 in
    elim (leb (length text) longest_text) [
      | true ↦ told (vtk_call 3 o.table o.journal 0 text)
      | false ↦ said (bytes "long=") longest_text
    ]
