-- The listing of a cell by its places, by links from places that are listed.
-- Main definitions: `walked`, `around`, `spread`, `places`.
use Rattle.std.specs.Prelude.{ℕ, zero, suc, ◌+◌, ◌*◌, ◌-◌, ◌^◌, ◌<◌, ◌≡◌, true, List, length, get_or, set, replicate}
use Rattle.model.specs.Lists.{tabulate}
use Rattle.model.specs.Table.{link, live}
use Rattle.model.specs.Cell.{cell_size}
use Rattle.model.specs.Numbering.{cell_link}
use Rattle.model.specs.Meaning.Maps.{MapTable}
use Rattle.model.specs.Meaning.Places.{place}
use Rattle.numbering.specs.Orders.{place_of}

-- the darts of the cell of d by their places
unfoldable pub places : ℕ → List ℕ → ℕ → List ℕ
places n t d = tabulate (cell_size n) (place n t d)

-- what a listing starts with
unfoldable pub start : ℕ → ℕ → List ℕ
start n d = replicate (cell_size n) d

-- d is a live slot of a map
pub record MapDart (n : ℕ) (t : List ℕ) (d : ℕ) : Type 0 where
  pub table : MapTable n t
  pub lives : live t d ≡ true

-- a live slot of a map at each place
pub record Listing (n : ℕ) (t cell : List ℕ) : Type 0 where
  pub table : MapTable n t
  pub long : length cell ≡ cell_size n
  pub lives : (k : ℕ) → k < cell_size n → live t (get_or cell k 0) ≡ true

-- the dart that link i leads to from the place k is put at the place that the numbering says
unfoldable pub stepped : ℕ → List ℕ → ℕ → ℕ → List ℕ → List ℕ
stepped n t i k cell = set cell (cell_link n i k) (link t i (get_or cell k 0))

-- c such steps from the place k on, by links i, j, i, ..
unfoldable pub walked : ℕ → List ℕ → ℕ → ℕ → ℕ → ℕ → List ℕ → List ℕ
walked n t zero i j k cell = cell
walked n t (suc c) i j k cell = walked n t c j i (cell_link n i k) (stepped n t i k cell)

-- the five other orders at the vertex of the place k, far of them by links 1, 2, 1, ..
unfoldable pub around : List ℕ → ℕ → ℕ → List ℕ → List ℕ
around t far k cell = walked 3 t (5 - far) 2 1 k (walked 3 t far 1 2 k cell)

-- from c vertices, the vertex s and those behind it, along the axis a, in the first order that begins with it
unfoldable pub spread : List ℕ → ℕ → ℕ → ℕ → ℕ → List ℕ → List ℕ
spread t a far zero s cell = cell
spread t a far (suc c) s cell =
    spread t a far c (suc s) (around t far (place_of 3 (2 * a) (s + 2 ^ a)) (walked 3 t 1 0 0 (place_of 3 (2 * a) s) cell))
