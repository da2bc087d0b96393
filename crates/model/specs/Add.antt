-- add: "one free cell in the lowest unused slots, its k-th dart in the k-th of them."
use Rattle.std.specs.Prelude.{ℕ, true, false, List, length, get_or, take, ltb}
use Rattle.model.specs.Lists.{index_of}
use Rattle.model.specs.Table.{unused, link, unused_slots, retable}
use Rattle.model.specs.Cell.{cell_size}
use Rattle.model.specs.Numbering.{cell_link}

-- the lowest unused slots, as many as a cell has darts, or all where they are fewer
unfoldable pub add_slots : ℕ → List ℕ → List ℕ
add_slots n t = take (cell_size n) (unused_slots t)

-- link i of d, where fs are the slots of the new cell
unfoldable pub added_link : ℕ → List ℕ → List ℕ → ℕ → ℕ → ℕ
added_link n t fs d i =
    let k = index_of d fs in
    elim (ltb k (length fs)) [ true ↦ get_or fs (cell_link n i k) unused | false ↦ link t i d ]

unfoldable pub added : ℕ → List ℕ → List ℕ → List ℕ
added n t fs = retable t (added_link n t fs)

unfoldable pub add_table : ℕ → List ℕ → List ℕ
add_table n t = added n t (add_slots n t)
