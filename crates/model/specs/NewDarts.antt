-- New darts beside old ones, for split and insert: of darts gs, rising, each gets n new ones "in the lowest unused slots in that order".
use Rattle.std.specs.Prelude.{ℕ, ◌+◌, ◌*◌, List, length, get_or, take}
use Rattle.model.specs.Lists.{index_of}
use Rattle.model.specs.Table.{unused, unused_slots}

-- of the darts gs, rising, and the new slots fs: the new dart r of g, 0 for the first
unfoldable pub new_dart : ℕ → List ℕ → List ℕ → ℕ → ℕ → ℕ
new_dart n gs fs r g = get_or fs (n * index_of g gs + r) unused

-- the lowest unused slots, as many as the darts gs need, or all where they are fewer
unfoldable pub slots_for : ℕ → List ℕ → List ℕ → List ℕ
slots_for n t gs = take (n * length gs) (unused_slots t)
