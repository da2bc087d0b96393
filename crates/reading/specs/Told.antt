-- A slot is told by its link 0: `Told`.
use Rattle.std.specs.Prelude.{ℕ, ◌≡◌, ◌≢◌, true, List}
use Rattle.model.specs.Table.{unused, link, live}

-- link 0 tells whether a slot is live, as in a map
abbrev pub Told : List ℕ → Type 0
Told t = (x : ℕ) → live t x ≡ true → link t 0 x ≢ unused
