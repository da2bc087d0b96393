-- `sheets::sheet` meets its contract.
use mathlib.Core.Path.{ap, ◌∙◌}
use Prim.Native.Nat.{ℕ}
use lib.ListN.{replicate}
use Rattle.sheets.proofs.sheet.Goals as goal

pub flood-requires : goal.flood-requires
flood-requires c =
    (c.requires.0, c.clear.ensures ∙ ap (λ (n : ℕ). replicate n 0) c.requires.1, c.requires.2)
