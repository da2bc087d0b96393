-- What `test` finds.
use Rattle.std.specs.Prelude.{ℕ, ◌≡◌, List, length, get_or}
use Rattle.model.specs.Lists.{ones}
use Rattle.model.specs.Wall.{next}
use Rattle.model.specs.Checks.{pass, refuse, in_order, wall_checks}
use Rattle.model.specs.Meaning.Sets.{Marked}
use Rattle.refusals.specs.declared.Reason.{Reason}
use Rattle.refusals.specs.Numbers.{number_of}

-- the wall passes; `darts` is how many it has, and nx has next of each
pub record Passes (n : ℕ) (t m nx : List ℕ) (darts : ℕ) : Type 0 where
  pub checks : in_order (wall_checks n t m) ≡ pass
  pub size : darts ≡ length (ones m)
  pub next : (h : ℕ) → Marked m h → get_or nx h 0 ≡ next n t m h

-- the reason refuses the wall
abbrev pub Refuses : ℕ → List ℕ → List ℕ → Reason → Type 0
Refuses n t m reason = in_order (wall_checks n t m) ≡ refuse (number_of reason) 0 0
