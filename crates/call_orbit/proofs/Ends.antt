-- How orbit ends, from its checks: `orbit_refused`, `orbit_accepted`; and what they say when they pass: `orbit_table`, `orbit_given`.
use Prim.Native.Nat.{ℕ, ◌+◌, ◌^◌, ◌≤◌, ◌<◌}
use mathlib.Core.Path.{◌≡◌}
use mathlib.Core.List.{List, []}
use lib.ListN.{length}
use Rattle.model.specs.Lists.{count}
use Rattle.model.specs.Table.{slots}
use Rattle.model.specs.Orbit.{orbit, orbit_place}
use Rattle.model.specs.Checks.{pass, in_order, table_ok, map_checks, orbit_checks}
use Rattle.model.specs.Calls.{refused, orbit_call}
use Rattle.theorems.proofs.Calls.Checks.{passed_at}
use Rattle.theorems.proofs.Calls.Pass.{table_of, dart_pass}
use Rattle.reach.specs.Given.{Given}
use Rattle.answers.specs.Answers.{Refused, outcome, accepted}
use Rattle.answers.proofs.Ladder.{passed_all}
use Rattle.answers.proofs.Given.{rules_given, marks_given}
use Rattle.call_orbit.proofs.Masks.{mask_bound}
use Rattle.std.specs.Prelude.{Err}
use Rattle.answers.specs.Openings.{refusing}

module _ (n : ℕ) (t m : List ℕ) (mask d : ℕ) where
  pub orbit_refused : (r : Refused) → in_order (orbit_checks n t m mask d) ≡ refusing r
      → outcome (Err r) t m [] ≡ orbit_call n t m mask d
  unfolding orbit_call refused
  orbit_refused r h = rw (h, orbit_call)

  pub orbit_accepted : {p k : ℕ} {s : List ℕ} → in_order (orbit_checks n t m mask d) ≡ pass → p ≡ orbit_place n mask
      → (s ≡ orbit n t mask d) × (k ≡ count 1 (orbit n t mask d)) → outcome (accepted p k) t s [] ≡ orbit_call n t m mask d
  unfolding orbit_call
  orbit_accepted e place reached = rw (e, orbit_call, place, reached.0, reached.1)

  pub orbit_table : in_order (orbit_checks n t m mask d) ≡ pass → table_ok t ≡ pass
  unfolding orbit_checks
  orbit_table h = passed_at (orbit_checks n t m mask d) h 1

  -- what `reach::orbit` asks
  pub orbit_given : {q : List ℕ} → in_order (orbit_checks n t m mask d) ≡ pass → slots t ≤ length q
      → Given n t m q d × (mask < 2 ^ (n + 1))
  unfolding orbit_checks map_checks
  orbit_given h room =
      let p = passed_all (orbit_checks n t m mask d) h in (
        record {
          table = table_of n t (search) (search) (rules_given n t p.1.1.1);
          long = marks_given t m (search);
          room = room;
          start = dart_pass t d (search);
        },
        mask_bound n mask (search),
      )
