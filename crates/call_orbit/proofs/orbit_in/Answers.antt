-- `call_orbit::orbit_in` meets its contract, by `reach::orbit`.
use Rattle.model.specs.Checks.{orbit_checks, map_checks}
use Rattle.answers.proofs.Ladder.{passed_all}
use Rattle.call_orbit.proofs.Ends.{orbit_given, orbit_accepted}
use Rattle.call_orbit.proofs.orbit_in.Goals as goal

pub orbit-size-requires : goal.orbit-size-requires
orbit-size-requires c =
    let passed = c.requires.d_value in let room = c.requires.table_in_bounds in
    orbit_given _ _ _ _ _ passed room

pub orbit_place-requires : goal.orbit_place-requires
unfolding orbit_checks map_checks
orbit_place-requires c =
    let p = passed_all _ c.requires.d_value in search

pub returns : goal.returns
returns c =
    let given = c.requires in
    orbit_accepted _ _ _ _ _ given.d_value c.orbit_place.ensures c.orbit-size.ensures
