-- The tests of a wall in their order: what they find where one fails, and where none does (`accepted`).
use Prim.Native.Nat.{ℕ}
use mathlib.Core.Path.{◌≡◌}
use mathlib.Core.Bool.{true, false}
use mathlib.Core.List.{List}
use Rattle.model.specs.Lists.{ones, all_of}
use Rattle.model.specs.Wall.{drawn, enclosed, sewn_wall, turns_well, connected}
use Rattle.model.specs.Checks.{pass, refuse, must, and_then, in_order, wall_checks, drawn_ok, enclosed_ok, sewn_wall_ok, turns_ok, connected_ok}

module _ (n : ℕ) (t m : List ℕ) where
  pub refused_28 : drawn t m ≡ false → in_order (wall_checks n t m) ≡ refuse 28 0 0
  unfolding wall_checks drawn_ok must and_then in_order
  refused_28 e = rw e

  module _ (d : drawn t m ≡ true) where
    pub refused_29 : enclosed n t m ≡ false → in_order (wall_checks n t m) ≡ refuse 29 0 0
    unfolding wall_checks drawn_ok enclosed_ok must and_then in_order
    refused_29 e = rw (d, e)

    module _ (c : enclosed n t m ≡ true) where
      pub refused_30 : sewn_wall n t m ≡ false → in_order (wall_checks n t m) ≡ refuse 30 0 0
      unfolding wall_checks drawn_ok enclosed_ok sewn_wall_ok must and_then in_order
      refused_30 e = rw (d, c, e)

      module _ (s : sewn_wall n t m ≡ true) where
        pub refused_31 : all_of (turns_well n t m) (ones m) ≡ false → in_order (wall_checks n t m) ≡ refuse 31 0 0
        unfolding wall_checks drawn_ok enclosed_ok sewn_wall_ok turns_ok must and_then in_order
        refused_31 e = rw (d, c, s, e)

        module _ (w : all_of (turns_well n t m) (ones m) ≡ true) where
          pub refused_32 : connected n t m ≡ false → in_order (wall_checks n t m) ≡ refuse 32 0 0
          unfolding wall_checks drawn_ok enclosed_ok sewn_wall_ok turns_ok connected_ok must and_then in_order
          refused_32 e = rw (d, c, s, w, e)

          pub accepted : connected n t m ≡ true → in_order (wall_checks n t m) ≡ pass
          unfolding wall_checks drawn_ok enclosed_ok sewn_wall_ok turns_ok connected_ok must and_then in_order
          accepted e = rw (d, c, s, w, e)
