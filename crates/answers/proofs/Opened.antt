-- What an opening's answer says of the first checks of a call, as the model lists them: `opened_table` for check,
-- `opened_marks` for orbit, `opened_journal` for add, sew, sew_list, undo and redo, `opened_side` for unsew, `opened_sheet` for sheet,
-- `opened_layer` for remove and split, `opened_wall` for insert, `opened_solid` for read_vtk.
use Prim.Native.Nat.{ℕ}
use mathlib.Core.Path.{◌≡◌, subst}
use mathlib.Core.Bool.{Bool, true}
use mathlib.Core.List.{List, [], ◌∷◌, ◌++◌}
use Rattle.model.specs.Checks.{Check, and_then, in_order, must, dim_ok, solid_ok, table_ok, marks_ok, journal_ok, map_checks, index_ok, dart_ok, block_ok}
use Rattle.model.specs.Checks.{sheet_checks, layer_checks}
use Rattle.std.specs.Prelude.{Result}
use Rattle.refusals.specs.declared.Refused.{Refused}
use Rattle.answers.specs.Openings.{Settles, opening_checks, side_checks}
use Rattle.answers.specs.Openings.{layer_checks as opening_layer_checks, wall_checks as opening_wall_checks}

same : {r : Result (Unit {0}) Refused} {c c' : Check} → c ≡ c' → Settles r c → Settles r c'
same {r} e s = subst (Settles r) e s

module _ {r : Result (Unit {0}) Refused} (n : ℕ) (t : List ℕ) where
  pub opened_table : Settles r (in_order (opening_checks true true n t)) → Settles r (in_order (dim_ok n ∷ table_ok t ∷ map_checks n t))
  unfolding opening_checks in_order and_then must
  opened_table s = s

  -- m says whether 3 passes
  module _ (m : List ℕ) (marks : Bool) (three : must marks 3 ≡ marks_ok t m) where
    pub opened_marks : Settles r (in_order (opening_checks marks true n t))
        → Settles r (in_order (dim_ok n ∷ table_ok t ∷ marks_ok t m ∷ map_checks n t))
    unfolding opening_checks in_order and_then must
    opened_marks s = same (rw three) s

    pub opened_sheet : (d : ℕ) → Settles r (in_order (opening_layer_checks marks true n t d)) → Settles r (in_order (sheet_checks n t m d))
    unfolding opening_layer_checks opening_checks sheet_checks in_order and_then must
    opened_sheet d s = same (rw three) s

    pub opened_layer : (j : List ℕ) (journal : Bool) → must journal 4 ≡ journal_ok j → (d : ℕ)
        → Settles r (in_order (opening_layer_checks marks journal n t d)) → Settles r (in_order (layer_checks n t m j d))
    unfolding opening_layer_checks opening_checks layer_checks in_order and_then must
    opened_layer j journal four d s = same (rw (three, four)) s

    pub opened_wall : (j : List ℕ) (journal : Bool) → must journal 4 ≡ journal_ok j → Settles r (in_order (opening_wall_checks marks journal n t))
        → Settles r (in_order (dim_ok n ∷ table_ok t ∷ marks_ok t m ∷ journal_ok j ∷ (map_checks n t ++ (block_ok n t ∷ []))))
    unfolding opening_wall_checks opening_checks in_order and_then must
    opened_wall j journal four s = same (rw (three, four)) s

  module _ (j : List ℕ) (journal : Bool) (four : must journal 4 ≡ journal_ok j) where
    pub opened_journal : Settles r (in_order (opening_checks true journal n t))
        → Settles r (in_order (dim_ok n ∷ table_ok t ∷ journal_ok j ∷ map_checks n t))
    unfolding opening_checks in_order and_then must
    opened_journal s = same (rw four) s

    -- 1 passes, with n = 2 refused too
    pub opened_solid : n ≡ 3 → Settles r (in_order (opening_checks true journal n t))
        → Settles r (in_order (solid_ok n ∷ table_ok t ∷ journal_ok j ∷ map_checks n t))
    unfolding opening_checks in_order and_then must dim_ok solid_ok
    opened_solid three s = same (rw (four, three)) s

    pub opened_side : (i d : ℕ) → Settles r (in_order (side_checks journal n t i d))
        → Settles r (in_order (dim_ok n ∷ table_ok t ∷ journal_ok j ∷ (map_checks n t ++ (index_ok n i ∷ dart_ok t d ∷ []))))
    unfolding side_checks opening_checks in_order and_then must
    opened_side i d s = same (rw four) s
