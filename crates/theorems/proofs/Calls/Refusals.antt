-- When a number is given, by the checks before it. `given_exactly`: of any call, by a check that has its number alone.
-- `sew_12_exactly`: no pairing exists. `split_13_exactly`: some g in S has g.1 in S. `undo_17_exactly`, `redo_17_exactly`: record
-- broken, or result no map. `insert_28_exactly` to `insert_32_exactly`: what is wrong with the wall. `vtk_18_exactly` to `vtk_23_exactly`: what
-- is wrong with the table or the text.
use Prim.Native.Nat.{ℕ, ◌<◌}
use mathlib.Core.Path.{◌≡◌, refl, sym, ap, ◌∙◌}
use mathlib.Core.Logic.{◌⊎◌, ◌≢◌, ◌↔◌, ⊎_elim}
use mathlib.Core.Bool.{true, false}
use mathlib.Core.List.Memᴰ.{eq_of_singleton as sole}
use mathlib.Core.List.{List, [], ◌∷◌, ◌++◌}
use native.Mathlib.Omega.{arith}
use lib.ListN.{length, take, drop}
use Rattle.model.specs.Lists.{index_of}
use Rattle.model.specs.Table.{slots, link, live}
use Rattle.model.specs.Sheet.{sheet}
use Rattle.model.specs.Wall.{wall_reached}
use Rattle.model.specs.Vtk.{Grid, grid_of, rows_in, types_in}
use Rattle.model.specs.Journal.{cursor}
use Rattle.model.specs.Checks.{Check, pass, refuse, and_then, in_order, undo_ok, redo_ok}
use Rattle.model.specs.Checks.{map_checks, sides_checks, layer_checks, split_checks, wall_checks, insert_checks, grid_checks, vtk_checks, step_checks}
use Rattle.model.specs.Calls.{Outcome, refused, sew_call, split_call, insert_call, vtk_call, undo_call, redo_call}
use Rattle.model.specs.Runs.{Op, Call, do_call, keeping}
use Rattle.model.specs.Meaning.Lists.{member}
use Rattle.model.specs.Meaning.Ends.{lent, checks_of, checks, op_numbers, numbers, undo_count, undo_start, redo_count}
use Rattle.model.specs.Meaning.Numbers.{StepFails}
use Rattle.model.specs.Meaning.Pairings.{Pairing}
use Rattle.model.specs.Meaning.Sets.{Marked}
use Rattle.model.specs.Meaning.Walls.{BadMark, Leaves, Needed}
use Rattle.model.specs.Meaning.Vtk.{OfForm, OtherType, Repeated, ThreeCells, OtherCycle}
use Rattle.theorems.proofs.Calls.Checks.{passed_at, append_passed, append_refused, passed_or_refused, same_refusal}
use Rattle.theorems.proofs.Calls.Checks.{Numbers, not_in, numbers_before, numbers_behind, refusal_says, call_numbers}
use Rattle.theorems.proofs.Calls.Pass.{dim_pass, sides_passed, wall_drawn}
use Rattle.theorems.proofs.Calls.Fails.{pairing_fails, crossing_fails, step_fails}
use Rattle.theorems.proofs.Calls.Fails.{drawn_fails, enclosed_fails, sewn_wall_fails, turns_fails, connected_fails}
use Rattle.theorems.proofs.Calls.Fails.{empty_fails, form_fails, types_fails, vertices_fails, sharing_fails, order_fails}
use Rattle.theorems.proofs.Calls.Ends.{call_ends, call_refused}

-- ---- one check among others

-- the check `own`, and no other, has the number z
record Alone (n : ℕ) (t j : List ℕ) (z : ℕ) (before : List Check) (own : Check) (behind : List Check) : Type 0 where
  listed : List ℕ
  numbered : Numbers n t j listed (before ++ (own ∷ behind))
  not_before : member (take (length before) listed) z ≡ false
  here : take 1 (drop (length before) listed) ≡ z ∷ []
  not_behind : member (drop 1 (drop (length before) listed)) z ≡ false

-- a refusal by z is its own: those before pass, and it fails; and back
module _ {n : ℕ} {t j : List ℕ} {z : ℕ} {before : List Check} {own : Check} {behind : List Check}
    (alone : Alone n t j z before own behind) where
  abbrev Refused : Type 0
  Refused = (p : ℕ) × (q : ℕ) × (in_order (before ++ (own ∷ behind)) ≡ refuse z p q)

  from_own : Numbers n t j (drop (length before) alone.listed) (own ∷ behind)
  from_own = numbers_behind before (own ∷ behind) alone.numbered

  before_passed : Refused → in_order before ≡ pass
  before_passed r = ⊎_elim (λ e. e) (λ w.
      let (k, p, q, e) = w in
      let i = (refusal_says before (numbers_before before (own ∷ behind) alone.numbered) k p q e).0 in
      let number = same_refusal (λ k p q. k) (sym (append_refused before (own ∷ behind) e) ∙ r.2) in
      absurd (not_in _ z alone.not_before k i number))
      (passed_or_refused (in_order before))

  own_failed : Refused → own ≢ pass
  unfolding in_order and_then
  own_failed r h =
      let own_passed : in_order (own ∷ []) ≡ pass = rw h in
      let e = sym (append_passed before (own ∷ behind) (before_passed r) ∙ append_passed (own ∷ []) behind own_passed) ∙ r.2 in
      not_in _ z alone.not_behind z (refusal_says behind (numbers_behind (own ∷ []) behind from_own) z r.0 r.1 e).0 refl

  own_refuses : in_order before ≡ pass → own ≢ pass → Refused
  unfolding in_order and_then
  own_refuses h failed = ⊎_elim (λ e. absurd (failed e)) (λ w.
      let (k, p, q, is) = w in
      let own_refused : in_order (own ∷ []) ≡ refuse k p q = rw is in
      let i = (refusal_says (own ∷ []) (numbers_before (own ∷ []) behind from_own) k p q own_refused).0 in
      let e = append_passed before (own ∷ behind) h ∙ append_refused (own ∷ []) behind own_refused in
      (p, q, e ∙ ap (λ (k : ℕ). refuse k p q) (sole (rw alone.here at i))))
      (passed_or_refused own)

-- ---- of a call

module _ (n : ℕ) (o : Outcome) (c : Call) (z : ℕ) (Some-number : z ≢ 0) where
  -- another number than 0 is that of the first check that fails
  number_refused : ((do_call n o c).number ≡ z) ↔ ((p : ℕ) × (q : ℕ) × (in_order (checks n o c) ≡ refuse z p q))
  unfolding refused
  number_refused = (
    λ h.
        let (p, q, e, _) = call_refused n o c (λ q. Some-number (sym h ∙ q)) in
        (p, q, e ∙ ap (λ (k : ℕ). refuse k p q) h),
    λ r. ap (λ (x : Outcome). x.number) ((call_ends n o c).refuses z r.0 r.1 r.2),
  )

  -- the check `own`, and no other, has the number z, and fails exactly if P, where those before pass
  pub given_exactly : {P : Type 0} (before : List Check) (own : Check) (behind : List Check)
      → checks n o c ≡ before ++ (own ∷ behind)
      → member (take (length before) (numbers c)) z ≡ false
      → take 1 (drop (length before) (numbers c)) ≡ z ∷ []
      → member (drop 1 (drop (length before) (numbers c))) z ≡ false
      → (in_order before ≡ pass → (own ≢ pass) ↔ P)
      → ((do_call n o c).number ≡ z) ↔ ((in_order before ≡ pass) × P)
  given_exactly before own behind is not_before here not_behind says =
      let alone : Alone n o.table o.journal z before own behind = record {
        listed = numbers c;
        numbered = rw is at (call_numbers n o c);
        not_before = not_before;
        here = here;
        not_behind = not_behind;
      } in (
        λ h. let r = rw is at (number_refused.0 h) in
            let passed = before_passed alone r in
            (passed, (says passed).0 (own_failed alone r)),
        λ r. number_refused.1 (rw is (own_refuses alone r.0 ((says r.0).1 r.1))),
      )

-- ---- 12, 13, 17

pub sew_12_exactly : (n : ℕ) (t j : List ℕ) (tag i d e : ℕ) → ((sew_call n t j tag i d e).number ≡ 12)
    ↔ ((in_order (sides_checks n t j i d e) ≡ pass) × (Pairing n t i d e → ⊥))
unfolding do_call keeping checks_of sides_checks map_checks member index_of
sew_12_exactly n t j tag i d e =
    given_exactly n (lent t [] j) (Call.op tag (Op.sew i d e)) 12 (λ q. omega arith) (sides_checks n t j i d e) _ _
    refl refl refl refl (λ h. pairing_fails n t i d e (sides_passed n t j i d e h))

pub split_13_exactly : (n : ℕ) (t m j : List ℕ) (tag d : ℕ) → ((split_call n t m j tag d).number ≡ 13)
    ↔ ((in_order (layer_checks n t m j d) ≡ pass) × ((g : ℕ) × Marked (sheet n t d) g × Marked (sheet n t d) (link t 1 g)))
unfolding do_call checks_of layer_checks map_checks split_checks member index_of
split_13_exactly n t m j tag d =
    given_exactly n (lent t m j) (Call.op tag (Op.split d)) 13 (λ q. omega arith) (layer_checks n t m j d) _ _ refl refl refl refl
    (λ h. crossing_fails t (sheet n t d))

pub undo_17_exactly : (n : ℕ) (t j : List ℕ) → ((undo_call n t j).number ≡ 17)
    ↔ ((in_order (step_checks n t j (undo_ok j)) ≡ pass) × StepFails false n t j (undo_start j) (undo_count j))
unfolding do_call keeping checks_of step_checks map_checks member index_of
undo_17_exactly n t j =
    given_exactly n (lent t [] j) Call.undo 17 (λ q. omega arith) (step_checks n t j (undo_ok j)) _ [] refl refl refl refl
    (λ h. step_fails false n t j _ _ (dim_pass n (passed_at _ h 0)))

pub redo_17_exactly : (n : ℕ) (t j : List ℕ) → ((redo_call n t j).number ≡ 17)
    ↔ ((in_order (step_checks n t j (redo_ok j)) ≡ pass) × StepFails true n t j (cursor j) (redo_count j))
unfolding do_call keeping checks_of step_checks map_checks member index_of
redo_17_exactly n t j =
    given_exactly n (lent t [] j) Call.redo 17 (λ q. omega arith) (step_checks n t j (redo_ok j)) _ [] refl refl refl refl
    (λ h. step_fails true n t j _ _ (dim_pass n (passed_at _ h 0)))

-- ---- 28 to 32

module _ (n : ℕ) (t m j : List ℕ) (tag : ℕ) where
  -- the checks of insert before the one with the number z
  abbrev before : ℕ → List Check
  before z = take (index_of z (op_numbers (Op.insert m))) (insert_checks n t m j)

  pub insert_28_exactly : ((insert_call n t m j tag).number ≡ 28)
      ↔ ((in_order (before 28) ≡ pass) × ((d : ℕ) × (d < slots t) × BadMark t m d))
  unfolding do_call keeping checks_of insert_checks wall_checks map_checks member index_of
  insert_28_exactly =
      given_exactly n (lent t [] j) (Call.op tag (Op.insert m)) 28 (λ q. omega arith) (before 28) _ _ refl refl refl refl
      (λ h. drawn_fails t m)

  pub insert_29_exactly : ((insert_call n t m j tag).number ≡ 29)
      ↔ ((in_order (before 29) ≡ pass) × (((h : ℕ) → Marked m h → ⊥) ⊎ ((h : ℕ) × Marked m h × Leaves n t m h)))
  unfolding do_call keeping checks_of insert_checks wall_checks map_checks member index_of
  insert_29_exactly =
      given_exactly n (lent t [] j) (Call.op tag (Op.insert m)) 29 (λ q. omega arith) (before 29) _ _ refl refl refl refl
      (λ h. enclosed_fails n t m)

  pub insert_30_exactly : ((insert_call n t m j tag).number ≡ 30)
      ↔ ((in_order (before 30) ≡ pass) × ((h : ℕ) × Marked m h × (link t n h ≡ h)))
  unfolding do_call keeping checks_of insert_checks wall_checks map_checks member index_of
  insert_30_exactly =
      given_exactly n (lent t [] j) (Call.op tag (Op.insert m)) 30 (λ q. omega arith) (before 30) _ _ refl refl refl refl
      (λ h. sewn_wall_fails n t m)

  pub insert_31_exactly : ((insert_call n t m j tag).number ≡ 31)
      ↔ ((in_order (before 31) ≡ pass) × ((h : ℕ) × Marked m h × (Needed n t m h → ⊥)))
  unfolding do_call keeping checks_of insert_checks wall_checks map_checks member index_of
  insert_31_exactly =
      given_exactly n (lent t [] j) (Call.op tag (Op.insert m)) 31 (λ q. omega arith) (before 31) _ _ refl refl refl refl
      (λ h. turns_fails n t m (wall_drawn n t j m _ h))

  pub insert_32_exactly : ((insert_call n t m j tag).number ≡ 32)
      ↔ ((in_order (before 32) ≡ pass) × ((h : ℕ) × Marked m h × (Marked (wall_reached n t m) h → ⊥)))
  unfolding do_call keeping checks_of insert_checks wall_checks map_checks member index_of
  insert_32_exactly =
      given_exactly n (lent t [] j) (Call.op tag (Op.insert m)) 32 (λ q. omega arith) (before 32) _ _ refl refl refl refl
      (λ h. connected_fails n t m)

-- ---- 18 to 23

module _ (n : ℕ) (t j : List ℕ) (tag : ℕ) (text : List ℕ) where
  -- the checks of a read before the one with the number z
  abbrev before_read : ℕ → List Check
  before_read z = take (index_of z (op_numbers (Op.vtk text))) (vtk_checks n t j (grid_of text))

  pub vtk_18_exactly : ((vtk_call n t j tag text).number ≡ 18)
      ↔ ((in_order (before_read 18) ≡ pass) × ((d : ℕ) × (d < slots t) × (live t d ≡ true)))
  unfolding do_call keeping checks_of vtk_checks grid_checks map_checks member index_of
  vtk_18_exactly =
      given_exactly n (lent t [] j) (Call.op tag (Op.vtk text)) 18 (λ q. omega arith) (before_read 18) _ _ refl refl refl refl
      (λ h. empty_fails t)

  pub vtk_19_exactly : ((vtk_call n t j tag text).number ≡ 19)
      ↔ ((in_order (before_read 19) ≡ pass) × ((g : Grid) → OfForm text g → ⊥))
  unfolding do_call keeping checks_of vtk_checks grid_checks map_checks member index_of
  vtk_19_exactly =
      given_exactly n (lent t [] j) (Call.op tag (Op.vtk text)) 19 (λ q. omega arith) (before_read 19) _ _ refl refl refl refl
      (λ h. form_fails text)

  pub vtk_20_exactly : ((vtk_call n t j tag text).number ≡ 20)
      ↔ ((in_order (before_read 20) ≡ pass) × OtherType (types_in (grid_of text)))
  unfolding do_call keeping checks_of vtk_checks grid_checks map_checks member index_of
  vtk_20_exactly =
      given_exactly n (lent t [] j) (Call.op tag (Op.vtk text)) 20 (λ q. omega arith) (before_read 20) _ _ refl refl refl refl
      (λ h. types_fails (types_in (grid_of text)))

  pub vtk_21_exactly : ((vtk_call n t j tag text).number ≡ 21)
      ↔ ((in_order (before_read 21) ≡ pass) × Repeated (rows_in (grid_of text)))
  unfolding do_call keeping checks_of vtk_checks grid_checks map_checks member index_of
  vtk_21_exactly =
      given_exactly n (lent t [] j) (Call.op tag (Op.vtk text)) 21 (λ q. omega arith) (before_read 21) _ _ refl refl refl refl
      (λ h. vertices_fails (rows_in (grid_of text)))

  pub vtk_22_exactly : ((vtk_call n t j tag text).number ≡ 22)
      ↔ ((in_order (before_read 22) ≡ pass) × ThreeCells (rows_in (grid_of text)))
  unfolding do_call keeping checks_of vtk_checks grid_checks map_checks member index_of
  vtk_22_exactly =
      given_exactly n (lent t [] j) (Call.op tag (Op.vtk text)) 22 (λ q. omega arith) (before_read 22) _ _ refl refl refl refl
      (λ h. sharing_fails (rows_in (grid_of text)))

  pub vtk_23_exactly : ((vtk_call n t j tag text).number ≡ 23)
      ↔ ((in_order (before_read 23) ≡ pass) × OtherCycle (rows_in (grid_of text)))
  unfolding do_call keeping checks_of vtk_checks grid_checks map_checks member index_of
  vtk_23_exactly =
      given_exactly n (lent t [] j) (Call.op tag (Op.vtk text)) 23 (λ q. omega arith) (before_read 23) _ _ refl refl refl refl
      (λ h. order_fails (rows_in (grid_of text)))
