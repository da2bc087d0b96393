-- Checks in order: where all pass, each does; else the first that fails refuses.
-- `call_numbers`: the checks of each call have the numbers of 01's table. `refusal_says`: what a refusal says by its number.
use Prim.Native.Nat.{ℕ, zero, suc}
use mathlib.Core.Path.{◌≡◌, refl, sym, ap, ◌∙◌}
use mathlib.Core.Logic.{◌⊎◌, inl, inr, ◌≢◌}
use mathlib.Core.Bool.{Bool, true, false, not, ◌||◌}
use mathlib.Core.List.Memᴰ.{cast as in-cast}
use mathlib.Core.List.{List, [], ◌∷◌, ◌++◌, Memᴰ as In}
use mathlib.Core.List.Memᴰ.{head as here}
use mathlib.Core.List.Memᴰ.{tail as there}
use mathlib.Core.Option.{Option, none, some}
use native.Mathlib.Omega.{arith}
use lib.ListN.{length, get_or, take, drop}
use borrow.Author.Tests.{ne_eqb, not-true}
use Rattle.model.specs.Lists.{index_of}
use Rattle.model.specs.Map.{MapRule, links_live, links_return, pairs_commute, stays_flat, breaking_link, least_breaking, is_map}
use Rattle.model.specs.Checks.{Check, pass, refuse, and_then, must, must_at, in_order}
use Rattle.model.specs.Checks.{dim_ok, table_ok, marks_ok, queue_ok, journal_ok, rule_number, rule_ok, map_checks, index_ok, mask_ok, dart_ok}
use Rattle.model.specs.Checks.{block_ok, apart_ok, free_ok, list_ok, list_checks}
use Rattle.model.specs.Checks.{drawn_ok, enclosed_ok, sewn_wall_ok, turns_ok, connected_ok}
use Rattle.model.specs.Checks.{sewn_ok, pairing_ok, crossing_ok, add_room_ok, new_room_ok, undo_ok, redo_ok}
use Rattle.model.specs.Checks.{check_checks, orbit_checks, sheet_checks, pick_checks, add_checks, sides_checks, unsew_checks}
use Rattle.model.specs.Checks.{layer_checks, split_checks, wall_checks, insert_checks, grid_checks, vtk_checks, step_checks}
use Rattle.model.specs.Checks.{solid_ok, empty_ok, form_ok, types_ok, vertices_ok, sharing_ok, order_ok, cells_room_ok}
use Rattle.model.specs.Vtk.{Grid, grid_of}
use Rattle.model.specs.Calls.{Outcome}
use Rattle.model.specs.Runs.{Op, Call}
use Rattle.model.specs.Meaning.Lists.{member}
use Rattle.model.specs.Meaning.Maps.{by_rule, NoRule}
use Rattle.model.specs.Meaning.Ends.{record_ok, step_ok, checks, numbers, refusal_place, refusal_count, checks_of}
use Rattle.model.specs.Meaning.SewLists.{list_numbers}
use Rattle.theorems.proofs.Lists.Ones.{in_member}
use Rattle.theorems.proofs.Lists.Scan.{clash, test, or_false}
use Rattle.theorems.proofs.Maps.Broken.{by_rule_lem}

-- ---- checks in order

pub not_pass : {A : Type 0} {k p q : ℕ} → refuse k p q ≡ pass → A
not_pass e = absurd (let z : ◌≡◌ {A = ℕ} 0 1 = cc in omega arith)

-- where all pass, each does
pub passed_at : (cs : List Check) → in_order cs ≡ pass → (i : ℕ) → get_or cs i pass ≡ pass
unfolding in_order and_then
passed_at [] h i = refl
passed_at (pass ∷ cs) h zero = refl
passed_at (pass ∷ cs) h (suc i) = passed_at cs h i
passed_at (refuse k p q ∷ cs) h i = not_pass h

-- .. so does the one with the number z, where zs are the numbers
pub passed_number : (zs : List ℕ) (cs : List Check) → in_order cs ≡ pass → (z : ℕ) → get_or cs (index_of z zs) pass ≡ pass
passed_number zs cs h z = passed_at cs h (index_of z zs)

pub passed_append : (cs ds : List Check) → in_order (cs ++ ds) ≡ pass → (in_order cs ≡ pass) × (in_order ds ≡ pass)
unfolding in_order and_then
passed_append [] ds h = (refl, h)
passed_append (pass ∷ cs) ds h = passed_append cs ds h
passed_append (refuse k p q ∷ cs) ds h = not_pass h

-- behind checks that pass, the others decide
pub append_passed : (cs ds : List Check) → in_order cs ≡ pass → in_order (cs ++ ds) ≡ in_order ds
unfolding in_order and_then
append_passed [] ds h = refl
append_passed (pass ∷ cs) ds h = append_passed cs ds h
append_passed (refuse k p q ∷ cs) ds h = not_pass h

pub append_refused : (cs ds : List Check) {k p q : ℕ} → in_order cs ≡ refuse k p q → in_order (cs ++ ds) ≡ refuse k p q
unfolding in_order and_then
append_refused [] ds h = not_pass (sym h)
append_refused (pass ∷ cs) ds h = append_refused cs ds h
append_refused (refuse x y z ∷ cs) ds h = h

-- checks that do not pass refuse
pub passed_or_refused : (c : Check) → (c ≡ pass) ⊎ ((k : ℕ) × (p : ℕ) × (q : ℕ) × (c ≡ refuse k p q))
passed_or_refused pass = inl refl
passed_or_refused (refuse k p q) = inr (k, p, q, refl)

-- a map keeps every rule
pub map_keeps : (n : ℕ) (t : List ℕ) → is_map n t ≡ true → (r : MapRule) → rule_ok n t r ≡ pass
unfolding rule_ok must_at
map_keeps n t h r = rw h

-- ---- the number of a check

-- what a refusal by the number k with the place p and the count q says of a call on the table t and the journal j
pub record Says (n : ℕ) (t j : List ℕ) (k p q : ℕ) : Type 0 where
  pub not_0 : k ≢ 0
  pub place : p ≡ refusal_place n t k
  pub count : q ≡ refusal_count n t k
  pub journal : k ≡ 4 → journal_ok j ≢ pass
  pub map : (r : MapRule) → k ≡ rule_number r → is_map n t ≡ false

-- the check has the number z
abbrev pub Numbered : ℕ → List ℕ → List ℕ → ℕ → Check → Type 0
Numbered n t j z c = (k p q : ℕ) → c ≡ refuse k p q → (k ≡ z) × Says n t j k p q

-- the checks have these numbers
infixr 5 ◌then◌
pub data Numbers (n : ℕ) (t j : List ℕ) : List ℕ → List Check → Type 0 where
  last : Numbers n t j [] []
  ◌then◌ : {z : ℕ} {c : Check} {zs : List ℕ} {cs : List Check} → Numbered n t j z c → Numbers n t j zs cs
      → Numbers n t j (z ∷ zs) (c ∷ cs)

-- a number that is not in a list differs from those that are
pub not_in : (zs : List ℕ) (z : ℕ) → member zs z ≡ false → (k : ℕ) → In k zs → k ≢ z
not_in zs z h k i e = clash (in_member zs z (in-cast (sym e) i)) h

pub same_refusal : {A : Type 0} (f : ℕ → ℕ → ℕ → A) {k p q x y z : ℕ} → refuse k p q ≡ refuse x y z → f k p q ≡ f x y z
same_refusal f e = cc

-- a check with the place 0 and the count 0
pub must_at_0 : (b : Bool) (z : ℕ) → must b z ≡ must_at b z 0 0
unfolding must must_at
must_at_0 true z = refl
must_at_0 false z = refl

-- a refusal by the number z with the place x and the count y
abbrev Is : ℕ → ℕ → ℕ → Check → Type 0
Is z x y c = (k p q : ℕ) → c ≡ refuse k p q → (k ≡ z) × (p ≡ x) × (q ≡ y)

must_at_is : (b : Bool) {z x y : ℕ} → Is z x y (must_at b z x y)
unfolding must_at
must_at_is true k p q e = not_pass (sym e)
must_at_is false k p q e = (cc, cc, cc)

must_is : (b : Bool) {z : ℕ} → Is z 0 0 (must b z)
must_is b {z} k p q e = must_at_is b k p q (sym (must_at_0 b z) ∙ e)

-- ---- the numbers of the rules of a map

by_none : (f : MapRule → ℕ) (z k : ℕ) → NoRule k → by_rule f z k ≡ z
unfolding by_rule rule_number
by_none f z k h =
    rw (ne_eqb k 5 (h links_live), by_rule, ne_eqb k 24 (h links_return), ne_eqb k 25 (h pairs_commute), ne_eqb k 26 (h stays_flat))

module _ (n : ℕ) (t : List ℕ) (k : ℕ) (none : NoRule k) where
  pub place_other : k ≢ 8 → refusal_place n t k ≡ 0
  unfolding refusal_place
  place_other b = by_none _ _ k none ∙ rw (ne_eqb k 8 b)

  pub count_other : refusal_count n t k ≡ 0
  unfolding refusal_count
  count_other = by_none _ _ k none

-- the numbers of a list are none of them
abbrev pub no_rules : List ℕ → Bool
no_rules zs = not (member zs 5 || member zs 24 || member zs 25 || member zs 26)

pub rule_not_in : (zs : List ℕ) → no_rules zs ≡ true → (r : MapRule) → member zs (rule_number r) ≡ false
unfolding rule_number
rule_not_in zs h = go
  where
    a : (member zs 5 || member zs 24 || member zs 25 || member zs 26) ≡ false
    a = not-true _ h

    b : (member zs 5 || member zs 24 || member zs 25) ≡ false
    b = (or_false (member zs 5 || member zs 24 || member zs 25) _ a).0

    c : (member zs 5 || member zs 24) ≡ false
    c = (or_false (member zs 5 || member zs 24) _ b).0

    go : (r : MapRule) → member zs (rule_number r) ≡ false
    go links_live = (or_false (member zs 5) _ c).0
    go links_return = (or_false (member zs 5) _ c).1
    go pairs_commute = (or_false (member zs 5 || member zs 24) _ b).1
    go stays_flat = (or_false (member zs 5 || member zs 24 || member zs 25) _ a).1

-- a number by itself
none_of : (z : ℕ) → no_rules (z ∷ []) ≡ true → NoRule z
none_of z h r e = clash (in_member (z ∷ []) (rule_number r) (here (sym e))) (rule_not_in (z ∷ []) h r)

pub rule_not_0 : (r : MapRule) → rule_number r ≢ 0
unfolding member index_of
rule_not_0 r e = none_of 0 refl r (sym e)

-- ---- the checks by number

module _ {n : ℕ} {t j : List ℕ} where
  -- a check that refuses by the number z; of those with the number 4 there is one, and one with that of each rule
  numbered : (c : Check) (z : ℕ) → z ≢ 0 → Is z (refusal_place n t z) (refusal_count n t z) c
      → (z ≡ 4 → c ≡ journal_ok j) → ((r : MapRule) → z ≡ rule_number r → c ≢ pass → is_map n t ≡ false) → Numbered n t j z c
  numbered c z not_0 is journal map k p q e =
      let (number, place, count) = is k p q e in
      let refused : c ≢ pass = λ h. not_pass (sym e ∙ h) in (
        number,
        record {
          not_0 = λ h. not_0 (sym number ∙ h);
          place = place ∙ ap (refusal_place n t) (sym number);
          count = count ∙ ap (refusal_count n t) (sym number);
          journal = λ h l. refused (journal (sym number ∙ h) ∙ l);
          map = λ r h. map r (sym number ∙ h) refused;
        },
      )

  -- any but 0, 4, 8 and those of the rules
  plain : (b : Bool) (z : ℕ) → member (0 ∷ 4 ∷ 8 ∷ 5 ∷ 24 ∷ 25 ∷ 26 ∷ []) z ≡ false → Numbered n t j z (must b z)
  unfolding rule_number
  plain b z h =
      let place = place_other n t z no_rule (other 8 (there (there (here refl)))) in
      let count = count_other n t z no_rule in
      numbered (must b z) z (other 0 (here refl)) (rw (place, count) (must_is b)) (λ q. absurd (other 4 (there (here refl)) q))
      (λ r q. absurd (no_rule r q))
    where
      other : (y : ℕ) → In y (0 ∷ 4 ∷ 8 ∷ 5 ∷ 24 ∷ 25 ∷ 26 ∷ []) → z ≢ y
      other y i q = not_in (0 ∷ 4 ∷ 8 ∷ 5 ∷ 24 ∷ 25 ∷ 26 ∷ []) z h y i (sym q)

      no_rule : NoRule z
      no_rule links_live = other 5 (there (there (there (here refl))))
      no_rule links_return = other 24 (there (there (there (there (here refl)))))
      no_rule pairs_commute = other 25 (there (there (there (there (there (here refl))))))
      no_rule stays_flat = other 26 (there (there (there (there (there (there (here refl)))))))

  journal_4 : Numbered n t j 4 (journal_ok j)
  unfolding journal_ok refusal_place refusal_count by_rule member index_of
  journal_4 = numbered (journal_ok j) 4 (λ q. omega arith) (must_is _) (λ q. refl) (λ r q. absurd (none_of 4 refl r q))

  block_8 : Numbered n t j 8 (block_ok n t)
  unfolding block_ok refusal_place refusal_count by_rule member index_of
  block_8 =
      numbered (block_ok n t) 8 (λ q. omega arith) (must_at_is _) (λ q. absurd (omega arith)) (λ r q. absurd (none_of 8 refl r q))

  rule_numbered : (r : MapRule) → Numbered n t j (rule_number r) (rule_ok n t r)
  rule_numbered r =
      let place : refusal_place n t (rule_number r) ≡ least_breaking n t = unfold refusal_place in by_rule_lem _ _ r in
      let count : refusal_count n t (rule_number r) ≡ breaking_link n t (least_breaking n t) r = unfold refusal_count in by_rule_lem _ _ r in
      numbered (rule_ok n t r) (rule_number r) (rule_not_0 r) (rw (place, count) (unfold rule_ok in must_at_is _))
      (λ q. absurd (none_of 4 (unfold member index_of in refl) r (sym q))) (λ _ _ refused. refused_map refused)
    where
      refused_map : rule_ok n t r ≢ pass → is_map n t ≡ false
      refused_map h = test (is_map n t) (λ e. absurd (h (map_keeps n t e r))) (λ e. e)

  form_19 : (g : Option Grid) → Numbered n t j 19 (form_ok g)
  unfolding form_ok must member index_of
  form_19 none = plain false 19 refl
  form_19 (some g) = λ k p q e. not_pass (sym e)

  -- a refusal has one of the numbers, and says what that number says
  pub refusal_says : {zs : List ℕ} (cs : List Check) → Numbers n t j zs cs → (k p q : ℕ) → in_order cs ≡ refuse k p q
      → In k zs × Says n t j k p q
  unfolding in_order and_then
  refusal_says [] w k p q e = not_pass (sym e)
  refusal_says (pass ∷ cs) (a then w) k p q e = let r = refusal_says cs w k p q e in (there r.0, r.1)
  refusal_says (refuse x y z ∷ cs) (a then w) k p q e = let r = a k p q e in (here r.0, r.1)

  -- the numbers of a part of the checks
  pub numbers_before : (cs ds : List Check) {zs : List ℕ} → Numbers n t j zs (cs ++ ds) → Numbers n t j (take (length cs) zs) cs
  numbers_before [] ds w = last
  numbers_before (c ∷ cs) ds (a then w) = a then numbers_before cs ds w

  pub numbers_behind : (cs ds : List Check) {zs : List ℕ} → Numbers n t j zs (cs ++ ds) → Numbers n t j (drop (length cs) zs) ds
  numbers_behind [] ds w = w
  numbers_behind (c ∷ cs) ds (a then w) = numbers_behind cs ds w

-- ---- the numbers of the checks of each call

module _ (n : ℕ) (o : Outcome) where
  abbrev Has : List ℕ → List Check → Type 0
  Has = Numbers n o.table o.journal

  -- the checks of a map, and those behind them
  map_then : {zs : List ℕ} {cs : List Check} → Has zs cs → Has (5 ∷ 24 ∷ 25 ∷ 26 ∷ zs) (map_checks n o.table ++ cs)
  unfolding map_checks rule_number
  map_then w =
      rule_numbered links_live then rule_numbered links_return then rule_numbered pairs_commute then rule_numbered stays_flat then w

  -- those of sew_list before any item
  pub list_numbers_lem : (l : List ℕ) → Has list_numbers (list_checks n o.table o.journal l)
  unfolding list_checks dim_ok table_ok list_ok member index_of
  list_numbers_lem l = plain _ 1 refl then plain _ 2 refl then journal_4 then map_then (plain _ 38 refl then last)

  pub call_numbers : (c : Call) → Has (numbers c) (checks n o c)
  unfolding checks_of map_checks check_checks orbit_checks sheet_checks pick_checks add_checks sides_checks unsew_checks layer_checks split_checks wall_checks insert_checks grid_checks vtk_checks step_checks dim_ok solid_ok table_ok marks_ok queue_ok index_ok mask_ok dart_ok drawn_ok enclosed_ok sewn_wall_ok turns_ok connected_ok empty_ok types_ok vertices_ok sharing_ok order_ok cells_room_ok apart_ok free_ok sewn_ok pairing_ok crossing_ok add_room_ok new_room_ok undo_ok redo_ok record_ok step_ok member index_of
  call_numbers Call.check = plain _ 1 refl then plain _ 2 refl then map_then last
  call_numbers (Call.orbit mask d) =
      plain _ 1 refl then plain _ 2 refl then plain _ 3 refl then map_then (plain _ 6 refl then plain _ 7 refl then last)
  call_numbers (Call.sheet d) =
      plain _ 1 refl then plain _ 2 refl then plain _ 3 refl then map_then (plain _ 7 refl then block_8 then last)
  call_numbers (Call.pick w d) =
      plain _ 1 refl then plain _ 2 refl then plain _ 3 refl then plain _ 37 refl then map_then (plain _ 7 refl then block_8 then last)
  call_numbers (Call.op tag Op.add) =
      plain _ 1 refl then plain _ 2 refl then journal_4 then map_then (plain _ 14 refl then plain _ 15 refl then last)
  call_numbers (Call.op tag (Op.sew i d e)) =
      plain _ 1 refl then plain _ 2 refl then journal_4 then map_then (plain _ 6 refl then plain _ 7 refl then plain _ 7 refl
      then plain _ 9 refl then plain _ 10 refl then plain _ 12 refl then plain _ 15 refl then last)
  call_numbers (Call.op tag (Op.unsew i d)) =
      plain _ 1 refl then plain _ 2 refl then journal_4 then map_then (plain _ 6 refl then plain _ 7 refl then plain _ 11 refl
      then plain _ 15 refl then last)
  call_numbers (Call.op tag (Op.remove d)) =
      plain _ 1 refl then plain _ 2 refl then plain _ 3 refl then journal_4 then map_then (plain _ 7 refl then block_8
      then plain _ 15 refl then last)
  call_numbers (Call.op tag (Op.split d)) =
      plain _ 1 refl then plain _ 2 refl then plain _ 3 refl then journal_4 then map_then (plain _ 7 refl then block_8
      then plain _ 13 refl then plain _ 14 refl then plain _ 15 refl then last)
  call_numbers (Call.op tag (Op.insert w)) =
      plain _ 1 refl then plain _ 2 refl then plain _ 3 refl then journal_4 then map_then (block_8 then plain _ 28 refl
      then plain _ 29 refl then plain _ 30 refl then plain _ 31 refl then plain _ 32 refl then plain _ 14 refl
      then plain _ 15 refl then last)
  call_numbers (Call.op tag (Op.vtk text)) =
      plain _ 1 refl then plain _ 2 refl then journal_4 then map_then (plain _ 18 refl then form_19 (grid_of text)
      then plain _ 20 refl then plain _ 21 refl then plain _ 22 refl then plain _ 23 refl then plain _ 14 refl
      then plain _ 15 refl then last)
  call_numbers Call.undo =
      plain _ 1 refl then plain _ 2 refl then journal_4 then map_then (plain _ 16 refl then plain _ 17 refl then last)
  call_numbers Call.redo =
      plain _ 1 refl then plain _ 2 refl then journal_4 then map_then (plain _ 16 refl then plain _ 17 refl then last)
