-- `number_table`: each call gives the number of the first of its rows of 01's table that is given, or 0; `narrowed_table`: of those of
-- them that may be given.
-- `list_table`: the same of sew_list before any item, and what it leaves then; `list_passes`: where none is given its checks pass.
use Prim.Native.Nat.{ℕ, ◌<◌}
use mathlib.Core.Path.{◌≡◌, refl, sym, ap, ◌∙◌, subst}
use mathlib.Core.Logic.{inl, inr, ⊎_elim, ◌≢◌, ◌↔◌}
use mathlib.Core.Bool.{Bool, true, false}
use mathlib.Core.List.{List, [], ◌∷◌, ◌++◌}
use native.Mathlib.Omega.{arith}
use Rattle.model.specs.Lists.{ones, index_of}
use Rattle.model.specs.Map.{MapRule, links_live, links_return, pairs_commute, stays_flat}
use Rattle.model.specs.Sheet.{sheet}
use Rattle.model.specs.Checks.{Check, pass, refuse, and_then, in_order, dim_ok, table_ok, marks_ok, journal_ok, rule_number, rule_ok}
use Rattle.model.specs.Checks.{map_checks, check_checks, orbit_checks, sheet_checks, pick_checks, add_checks, sides_checks, unsew_checks}
use Rattle.model.specs.Checks.{list_checks, layer_checks, split_checks, wall_checks, insert_checks, grid_checks, vtk_checks, step_checks}
use Rattle.model.specs.Checks.{solid_ok}
use Rattle.model.specs.Vtk.{grid_of, rows_in, types_in}
use Rattle.model.specs.Calls.{Outcome, refused, sew_list_call}
use Rattle.model.specs.Runs.{Op, Call, do_call}
use Rattle.model.specs.Meaning.Ends.{step_ok, lent, checks_of, checks, op_numbers, numbers, refusal_place, refusal_count}
use Rattle.model.specs.Meaning.Maps.{Dim}
use Rattle.model.specs.Meaning.Numbers.{NumberRow, First, dim_row, table_row, marks_row, journal_row, map_rows, dart_row, block_row}
use Rattle.model.specs.Meaning.Numbers.{step_row, number_rows}
use Rattle.model.specs.Meaning.SewLists.{list_rows, RefusedFirst}
use Rattle.theorems.proofs.Maps.Broken.{each_earlier}
use Rattle.theorems.proofs.Calls.Checks.{not_pass, passed_at, passed_number, passed_append, append_passed, Numbered, Numbers}
use Rattle.theorems.proofs.Calls.Checks.{◌then◌, list_numbers_lem, call_numbers, refusal_says}
use Rattle.theorems.proofs.Calls.Pass.{dim_pass, solid_pass, rules_pass, table_of, sides_passed, wall_drawn}
use Rattle.theorems.proofs.Calls.Fails.{dim_fails, table_fails, marks_fails, journal_fails, rule_fails, index_fails, mask_fails}
use Rattle.theorems.proofs.Calls.Fails.{dart_fails, block_fails, apart_fails, free_fails, sewn_fails, pairing_fails}
use Rattle.theorems.proofs.Calls.Fails.{crossing_fails, add_room_fails, new_room_fails, record_fails, undo_fails, redo_fails}
use Rattle.theorems.proofs.Calls.Fails.{queue_fails, list_fails, step_fails, drawn_fails, enclosed_fails, sewn_wall_fails, turns_fails, connected_fails}
use Rattle.theorems.proofs.Calls.Fails.{solid_fails, empty_fails, form_fails, types_fails, vertices_fails, sharing_fails, order_fails}
use Rattle.theorems.proofs.Calls.Fails.{cells_room_fails}
use Rattle.theorems.proofs.Calls.Ends.{call_ends, done_number}

-- two numbers of the first row that is given are one
first_once : (rs : List NumberRow) (y z : ℕ) → First rs y → First rs z → y ≡ z
first_once [] y z a b = a ∙ sym b
first_once (r ∷ rs) y z (inl a) (inl b) = a.1 ∙ sym b.1
first_once (r ∷ rs) y z (inl a) (inr b) = absurd (b.0 a.0)
first_once (r ∷ rs) y z (inr a) (inl b) = absurd (a.0 b.0)
first_once (r ∷ rs) y z (inr a) (inr b) = first_once rs y z a.1 b.1

-- the rows qs are the rows rs without some that are not given
infixr 5 ◌beside◌
pub data Narrows : List NumberRow → List NumberRow → Type 1 where
  nothing : Narrows [] []
  ◌beside◌ : {r : NumberRow} {rs qs : List NumberRow} → (r.given → ⊥) → Narrows rs qs → Narrows (r ∷ rs) qs
  also : {r : NumberRow} {rs qs : List NumberRow} → Narrows rs qs → Narrows (r ∷ rs) (r ∷ qs)

first_narrowed : {rs qs : List NumberRow} → Narrows rs qs → (z : ℕ) → First rs z ↔ First qs z
first_narrowed nothing z = (λ e. e, λ e. e)
first_narrowed (not_given beside rest) z =
    let rec = first_narrowed rest z in
    (⊎_elim (λ g. absurd (not_given g.0)) (λ f. rec.0 f.1), λ f. inr (not_given, rec.1 f))
first_narrowed (also rest) z =
    let rec = first_narrowed rest z in
    (⊎_elim inl (λ f. inr (f.0, rec.0 f.1)), ⊎_elim inl (λ f. inr (f.0, rec.1 f.1)))

-- each check fails exactly if its row is given; some where those before them pass
infixr 5 ◌next◌ ◌next_passed◌
data Meets : List Check → List NumberRow → List Check → Type 1 where
  no_more : {before : List Check} → Meets before [] []
  ◌next◌ : {before : List Check} {r : NumberRow} {c : Check} {rs : List NumberRow} {cs : List Check}
      → (c ≢ pass) ↔ r.given → Meets (before ++ (c ∷ [])) rs cs → Meets before (r ∷ rs) (c ∷ cs)
  ◌next_passed◌ : {before : List Check} {r : NumberRow} {c : Check} {rs : List NumberRow} {cs : List Check}
      → (in_order before ≡ pass → (c ≢ pass) ↔ r.given) → Meets (before ++ (c ∷ [])) rs cs → Meets before (r ∷ rs) (c ∷ cs)

-- the numbers of the rows
abbrev numbers_of : List NumberRow → List ℕ
numbers_of [] = []
numbers_of (r ∷ rs) = r.number ∷ numbers_of rs

-- the number of checks in order
number_in : Check → ℕ
number_in pass = 0
number_in (refuse k p q) = k

-- one check before others
first_one : {n : ℕ} {t j : List ℕ} (r : NumberRow) (rs : List NumberRow) (c : Check) (cs : List Check)
    → Numbered n t j r.number c → (c ≢ pass) ↔ r.given → (c ≡ pass → First rs (number_in (in_order cs)))
    → First (r ∷ rs) (number_in (in_order (c ∷ cs)))
unfolding in_order and_then number_in
first_one r rs pass cs a f rest = inr (λ g. f.1 g refl, rest refl)
first_one r rs (refuse k p q) cs a f rest = inl (f.0 (λ e. not_pass e), (a k p q refl).0)

first_number : {n : ℕ} {t j : List ℕ} (before : List Check) (rs : List NumberRow) (cs : List Check) → in_order before ≡ pass
    → Meets before rs cs → Numbers n t j (numbers_of rs) cs → First rs (number_in (in_order cs))
unfolding in_order and_then number_in
first_number before [] [] h no_more w = refl
first_number before [] (c ∷ cs) h m w = elim m [ ]
first_number before (r ∷ rs) [] h m w = elim m [ ]
first_number before (r ∷ rs) (c ∷ cs) h (f next m) (a then w) = first_one r rs c cs a f
    (λ e. first_number (before ++ (c ∷ [])) rs cs (append_passed before (c ∷ []) h ∙ rw e) m w)
first_number before (r ∷ rs) (c ∷ cs) h (f next_passed m) (a then w) = first_one r rs c cs a (f h)
    (λ e. first_number (before ++ (c ∷ [])) rs cs (append_passed before (c ∷ []) h ∙ rw e) m w)

last_passed : (before : List Check) (c : Check) → in_order (before ++ (c ∷ [])) ≡ pass → (in_order before ≡ pass) × (c ≡ pass)
last_passed before c h = let (a, b) = passed_append before (c ∷ []) h in (a, passed_at (c ∷ []) b 0)

-- ---- each call

module _ (n : ℕ) (o : Outcome) where
  -- the table, the marks and the journal that are lent
  abbrev t : List ℕ
  t = o.table

  abbrev m : List ℕ
  m = o.marks

  abbrev j : List ℕ
  j = o.journal

  abbrev MeetsRows : Call → Type 1
  MeetsRows c = Meets [] (number_rows n t m j c) (checks n o c)

  -- n is 2 or 3, where the check 1 has passed
  dim_before : (before : List Check) → in_order (dim_ok n ∷ before) ≡ pass → Dim n
  dim_before before h = dim_pass n (passed_at (dim_ok n ∷ before) h 0)

  solid_dim : solid_ok n ≡ pass → Dim n
  solid_dim h = let e = solid_pass n h in (omega arith, omega arith)

  step_row_lem : (redo : Bool) (a k : ℕ) (before : List Check) → in_order (dim_ok n ∷ before) ≡ pass
      → (step_ok redo n t j a k ≢ pass) ↔ (step_row redo n t j a k).given
  step_row_lem redo a k before h = step_fails redo n t j a k (dim_before before h)

  -- the rows of a map, behind the check 1, which is `first`, and others
  abbrev with_rule : List Check → MapRule → List Check
  with_rule before r = before ++ (rule_ok n t r ∷ [])

  abbrev with_rules : List Check → List Check
  with_rules before = with_rule (with_rule (with_rule (with_rule before links_live) links_return) pairs_commute) stays_flat

  map_behind : (first : Check) → (first ≡ pass → Dim n) → (others : List Check) {rs : List NumberRow} {cs : List Check}
      → Meets (with_rules (first ∷ others)) rs cs → Meets (first ∷ others) (map_rows n t ++ rs) (map_checks n t ++ cs)
  unfolding map_checks rule_number
  map_behind first dim others w =
      (λ h. rule_fails n t links_live (dim_first others h)
      (earlier links_live (λ l. absurd (omega arith)) (λ l. absurd (omega arith)) (λ l. absurd (omega arith))))
      next_passed (λ h. rule_fails n t links_return (dim_first _ h) (earlier links_return (λ _. (last_passed before_1 _ h).1)
      (λ l. absurd (omega arith)) (λ l. absurd (omega arith))))
      next_passed (λ h. let p = last_passed before_2 _ h in
      rule_fails n t pairs_commute (dim_first _ h) (earlier pairs_commute (λ _. (last_passed before_1 _ p.0).1) (λ _. p.1)
      (λ l. absurd (omega arith))))
      next_passed (λ h. let p = last_passed before_3 _ h in
      let q = last_passed before_2 _ p.0 in
      rule_fails n t stays_flat (dim_first _ h)
      (earlier stays_flat (λ _. (last_passed before_1 _ q.0).1) (λ _. q.1) (λ _. p.1)))
      next_passed w
    where
      dim_first : (before : List Check) → in_order (first ∷ before) ≡ pass → Dim n
      dim_first before h = dim (passed_at (first ∷ before) h 0)

      before_1 : List Check
      before_1 = first ∷ others

      before_2 : List Check
      before_2 = with_rule before_1 links_live

      before_3 : List Check
      before_3 = with_rule before_2 links_return

      Passes : MapRule → Type 0
      Passes r = rule_ok n t r ≡ pass

      earlier : (r : MapRule) → (5 < rule_number r → Passes links_live) → (24 < rule_number r → Passes links_return)
          → (25 < rule_number r → Passes pairs_commute) → (q : MapRule) → rule_number q < rule_number r → Passes q
      earlier = each_earlier Passes

  then_map : (others : List Check) {rs : List NumberRow} {cs : List Check} → Meets (with_rules (dim_ok n ∷ others)) rs cs
      → Meets (dim_ok n ∷ others) (map_rows n t ++ rs) (map_checks n t ++ cs)
  then_map others w = map_behind (dim_ok n) (dim_pass n) others w

  -- the first rows of the calls with marks, with a journal, and with both
  with_marks : {rs : List NumberRow} {cs : List Check} → Meets (with_rules (dim_ok n ∷ table_ok t ∷ marks_ok t m ∷ [])) rs cs
      → Meets [] (dim_row n ∷ table_row t ∷ marks_row t m ∷ (map_rows n t ++ rs))
      (dim_ok n ∷ table_ok t ∷ marks_ok t m ∷ (map_checks n t ++ cs))
  with_marks w = dim_fails n next table_fails t next marks_fails t m next then_map _ w

  with_journal : {rs : List NumberRow} {cs : List Check} → Meets (with_rules (dim_ok n ∷ table_ok t ∷ journal_ok j ∷ [])) rs cs
      → Meets [] (dim_row n ∷ table_row t ∷ journal_row j ∷ (map_rows n t ++ rs))
      (dim_ok n ∷ table_ok t ∷ journal_ok j ∷ (map_checks n t ++ cs))
  with_journal w = dim_fails n next table_fails t next journal_fails j next then_map _ w

  with_layer : (d : ℕ) {rs : List NumberRow} {cs : List Check} → Meets (layer_checks n t m j d) rs cs
      → Meets [] (dim_row n ∷ table_row t ∷ marks_row t m ∷ journal_row j ∷ (map_rows n t ++ (dart_row t d ∷ block_row n t ∷ rs)))
      (layer_checks n t m j d ++ cs)
  unfolding layer_checks map_checks index_of
  with_layer d w =
      dim_fails n next table_fails t next marks_fails t m next journal_fails j next then_map _ (dart_fails t d
      next (λ h. let q = passed_number (op_numbers (Op.remove d)) _ h in
      block_fails n t (table_of n t (q 1) (q 2) (rules_pass n t (q 5) (q 24) (q 25) (q 26))))
      next_passed w)

  meets : (c : Call) → MeetsRows c
  unfolding checks_of map_checks check_checks orbit_checks sheet_checks pick_checks add_checks sides_checks unsew_checks split_checks wall_checks insert_checks grid_checks vtk_checks step_checks index_of
  meets Call.check = dim_fails n next table_fails t next then_map _ no_more
  meets (Call.orbit mask d) = with_marks (mask_fails n mask next dart_fails t d next no_more)
  meets (Call.sheet d) = with_marks (dart_fails t d
      next (λ h. let q = passed_number (numbers (Call.sheet d)) _ h in
      block_fails n t (table_of n t (q 1) (q 2) (rules_pass n t (q 5) (q 24) (q 25) (q 26))))
      next_passed no_more)
  meets (Call.pick w d) =
      dim_fails n next table_fails t next marks_fails t m next queue_fails t w next then_map _ (dart_fails t d
      next (λ h. let q = passed_number (numbers (Call.pick w d)) _ h in
      block_fails n t (table_of n t (q 1) (q 2) (rules_pass n t (q 5) (q 24) (q 25) (q 26))))
      next_passed no_more)
  meets (Call.op tag Op.add) = with_journal (add_room_fails n t next record_fails tag t _ j next no_more)
  meets (Call.op tag (Op.sew i d e)) = with_journal (index_fails n i next dart_fails t d next dart_fails t e
      next apart_fails n t i d e next free_fails t i d e next (λ h. pairing_fails n t i d e (sides_passed n t j i d e h))
      next_passed record_fails tag t _ j next no_more)
  meets (Call.op tag (Op.unsew i d)) = with_journal (index_fails n i next dart_fails t d next sewn_fails t i d
      next record_fails tag t _ j next no_more)
  meets (Call.op tag (Op.remove d)) = with_layer d (record_fails tag t _ j next no_more)
  meets (Call.op tag (Op.split d)) = with_layer d (crossing_fails t (sheet n t d) next new_room_fails n t (ones (sheet n t d))
      next record_fails tag t _ j next no_more)
  meets (Call.op tag (Op.insert w)) =
      dim_fails n next table_fails t next marks_fails t w next journal_fails j next then_map _ (
      (λ h. let q = passed_number (op_numbers (Op.insert w)) _ h in
      block_fails n t (table_of n t (q 1) (q 2) (rules_pass n t (q 5) (q 24) (q 25) (q 26))))
      next_passed drawn_fails t w next enclosed_fails n t w next sewn_wall_fails n t w
      next (λ h. turns_fails n t w (wall_drawn n t j w _ h))
      next_passed connected_fails n t w next new_room_fails n t (ones w) next record_fails tag t _ j next no_more)
  meets (Call.op tag (Op.vtk text)) =
      let g = grid_of text in
      let rows = rows_in g in
      solid_fails n next table_fails t next journal_fails j next map_behind (solid_ok n) solid_dim _ (empty_fails t next form_fails text
      next types_fails (types_in g) next vertices_fails rows next sharing_fails rows next order_fails rows next cells_room_fails t rows
      next record_fails tag t _ j next no_more)
  meets Call.undo = with_journal (undo_fails j next step_row_lem false _ _ _ next_passed no_more)
  meets Call.redo = with_journal (redo_fails j next step_row_lem true _ _ _ next_passed no_more)

  rows_numbers : (c : Call) → numbers c ≡ numbers_of (number_rows n t m j c)
  unfolding rule_number
  rows_numbers Call.check = refl
  rows_numbers (Call.orbit mask d) = refl
  rows_numbers (Call.sheet d) = refl
  rows_numbers (Call.pick w d) = refl
  rows_numbers (Call.op tag Op.add) = refl
  rows_numbers (Call.op tag (Op.sew i d e)) = refl
  rows_numbers (Call.op tag (Op.unsew i d)) = refl
  rows_numbers (Call.op tag (Op.remove d)) = refl
  rows_numbers (Call.op tag (Op.split d)) = refl
  rows_numbers (Call.op tag (Op.insert w)) = refl
  rows_numbers (Call.op tag (Op.vtk text)) = refl
  rows_numbers Call.undo = refl
  rows_numbers Call.redo = refl

  number_in_order : (c : Call) → (do_call n o c).number ≡ number_in (in_order (checks n o c))
  unfolding number_in refused
  number_in_order c = go (in_order (checks n o c)) refl
    where
      go : (x : Check) → in_order (checks n o c) ≡ x → (do_call n o c).number ≡ number_in x
      go pass e = ap (λ (r : Outcome). r.number) ((call_ends n o c).passes e) ∙ done_number n o c
      go (refuse k p q) e = ap (λ (r : Outcome). r.number) ((call_ends n o c).refuses k p q e)

  pub number_table : (c : Call) (z : ℕ) → ((do_call n o c).number ≡ z) ↔ First (number_rows n o.table o.marks o.journal c) z
  unfolding in_order
  number_table c z =
      let w = rw (rows_numbers c) at (call_numbers n o c) in
      let first = rw (← number_in_order c) at (first_number [] (number_rows n t m j c) (checks n o c) refl (meets c) w) in
      (λ h. subst (First (number_rows n t m j c)) h first, λ g. first_once (number_rows n t m j c) _ z first g)

  -- where some of its rows are known not to be given
  pub narrowed_table : (c : Call) {qs : List NumberRow} → Narrows (number_rows n o.table o.marks o.journal c) qs → (z : ℕ)
      → ((do_call n o c).number ≡ z) ↔ First qs z
  narrowed_table c w z =
      let all = number_table c z in
      let left = first_narrowed w z in
      (λ h. left.0 (all.0 h), λ f. all.1 (left.1 f))

-- ---- sew_list, before any item

module _ (n : ℕ) (t j l : List ℕ) where
  list_first : First (list_rows n t j l) (number_in (in_order (list_checks n t j l)))
  unfolding list_checks map_checks rule_number in_order
  list_first = first_number [] (list_rows n t j l) (list_checks n t j l) refl (with_journal n (lent t [] j) (list_fails l next no_more))
      (list_numbers_lem n (lent t [] j) l)

  pub list_table : (tag k : ℕ) → k ≢ 0 → First (list_rows n t j l) k → RefusedFirst n t j k (sew_list_call n t j tag l)
  unfolding number_in sew_list_call refused
  list_table tag k some given = go (in_order (list_checks n t j l)) refl (first_once (list_rows n t j l) _ k list_first given)
    where
      go : (c : Check) → in_order (list_checks n t j l) ≡ c → number_in (in_order (list_checks n t j l)) ≡ k
          → RefusedFirst n t j k (sew_list_call n t j tag l)
      go pass e h = absurd (some (sym h ∙ ap number_in e))
      go (refuse z p q) e h =
          let is : z ≡ k = sym (ap number_in e) ∙ h in
          let says = (refusal_says (list_checks n t j l) (list_numbers_lem n (lent t [] j) l) z p q e).1 in
          rw (e, sew_list_call) (record {
            number = is;
            place = says.place ∙ ap (refusal_place n t) is;
            count = says.count ∙ ap (refusal_count n t) is;
            table = refl;
            journal = refl;
          })

  pub list_passes : First (list_rows n t j l) 0 → in_order (list_checks n t j l) ≡ pass
  unfolding number_in
  list_passes given = go (in_order (list_checks n t j l)) refl (first_once (list_rows n t j l) _ 0 list_first given)
    where
      go : (c : Check) → in_order (list_checks n t j l) ≡ c → number_in (in_order (list_checks n t j l)) ≡ 0
          → in_order (list_checks n t j l) ≡ pass
      go pass e h = e
      go (refuse z p q) e h =
          absurd ((refusal_says (list_checks n t j l) (list_numbers_lem n (lent t [] j) l) z p q e).1.not_0 (sym (ap number_in e) ∙ h))
