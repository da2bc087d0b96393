-- `call_ends`: a call that passes its checks ends as `done` says, any other is refused by the first check that fails and
-- leaves table and journal. From it: a call gives 0 exactly if it passes its checks, and only numbers of its own.
use Prim.Native.Nat.{ℕ}
use mathlib.Core.Path.{◌≡◌, refl, sym, ap, ◌∙◌}
use mathlib.Core.Logic.{◌≢◌, ⊎_elim}
use mathlib.Core.Bool.{Bool, true, false}
use mathlib.Core.List.Memᴰ.{not-nil}
use mathlib.Core.List.{List, [], ◌∷◌, ◌++◌, append_assoc, Memᴰ as In}
use mathlib.Core.List.Memᴰ.{append_left as in_left}
use mathlib.Core.List.Memᴰ.{head as here}
use mathlib.Core.List.Memᴰ.{tail as there}
use Rattle.model.specs.Lists.{ones, index_of}
use Rattle.model.specs.Journal.{changes_from, record_of, written}
use Rattle.model.specs.Sheet.{sheet, sheet_marks}
use Rattle.model.specs.Vtk.{grid_of}
use Rattle.model.specs.Checks.{Check, pass, refuse, must, and_then, in_order, pairing_ok}
use Rattle.model.specs.Checks.{map_checks, add_checks, sides_checks, sew_checks, unsew_checks, layer_checks, split_checks}
use Rattle.model.specs.Checks.{insert_checks, vtk_checks}
use Rattle.model.specs.Calls.{Outcome, refused, commit, check_call, orbit_call, sheet_call, add_call, sew_call, unsew_call}
use Rattle.model.specs.Calls.{pick_call, remove_call, split_call, insert_call, vtk_call, step_outcome, undo_call, redo_call}
use Rattle.model.specs.Runs.{Op, Call, do_call, keeping, effect}
use Rattle.model.specs.Meaning.Lists.{member}
use Rattle.model.specs.Meaning.Ends.{record_ok, step_ok, checks_of, checks, numbers, late_numbers, layer_marks, refusal_marks, refused_by}
use Rattle.model.specs.Meaning.Ends.{done_of, done, Behind, Ends, Passed, OpAccepted}
use Rattle.theorems.proofs.Lists.Scan.{test, clash}
use Rattle.theorems.proofs.Lists.Ones.{in_member, member_in}
use Rattle.theorems.proofs.Calls.Checks.{not_pass, passed_at, passed_append, append_passed, append_refused, passed_or_refused}
use Rattle.theorems.proofs.Calls.Checks.{same_refusal, Numbers, numbers_before, numbers_behind, Says, refusal_says}
use Rattle.theorems.proofs.Calls.Checks.{call_numbers}
use Rattle.theorems.proofs.Calls.Pass.{record_pass}

-- ---- an outcome behind checks

module _ (y : Outcome) (f : ℕ → ℕ → ℕ → Outcome) where
  behind_more : (cs ds : List Check) (r : Outcome) (g : ℕ → ℕ → ℕ → Outcome) → Behind ds y f r
      → ((k p q : ℕ) → in_order cs ≡ refuse k p q → g k p q ≡ f k p q)
      → Behind (cs ++ ds) y f (elim (in_order cs) as (λ _. Outcome) [ pass ↦ r | refuse k p q ↦ g k p q ])
  behind_more cs ds r g b h = go (in_order cs) refl
    where
      go : (c : Check) → in_order cs ≡ c → Behind (cs ++ ds) y f (elim c as (λ _. Outcome) [ pass ↦ r | refuse k p q ↦ g k p q ])
      go pass e = record {
        passes = λ a. b.passes (sym (append_passed cs ds e) ∙ a);
        refuses = λ k p q a. b.refuses k p q (sym (append_passed cs ds e) ∙ a);
      }
      go (refuse k p q) e = record {
        passes = λ a. not_pass (sym (append_refused cs ds e) ∙ a);
        refuses = λ k' p' q' a. h k p q e ∙ same_refusal f (sym (append_refused cs ds e) ∙ a);
      }

  behind_checks : (cs : List Check) → Behind cs y f (elim (in_order cs) as (λ _. Outcome) [ pass ↦ y | refuse k p q ↦ f k p q ])
  behind_checks cs = record { passes = λ e. rw e; refuses = λ k p q e. rw e }

  behind_last : (b : Bool) (z : ℕ) (r s : Outcome) → r ≡ y → s ≡ f z 0 0
      → Behind (must b z ∷ []) y f (elim b as (λ _. Outcome) [ true ↦ r | false ↦ s ])
  unfolding in_order and_then must
  behind_last true z r s a b = record { passes = λ e. a; refuses = λ k p q e. not_pass (sym e) }
  behind_last false z r s a b = record { passes = λ e. not_pass e; refuses = λ k p q e. b ∙ same_refusal f e }

-- the outcome changed by a function
behind_map : {cs : List Check} {y r : Outcome} {f : ℕ → ℕ → ℕ → Outcome} (g : Outcome → Outcome) → Behind cs y f r
    → Behind cs (g y) (λ k p q. g (f k p q)) (g r)
behind_map g b = record { passes = λ a. ap g (b.passes a); refuses = λ k p q a. ap g (b.refuses k p q a) }

-- a call that takes a journal and keeps the marks m, where its own are x: none, or a wall's; its last check, 15 or 17, is b
behind_unmarked : (cs : List Check) (b : Bool) (z : ℕ) (t x m j : List ℕ) (y : Outcome)
    → Behind (cs ++ (must b z ∷ [])) (keeping y m y.journal) (λ k p q. refused k p q t m j)
    (let r = elim (in_order cs) as (λ _. Outcome) [
      | pass ↦ (elim b as (λ _. Outcome) [ true ↦ y | false ↦ refused z 0 0 t x j ])
      | refuse k p q ↦ refused k p q t x j
    ] in keeping r m r.journal)
unfolding keeping refused
behind_unmarked cs b z t x m j y =
    behind_map (λ r. keeping r m r.journal)
    (behind_more y (λ k p q. refused k p q t x j) cs _ _ _ (behind_last _ _ b z _ _ refl refl) (λ k p q e. refl))

-- ---- the calls

-- of remove and split, before 13
abbrev early_numbers : List ℕ
early_numbers = 1 ∷ 2 ∷ 3 ∷ 4 ∷ 5 ∷ 24 ∷ 25 ∷ 26 ∷ 7 ∷ 8 ∷ []

not_late : (k : ℕ) → In k early_numbers → member late_numbers k ≡ false
not_late k i = test (member late_numbers k) (λ h. absurd (clash (in_member _ k i) (late k (member_in _ k h)))) (λ h. h)
  where
    late : (k : ℕ) → In k late_numbers → member early_numbers k ≡ false
    late k (here e) = unfold member index_of in rw e
    late k (there (here e)) = unfold member index_of in rw e
    late k (there (there (here e))) = unfold member index_of in rw e
    late k (there (there (there i))) = absurd (not-nil i)

module _ (n : ℕ) (o : Outcome) where
  -- the table, the marks and the journal that are lent
  abbrev t : List ℕ
  t = o.table

  abbrev m : List ℕ
  m = o.marks

  abbrev j : List ℕ
  j = o.journal

  -- those that take no marks, or no journal, keep what they do not take
  check_ends : Ends n o Call.check
  unfolding do_call check_call checks_of done_of refusal_marks keeping refused
  check_ends = behind_map (λ r. keeping r m j) (behind_checks _ _ _)

  orbit_ends : (mask d : ℕ) → Ends n o (Call.orbit mask d)
  unfolding do_call orbit_call checks_of done_of refusal_marks keeping refused
  orbit_ends mask d = behind_map (λ r. keeping r r.marks j) (behind_checks _ _ _)

  sheet_ends : (d : ℕ) → Ends n o (Call.sheet d)
  unfolding do_call sheet_call checks_of done_of refusal_marks keeping refused
  sheet_ends d = behind_map (λ r. keeping r r.marks j) (behind_checks _ _ _)

  pick_ends : (w : List ℕ) (d : ℕ) → Ends n o (Call.pick w d)
  unfolding do_call pick_call checks_of done_of refusal_marks keeping refused
  pick_ends w d = behind_map (λ r. keeping r r.marks j) (behind_checks _ _ _)

  add_ends : (tag : ℕ) → Ends n o (Call.op tag Op.add)
  unfolding do_call add_call commit checks_of record_ok done_of refusal_marks keeping
  add_ends tag = behind_unmarked _ _ 15 _ _ _ _ _

  unsew_ends : (tag i d : ℕ) → Ends n o (Call.op tag (Op.unsew i d))
  unfolding do_call unsew_call commit checks_of record_ok done_of refusal_marks keeping
  unsew_ends tag i d = behind_unmarked _ _ 15 _ _ _ _ _

  sew_ends : (tag i d e : ℕ) → Ends n o (Call.op tag (Op.sew i d e))
  unfolding do_call sew_call commit sew_checks checks_of record_ok done_of refusal_marks keeping
  sew_ends tag i d e =
      rw (← append_assoc (sides_checks n t j i d e) (pairing_ok n t i d e ∷ []) _)
      (behind_unmarked _ _ 15 _ _ _ _ _)

  undo_ends : Ends n o Call.undo
  unfolding do_call undo_call step_outcome checks_of step_ok done_of refusal_marks keeping
  undo_ends = behind_unmarked _ _ 17 _ _ _ _ _

  redo_ends : Ends n o Call.redo
  unfolding do_call redo_call step_outcome checks_of step_ok done_of refusal_marks keeping
  redo_ends = behind_unmarked _ _ 17 _ _ _ _ _

  insert_ends : (tag : ℕ) (w : List ℕ) → Ends n o (Call.op tag (Op.insert w))
  unfolding do_call insert_call commit checks_of record_ok done_of refusal_marks keeping
  insert_ends tag w = behind_unmarked _ _ 15 _ _ _ _ _

  vtk_ends : (tag : ℕ) (text : List ℕ) → Ends n o (Call.op tag (Op.vtk text))
  unfolding do_call vtk_call commit checks_of record_ok done_of refusal_marks keeping
  vtk_ends tag text = behind_unmarked _ _ 15 _ _ _ _ _

  -- remove and split: a refusal by 13, 14 or 15 leaves the sheet's marks ..
  abbrev leaving : ℕ → ℕ → ℕ → List ℕ → Outcome
  leaving k p q marks = refused k p q t marks j

  pub late_marks : (d k : ℕ) → member late_numbers k ≡ true → layer_marks n o d k ≡ sheet_marks n o.table (sheet n o.table d)
  unfolding layer_marks
  late_marks d k h = rw (h, layer_marks)

  late_leaves : (d k p q : ℕ) → In k late_numbers → leaving k p q (sheet_marks n t (sheet n t d)) ≡ leaving k p q (layer_marks n o d k)
  late_leaves d k p q i = ap (leaving k p q) (sym (late_marks d k (in_member _ k i)))

  -- .. an earlier one the marks lent
  early_leaves : (d k p q : ℕ) → in_order (layer_checks n t m j d) ≡ refuse k p q
      → leaving k p q m ≡ leaving k p q (layer_marks n o d k)
  unfolding layer_marks layer_checks map_checks checks_of
  early_leaves d k p q e = ap (leaving k p q) (rw (not_late k (refusal_says _ early k p q e).0, layer_marks))
    where
      early : Numbers n t j early_numbers (layer_checks n t m j d)
      early = numbers_before _ _ (call_numbers n o (Call.op 0 (Op.remove d)))

  remove_ends : (tag d : ℕ) → Ends n o (Call.op tag (Op.remove d))
  unfolding do_call remove_call commit checks_of record_ok done_of refusal_marks
  remove_ends tag d =
      behind_more _ _ _ _ _ _ (behind_last _ _ _ 15 _ _ refl (late_leaves d 15 0 0 (there (there (here refl))))) (early_leaves d)

  split_ends : (tag d : ℕ) → Ends n o (Call.op tag (Op.split d))
  unfolding do_call split_call commit checks_of record_ok done_of refusal_marks layer_checks map_checks split_checks
  split_ends tag d =
      let late = numbers_behind (layer_checks n t m j d) _ (call_numbers n o (Call.op tag (Op.split d))) in
      let crossing = numbers_before (split_checks n t (sheet n t d) (ones (sheet n t d))) _ late in
      behind_more _ _ _ _ _ _
      (behind_more _ _ _ _ _ _ (behind_last _ _ _ 15 _ _ refl (late_leaves d 15 0 0 (there (there (here refl)))))
      (λ k p q e. late_leaves d k p q (in_left (15 ∷ []) (refusal_says _ crossing k p q e).0)))
      (early_leaves d)

  pub call_ends : (c : Call) → Ends n o c
  call_ends Call.check = check_ends
  call_ends (Call.orbit mask d) = orbit_ends mask d
  call_ends (Call.sheet d) = sheet_ends d
  call_ends (Call.pick w d) = pick_ends w d
  call_ends (Call.op tag Op.add) = add_ends tag
  call_ends (Call.op tag (Op.sew i d e)) = sew_ends tag i d e
  call_ends (Call.op tag (Op.unsew i d)) = unsew_ends tag i d
  call_ends (Call.op tag (Op.remove d)) = remove_ends tag d
  call_ends (Call.op tag (Op.split d)) = split_ends tag d
  call_ends (Call.op tag (Op.insert w)) = insert_ends tag w
  call_ends (Call.op tag (Op.vtk text)) = vtk_ends tag text
  call_ends Call.undo = undo_ends
  call_ends Call.redo = redo_ends

  -- ---- the number of a call

  -- what the first check that fails says
  pub call_says : (c : Call) (k p q : ℕ) → in_order (checks n o c) ≡ refuse k p q → In k (numbers c) × Says n t j k p q
  call_says c = refusal_says (checks n o c) (call_numbers n o c)

  pub call_passed : (c : Call) → (do_call n o c).number ≡ 0 → in_order (checks n o c) ≡ pass
  unfolding refused
  call_passed c h = ⊎_elim (λ e. e) (λ q.
      let (k, p, x, e) = q in
      let number = ap (λ (r : Outcome). r.number) ((call_ends c).refuses k p x e) in
      absurd ((call_says c k p x e).1.not_0 (sym number ∙ h)))
      (passed_or_refused (in_order (checks n o c)))

  pub call_done : (c : Call) → (do_call n o c).number ≡ 0 → do_call n o c ≡ done n o c
  call_done c h = (call_ends c).passes (call_passed c h)

  pub done_number : (c : Call) → (done n o c).number ≡ 0
  unfolding done_of
  done_number Call.check = refl
  done_number (Call.orbit mask d) = refl
  done_number (Call.sheet d) = refl
  done_number (Call.pick w d) = refl
  done_number (Call.op tag Op.add) = refl
  done_number (Call.op tag (Op.sew i d e)) = refl
  done_number (Call.op tag (Op.unsew i d)) = refl
  done_number (Call.op tag (Op.remove d)) = refl
  done_number (Call.op tag (Op.split d)) = refl
  done_number (Call.op tag (Op.insert w)) = refl
  done_number (Call.op tag (Op.vtk text)) = refl
  done_number Call.undo = refl
  done_number Call.redo = refl

  -- a call that gives another number than 0: the first check that fails has that number
  pub call_refused : (c : Call) → (do_call n o c).number ≢ 0
      → (p : ℕ) × (q : ℕ) × (in_order (checks n o c) ≡ refuse (do_call n o c).number p q)
      × (do_call n o c ≡ refused_by n o c (do_call n o c).number p q)
  unfolding refused
  call_refused c h = ⊎_elim (λ e. absurd (h (ap (λ (r : Outcome). r.number) ((call_ends c).passes e) ∙ done_number c))) (λ q.
      let (k, p, x, is) = q in
      let e = (call_ends c).refuses k p x is in
      let number : (do_call n o c).number ≡ k = ap (λ (r : Outcome). r.number) e in
      (p, x, rw number is, e ∙ ap (λ (z : ℕ). refused_by n o c z p x) (sym number)))
      (passed_or_refused (in_order (checks n o c)))

  -- ---- operations

  op_passed : (tag : ℕ) (p : Op) → in_order (checks n o (Call.op tag p)) ≡ pass
      → Passed n t m j p × (record_ok tag t (effect n t p) j ≡ pass)
  unfolding checks_of effect sew_checks
  op_passed tag Op.add h = let r = passed_append (add_checks n t j) _ h in (r.0, passed_at _ r.1 0)
  op_passed tag (Op.sew i d e) h =
      let both = append_assoc (sides_checks n t j i d e) (pairing_ok n t i d e ∷ []) _ in
      let r = passed_append (sew_checks n t j i d e) _ (ap in_order both ∙ h) in
      (r.0, passed_at _ r.1 0)
  op_passed tag (Op.unsew i d) h = let r = passed_append (unsew_checks n t j i d) _ h in (r.0, passed_at _ r.1 0)
  op_passed tag (Op.remove d) h = let r = passed_append (layer_checks n t m j d) _ h in (r.0, passed_at _ r.1 0)
  op_passed tag (Op.split d) h =
      let r = passed_append (layer_checks n t m j d) _ h in
      let s = passed_append (split_checks n t (sheet n t d) (ones (sheet n t d))) _ r.1 in
      ((r.0, s.0), passed_at _ s.1 0)
  op_passed tag (Op.insert w) h = let r = passed_append (insert_checks n t w j) _ h in (r.0, passed_at _ r.1 0)
  op_passed tag (Op.vtk text) h = let r = passed_append (vtk_checks n t j (grid_of text)) _ h in (r.0, passed_at _ r.1 0)

  done_op : (tag : ℕ) (p : Op) → ((done n o (Call.op tag p)).table ≡ effect n t p)
      × ((done n o (Call.op tag p)).journal ≡ written j (record_of tag (changes_from 0 t (effect n t p))))
  unfolding done_of effect
  done_op tag Op.add = (refl, refl)
  done_op tag (Op.sew i d e) = (refl, refl)
  done_op tag (Op.unsew i d) = (refl, refl)
  done_op tag (Op.remove d) = (refl, refl)
  done_op tag (Op.split d) = (refl, refl)
  done_op tag (Op.insert w) = (refl, refl)
  done_op tag (Op.vtk text) = (refl, refl)

  -- an accepted operation has passed its checks, and leaves its effect and the record of the changes
  pub op_accepted : (tag : ℕ) (p : Op) → (do_call n o (Call.op tag p)).number ≡ 0
      → OpAccepted n o tag p (do_call n o (Call.op tag p))
  op_accepted tag p h =
      let passed = op_passed tag p (call_passed (Call.op tag p) h) in
      let is = call_done (Call.op tag p) h in
      let leaves = done_op tag p in
      record {
        passed = passed.0;
        table = ap (λ (r : Outcome). r.table) is ∙ leaves.0;
        journal = ap (λ (r : Outcome). r.journal) is ∙ leaves.1;
        room = record_pass tag _ _ _ passed.1;
      }

  pub op_effect : (tag : ℕ) (p : Op) → (do_call n o (Call.op tag p)).number ≡ 0
      → Passed n t m j p × ((do_call n o (Call.op tag p)).table ≡ effect n t p)
  op_effect tag p h = let r = op_accepted tag p h in (r.passed, r.table)
