-- A journal by its words: those of the records that stand, those of the records that were undone, and the rest.
-- `journal_written`: a new record goes behind those that stand. `undo_steps`, `redo_steps`: the record that stands last is
-- the next undone one, and back; only the cursor moves.
use Prim.Native.Nat.{ℕ, suc, ◌+◌, ◌*◌, ◌-◌, ◌≤◌, ◌<◌}
use mathlib.Core.Path.{◌≡◌, refl, sym, ap, ◌∙◌}
use mathlib.Core.Bool.{Bool, true, false, not}
use mathlib.Core.Logic.{◌≢◌}
use mathlib.Core.List.{List, [], ◌∷◌, ◌++◌, append_assoc}
use native.Mathlib.Omega.{arith}
use lib.ListN.{length, get_or, drop, length-append, length-drop}
use lib.Seq.{get_or_at, get_or-append_seam, get_or-append-add, take-append_seam, drop-append-add}
use lib.Dec.{eqb}
use borrow.Author.Tests.{eq-eqb, ne_eqb, le-leb}
use Rattle.model.specs.Map.{links_live, links_return, pairs_commute, stays_flat, is_map}
use Rattle.model.specs.Journal.{Change, triples, read_changes, changes_at, tag_at, record_of, record_length, written}
use Rattle.model.specs.Journal.{cursor, end, put, sound, unbroken}
use Rattle.model.specs.Checks.{Check, pass, refuse, and_then, must, in_order, dim_ok, table_ok, journal_ok, map_checks}
use Rattle.model.specs.Checks.{undo_ok, redo_ok, step_checks}
use Rattle.model.specs.Calls.{Outcome, step_outcome, undo_call, redo_call, refused}
use Rattle.theorems.proofs.Lists.Scan.{and_i}
use Rattle.theorems.proofs.Calls.Checks.{map_keeps}
use Rattle.theorems.proofs.Calls.Fails.{journal_holds}
use Rattle.theorems.proofs.History.Record.{read_triples, length_triples, length_record}

-- the words of what stands, of what was undone, and the rest: the cursor is behind the first, the end behind the second
unfoldable pub journal_of : List ℕ → List ℕ → List ℕ → List ℕ
journal_of standing undone rest =
    suc (suc (length standing)) ∷ suc (suc (length standing + length undone)) ∷ (standing ++ (undone ++ rest))

module _ (standing undone rest : List ℕ) where
  journal_length : length (journal_of standing undone rest) ≡ suc (suc (length standing + (length undone + length rest)))
  unfolding journal_of
  journal_length = simp length-append

  pub journal_ok_lem : length (journal_of standing undone rest) ≤ 1048576 → journal_ok (journal_of standing undone rest) ≡ pass
  unfolding cursor end journal_of
  journal_ok_lem few =
      let l = journal_length in
      journal_holds (journal_of standing undone rest)
      (record { long = omega arith; few = few; low = omega arith; ends = omega arith; within = omega arith })

  -- a record that is written goes behind what stands; what was undone is lost
  pub journal_written : (r : List ℕ)
      → written (journal_of standing undone rest) r ≡ journal_of (standing ++ r) [] (drop (length r) (undone ++ rest))
  unfolding written journal_of cursor
  journal_written r =
      let s = length standing in
      let p : suc (suc s) + length r ≡ suc (suc (s + length r)) = omega arith in
      let z : s + length r + 0 ≡ s + length r = omega arith in
      rw (p, length-append standing r, z, take-append_seam standing (undone ++ rest))
      (ap (λ (l : List ℕ). suc (suc (s + length r)) ∷ suc (suc (s + length r)) ∷ ((standing ++ r) ++ l))
      (drop-append-add standing (undone ++ rest) (length r)))

  pub written_length : (r : List ℕ)
      → length r ≤ length (journal_of standing undone rest) - cursor (journal_of standing undone rest)
      → length (written (journal_of standing undone rest) r) ≡ length (journal_of standing undone rest)
  unfolding cursor journal_of
  written_length r h =
      let l = journal_length in
      ap length (journal_written r) ∙ simp (length-append, length-drop) (omega arith)

-- ---- a record among other words, behind a cursor and an end

module _ (first second : ℕ) (before : List ℕ) (tag : ℕ) (cs : List Change) (behind : List ℕ) where
  abbrev journal_words : List ℕ
  journal_words = first ∷ second ∷ (before ++ (record_of tag cs ++ behind))

  abbrev record_start : ℕ
  record_start = suc (suc (length before))

  first_count : get_or journal_words record_start 0 ≡ length cs
  unfolding record_of
  first_count = get_or-append_seam before (length cs) _ 0

  last_count : (x : ℕ) → x ≡ record_start + (3 * length cs + 2) → get_or journal_words x 0 ≡ length cs
  unfolding record_of
  last_count x h =
      let l = length_triples cs in
      let q : x ≡ suc (suc (length before + suc (suc (3 * length cs)))) = omega arith in
      ap (λ (k : ℕ). get_or journal_words k 0) q ∙ get_or-append-add before (record_of tag cs ++ behind) (suc (suc (3 * length cs))) 0
      ∙ ap (λ (l : List ℕ). get_or l (3 * length cs) 0) (append_assoc (triples cs) (length cs ∷ []) behind)
      ∙ get_or_at (triples cs) (length cs) behind 0 (3 * length cs) l

  record_read : changes_at journal_words record_start (length cs) ≡ cs
  unfolding record_of changes_at
  record_read =
      let q : record_start + 2 ≡ suc (suc (length before + 2)) = omega arith in
      let from_count = ap (λ (k : ℕ). drop k journal_words) q in
      let from_triples = drop-append-add before (record_of tag cs ++ behind) 2
      ∙ append_assoc (triples cs) (length cs ∷ []) behind in
      ap (read_changes (length cs)) (from_count ∙ from_triples) ∙ read_triples cs _

  record_tag : tag_at journal_words record_start ≡ tag
  unfolding record_of tag_at
  record_tag =
      let q : record_start + 1 ≡ suc (suc (length before + 1)) = omega arith in
      ap (λ (k : ℕ). get_or journal_words k 0) q ∙ get_or-append-add before (record_of tag cs ++ behind) 1 0

  record_unbroken : (redo : Bool) (t : List ℕ) → 0 < length cs → record_start + record_length (length cs) ≤ second
      → sound redo t 0 cs ≡ true → unbroken redo t journal_words record_start (length cs) ≡ true
  unfolding end unbroken
  record_unbroken redo t some fits s =
      let not_0 = ap not (ne_eqb (length cs) 0 (λ q. omega arith)) in
      let behind_2 = le-leb 2 record_start (omega arith) in
      let within = le-leb (record_start + record_length (length cs)) second fits in
      let counts = eq-eqb _ _ (first_count ∙ sym (last_count _ refl)) in
      and_i (and_i (and_i (and_i not_0 behind_2) within) counts) (ap (sound redo t 0) record_read ∙ s)

-- ---- undo and redo

-- a dimension and a table that pass the checks 1, 2, 5 and 24 to 26
pub record InRule (n : ℕ) (t : List ℕ) : Type 0 where
  pub dim : dim_ok n ≡ pass
  pub size : table_ok t ≡ pass
  pub map : is_map n t ≡ true

then_pass : (c : Check) → and_then c pass ≡ c
unfolding and_then
then_pass pass = refl
then_pass (refuse k p q) = refl

-- where they pass, and 4 too, the last check of undo and redo decides
step_checks_lem : {n : ℕ} {t : List ℕ} (j : List ℕ) (there : Check) → InRule n t → journal_ok j ≡ pass
    → in_order (step_checks n t j there) ≡ there
unfolding in_order and_then step_checks map_checks
step_checks_lem {n} {t} j there rule ok =
    let keeps = map_keeps n t rule.map in
    rw (rule.dim, rule.size, ok, keeps links_live, keeps links_return, keeps pairs_commute, keeps stays_flat) (then_pass there)

not_equal_ok : (x y : ℕ) → x ≢ y → must (not (eqb x y)) 16 ≡ pass
unfolding must
not_equal_ok x y h = rw (ne_eqb x y h)

equal_refused : (x y : ℕ) → x ≡ y → must (not (eqb x y)) 16 ≡ refuse 16 0 0
unfolding must
equal_refused x y h = rw (eq-eqb x y h)

-- the changes cs make the map u of the map t, by undo or by redo
pub record StepMakes (redo : Bool) (n : ℕ) (t u : List ℕ) (cs : List Change) : Type 0 where
  pub rule : InRule n t
  pub some : 0 < length cs
  pub sound : sound redo t 0 cs ≡ true
  pub puts : put redo cs t ≡ u
  pub map : is_map n u ≡ true

-- an undo or a redo that is accepted: the tag of its record is the place
unfoldable pub steps_to : ℕ → ℕ → List ℕ → List ℕ → Outcome
steps_to tag k u j = record { number = 0; place = tag; count = k; table = u; marks = []; journal = j }

-- the journal with the cursor behind a record, and before it: they differ in the first word
module _ (standing undone rest : List ℕ) (tag : ℕ) (cs : List Change) where
  abbrev cursor_behind : ℕ
  cursor_behind = suc (suc (length standing + length (record_of tag cs)))

  abbrev cursor_before : ℕ
  cursor_before = suc (suc (length standing))

  abbrev end_word : ℕ
  end_word = suc (suc (length standing + length (record_of tag cs) + length undone))

  abbrev journal_at_lem : ℕ → List ℕ
  journal_at_lem c = journal_words c end_word standing tag cs (undone ++ rest)

  journal_behind : journal_of (standing ++ record_of tag cs) undone rest ≡ journal_at_lem cursor_behind
  unfolding journal_of
  journal_behind = rw (append_assoc standing (record_of tag cs) (undone ++ rest), length-append standing (record_of tag cs))

  journal_before : journal_of standing (record_of tag cs ++ undone) rest ≡ journal_at_lem cursor_before
  unfolding journal_of
  journal_before =
      let r = length (record_of tag cs) in
      let q : length standing + (r + length undone) ≡ length standing + r + length undone = omega arith in
      rw (append_assoc (record_of tag cs) undone rest, length-append (record_of tag cs) undone, q)

  pub journal_same : length (journal_of standing (record_of tag cs ++ undone) rest)
      ≡ length (journal_of (standing ++ record_of tag cs) undone rest)
  journal_same = ap length journal_before ∙ sym (ap length journal_behind)

  step_from : {redo : Bool} {n : ℕ} {t u : List ℕ} → StepMakes redo n t u cs → (from to : ℕ)
      → step_outcome redo n t (journal_at_lem from) cursor_before (length cs) to ≡ steps_to tag (length cs) u (journal_at_lem to)
  unfolding step_outcome steps_to
  step_from {redo} {n} {t} leads from to =
      let l = length_record tag cs in
      let others = undone ++ rest in
      let changes = record_read from end_word standing tag cs others in
      let result = ap (λ (ds : List Change). put redo ds t) changes ∙ leads.puts in
      let whole = record_unbroken from end_word standing tag cs others redo t leads.some (omega arith) leads.sound in
      rw (whole, ap (is_map n) result ∙ leads.map, step_outcome) (rw (result, record_tag from end_word standing tag cs others))

  undo_at : {n : ℕ} {t u : List ℕ} → StepMakes false n t u cs → journal_ok (journal_at_lem cursor_behind) ≡ pass
      → undo_call n t (journal_at_lem cursor_behind) ≡ steps_to tag (length cs) u (journal_at_lem cursor_before)
  unfolding undo_call undo_ok cursor
  undo_at leads ok =
      let l = length_record tag cs in
      let back : cursor_behind - record_length (length cs) ≡ cursor_before = omega arith in
      let passes = step_checks_lem _ _ leads.rule ok ∙ not_equal_ok cursor_behind 2 (λ q. omega arith) in
      let counted = last_count cursor_behind end_word standing tag cs (undone ++ rest) (cursor_behind - 1) (omega arith) in
      rw (passes, undo_call, counted, back) (step_from leads cursor_behind cursor_before)

  redo_at : {n : ℕ} {t u : List ℕ} → StepMakes true n t u cs → journal_ok (journal_at_lem cursor_before) ≡ pass
      → redo_call n t (journal_at_lem cursor_before) ≡ steps_to tag (length cs) u (journal_at_lem cursor_behind)
  unfolding redo_call redo_ok cursor end
  redo_at leads ok =
      let l = length_record tag cs in
      let on : cursor_before + record_length (length cs) ≡ cursor_behind = omega arith in
      let passes = step_checks_lem _ _ leads.rule ok ∙ not_equal_ok cursor_before end_word (λ q. omega arith) in
      rw (passes, redo_call, first_count cursor_before end_word standing tag cs (undone ++ rest), on)
      (step_from leads cursor_before cursor_behind)

  pub undo_steps : {n : ℕ} {t u : List ℕ} → StepMakes false n t u cs
      → length (journal_of (standing ++ record_of tag cs) undone rest) ≤ 1048576
      → undo_call n t (journal_of (standing ++ record_of tag cs) undone rest)
      ≡ steps_to tag (length cs) u (journal_of standing (record_of tag cs ++ undone) rest)
  undo_steps leads few =
      let ok = rw journal_behind at (journal_ok_lem (standing ++ record_of tag cs) undone rest few) in
      rw (journal_behind, journal_before) (undo_at leads ok)

  pub redo_steps : {n : ℕ} {t u : List ℕ} → StepMakes true n t u cs
      → length (journal_of standing (record_of tag cs ++ undone) rest) ≤ 1048576
      → redo_call n t (journal_of standing (record_of tag cs ++ undone) rest)
      ≡ steps_to tag (length cs) u (journal_of (standing ++ record_of tag cs) undone rest)
  redo_steps leads few =
      let ok = rw journal_before at (journal_ok_lem standing (record_of tag cs ++ undone) rest few) in
      rw (journal_behind, journal_before) (redo_at leads ok)

module _ {n : ℕ} {t : List ℕ} (rule : InRule n t) where
  pub undo_none : (undone rest : List ℕ) → length (journal_of [] undone rest) ≤ 1048576
      → undo_call n t (journal_of [] undone rest) ≡ refused 16 0 0 t [] (journal_of [] undone rest)
  unfolding undo_call undo_ok cursor journal_of
  undo_none undone rest few =
      rw (step_checks_lem _ _ rule (journal_ok_lem [] undone rest few) ∙ equal_refused 2 2 refl, undo_call)

  pub redo_none : (standing rest : List ℕ) → length (journal_of standing [] rest) ≤ 1048576
      → redo_call n t (journal_of standing [] rest) ≡ refused 16 0 0 t [] (journal_of standing [] rest)
  unfolding redo_call redo_ok cursor end journal_of
  redo_none standing rest few =
      let s = length standing in
      let refuses = equal_refused (suc (suc s)) (suc (suc (s + 0))) (omega arith) in
      rw (step_checks_lem _ _ rule (journal_ok_lem standing [] rest few) ∙ refuses, redo_call)
