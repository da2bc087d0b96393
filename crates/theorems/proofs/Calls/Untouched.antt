-- `call_untouched`: a call that is refused leaves table and journal, gives the place and the count of its number, and the
-- marks as lent, but for remove and split refused by 13, 14 or 15. The place is 0 but for 5, 24 to 26 and 8, the count but for
-- 5 and 24 to 26: `place_of_others`, `count_of_others`.
-- `reading_untouched`: check, orbit and sheet leave table and journal also where they are accepted.
-- `sheet_marks_lem`, `remove_marks`, `split_marks`: accepted, or refused by 13, 14 or 15, they leave the marks of the sheet.
-- `insert_marks_stay`: insert leaves the wall's marks.
use Prim.Native.Nat.{ℕ, ◌-◌}
use mathlib.Core.Path.{◌≡◌, refl, ap, ◌∙◌}
use mathlib.Core.Logic.{⊎_elim, ◌≢◌}
use mathlib.Core.List.{List}
use native.Mathlib.Omega.{arith}
use lib.ListN.{length}
use lib.Dec.{leb}
use Rattle.model.specs.Cell.{least_wrong}
use Rattle.model.specs.Journal.{Change, cursor, changes_from, record_of}
use Rattle.model.specs.Checks.{Check, pass, refuse, in_order, insert_checks}
use Rattle.model.specs.Calls.{Outcome, refused, commit, insert_call}
use Rattle.model.specs.Runs.{Op, Call, do_call}
use Rattle.model.specs.Meaning.Ends.{Untouched, done, refusal_place, Sheeted, layer_marks, refusal_marks, done_of}
use Rattle.model.specs.Meaning.Ends.{Reading, reads_check, reads_orbit, reads_sheet, reads_pick}
use Rattle.model.specs.Meaning.Maps.{by_rule, NoRule}
use Rattle.model.specs.Meaning.Sheets.{marks_of}
use Rattle.theorems.proofs.Lists.Scan.{test, if_eq}
use Rattle.theorems.proofs.Calls.Checks.{place_other, count_other}
use Rattle.theorems.proofs.Calls.Ends.{late_marks, call_says, call_done, call_refused}

module _ (n : ℕ) (o : Outcome) (c : Call) where
  pub call_untouched : (do_call n o c).number ≢ 0 → Untouched n o c (do_call n o c)
  unfolding refused
  call_untouched h =
      let (p, q, e, is) = call_refused n o c h in
      let says = (call_says n o c _ p q e).1 in
      record {
        place = ap (λ (x : Outcome). x.place) is ∙ says.place;
        count = ap (λ (x : Outcome). x.count) is ∙ says.count;
        table = ap (λ (x : Outcome). x.table) is;
        marks = ap (λ (x : Outcome). x.marks) is;
        journal = ap (λ (x : Outcome). x.journal) is;
      }

  -- the place of 8 ..
  pub place_of_8 : (do_call n o c).number ≡ 8 → (do_call n o c).place ≡ least_wrong n o.table
  unfolding refusal_place by_rule
  place_of_8 h = rw h at (call_untouched (λ q. omega arith)).place

  -- .. and of the others; 5 and 24 to 26 stand in Rules.antt
  pub place_of_others : (do_call n o c).number ≢ 0 → NoRule (do_call n o c).number → (do_call n o c).number ≢ 8
      → (do_call n o c).place ≡ 0
  place_of_others h none b = (call_untouched h).place ∙ place_other n o.table _ none b

  pub count_of_others : (do_call n o c).number ≢ 0 → NoRule (do_call n o c).number → (do_call n o c).count ≡ 0
  count_of_others h none = (call_untouched h).count ∙ count_other n o.table _ none

  -- a call that leaves table and journal where it is accepted leaves them always
  untouched_always : (done n o c).table ≡ o.table → (done n o c).journal ≡ o.journal
      → ((do_call n o c).table ≡ o.table) × ((do_call n o c).journal ≡ o.journal)
  untouched_always a b = if_eq (do_call n o c).number 0
      (λ h. let is = call_done n o c h in (ap (λ (r : Outcome). r.table) is ∙ a, ap (λ (r : Outcome). r.journal) is ∙ b))
      (λ h. let r = call_untouched h in (r.table, r.journal))

pub reading_untouched : (n : ℕ) (o : Outcome) {c : Call} → Reading c
    → ((do_call n o c).table ≡ o.table) × ((do_call n o c).journal ≡ o.journal)
unfolding done_of
reading_untouched n o reads_check = untouched_always n o _ refl refl
reading_untouched n o reads_orbit = untouched_always n o _ refl refl
reading_untouched n o reads_sheet = untouched_always n o _ refl refl
reading_untouched n o reads_pick = untouched_always n o _ refl refl

-- ---- the marks of a sheet

module _ (n : ℕ) (o : Outcome) (d : ℕ) where
  left : (c : Call) → (done n o c).marks ≡ marks_of n o.table d → ((k : ℕ) → refusal_marks n o c k ≡ layer_marks n o d k)
      → Sheeted (do_call n o c).number → (do_call n o c).marks ≡ marks_of n o.table d
  left c accepted refused h = if_eq (do_call n o c).number 0
      (λ e. ap (λ (r : Outcome). r.marks) (call_done n o c e) ∙ accepted)
      (λ e. (call_untouched n o c e).marks ∙ refused _ ∙ late_marks n o d _ (⊎_elim (λ z. absurd (e z)) (λ m. m) h))

  pub sheet_marks_lem : (do_call n o (Call.sheet d)).number ≡ 0 → (do_call n o (Call.sheet d)).marks ≡ marks_of n o.table d
  unfolding done_of
  sheet_marks_lem h = ap (λ (r : Outcome). r.marks) (call_done n o (Call.sheet d) h)

  pub remove_marks : (tag : ℕ) → Sheeted (do_call n o (Call.op tag (Op.remove d))).number
      → (do_call n o (Call.op tag (Op.remove d))).marks ≡ marks_of n o.table d
  unfolding done_of refusal_marks
  remove_marks tag = left (Call.op tag (Op.remove d)) refl (λ k. refl)

  pub split_marks : (tag : ℕ) → Sheeted (do_call n o (Call.op tag (Op.split d))).number
      → (do_call n o (Call.op tag (Op.split d))).marks ≡ marks_of n o.table d
  unfolding done_of refusal_marks
  split_marks tag = left (Call.op tag (Op.split d)) refl (λ k. refl)

-- ---- the marks of a wall

pub commit_marks : (t u m j : List ℕ) (tag p : ℕ) (size : List Change → ℕ) → (commit t u m j tag p size).marks ≡ m
unfolding commit refused
commit_marks t u m j tag p size =
    test (leb (length (record_of tag (changes_from 0 t u))) (length j - cursor j)) (λ e. rw (e, commit)) (λ e. rw (e, commit))

-- "marks stay" (02, R-5), accepted or refused
pub insert_marks_stay : (n : ℕ) (t m j : List ℕ) (tag : ℕ) → (insert_call n t m j tag).marks ≡ m
unfolding insert_call refused
insert_marks_stay n t m j tag = go (in_order (insert_checks n t m j)) refl
  where
    go : (c : Check) → in_order (insert_checks n t m j) ≡ c → (insert_call n t m j tag).marks ≡ m
    go pass e = rw (e, insert_call) (commit_marks t _ m j tag _ _)
    go (refuse k p q) e = rw (e, insert_call)
