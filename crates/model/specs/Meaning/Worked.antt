-- Worked cases: some calls on a table and a fresh journal, one more call, and what is then seen.
use Rattle.std.specs.Prelude.{ℕ, ◌-◌, Bool, true, false, not, ◌&&◌, List, [], ◌∷◌, length, take, drop, eqb}
use Rattle.model.specs.Lists.{count, equal}
use Rattle.model.specs.Table.{slots, link, live, live_count}
use Rattle.model.specs.Journal.{cursor, end, changes_from}
use Rattle.model.specs.Calls.{Outcome, sew_list_call, pick_call, pick_taken}
use Rattle.model.specs.Runs.{Op, Call, begin, do_call}
use Rattle.model.specs.Meaning.Ends.{lent}

-- what is seen after the last call
pub data Seen : Type 0 where
  gives : ℕ → ℕ → ℕ → Seen  -- number, place, count
  goes : ℕ → ℕ → ℕ → Seen  -- d.i is e: d, i, e
  marks_are : List ℕ → Seen
  marked_are : ℕ → Seen  -- so many marks are not 0
  cursor_is end_is : ℕ → Seen
  words_are : ℕ → List ℕ → Seen  -- those of the journal from x on are vs: x, vs
  frees : ℕ → Seen  -- the slot is unused, and was live
  changes : ℕ → Seen  -- so many entries
  live_are : ℕ → Seen  -- so many slots
  restores : ℕ → Seen  -- remove at d is then accepted, and gives the table back that was before the last call
  as_calls : List Call → Seen  -- table and journal are as after these calls instead of the last one

-- the label is a hundred times the case's number in 01, and counts its parts: 301 is the first part of 3; that of a request
-- of 02 is ten thousand more: 10401 is the first of R-4. Our own are twenty thousand more: 201 the words of a record, 202 records
-- that are broken, 203 masks, 204 the first checks
pub record Case : Type 0 where
  pub label : ℕ
  pub dim : ℕ
  pub start : Outcome
  pub before : List Call
  pub call : Call
  pub seen : List Seen

-- a table that is given, a fresh journal
unfoldable pub begin_on : List ℕ → ℕ → Outcome
begin_on t words = let o = begin (slots t) words in lent t o.marks o.journal

unfoldable pub do_all : ℕ → Outcome → List Call → Outcome
do_all n o [] = o
do_all n o (c ∷ cs) = do_all n (do_call n o c) cs

-- old is what stood before the last call, new what it left
unfoldable pub sees : ℕ → Outcome → Outcome → Seen → Bool
sees n old new (gives k p c) = eqb new.number k && eqb new.place p && eqb new.count c
sees n old new (goes d i e) = eqb (link new.table i d) e
sees n old new (marks_are m) = equal new.marks m
sees n old new (marked_are k) = eqb (length new.marks - count 0 new.marks) k
sees n old new (cursor_is k) = eqb (cursor new.journal) k
sees n old new (end_is k) = eqb (end new.journal) k
sees n old new (words_are x vs) = equal (take (length vs) (drop x new.journal)) vs
sees n old new (frees d) = live old.table d && not (live new.table d)
sees n old new (changes k) = eqb (length (changes_from 0 old.table new.table)) k
sees n old new (live_are k) = eqb (live_count new.table) k
sees n old new (restores d) =
    let r = do_call n new (Call.op 0 (Op.remove d)) in
    eqb r.number 0 && equal r.table old.table
sees n old new (as_calls cs) =
    let r = do_all n old cs in
    equal r.table new.table && equal r.journal new.journal

unfoldable pub sees_all : ℕ → Outcome → Outcome → List Seen → Bool
sees_all n old new [] = true
sees_all n old new (s ∷ ss) = elim (sees n old new s) [ true ↦ sees_all n old new ss | false ↦ false ]

unfoldable pub holds_from : ℕ → Outcome → Call → List Seen → Bool
holds_from n old c ss = sees_all n old (do_call n old c) ss

unfoldable pub holds : Case → Bool
holds c = holds_from c.dim (do_all c.dim c.start c.before) c.call c.seen

-- the labels of the cases that do not hold
unfoldable pub failing : List Case → List ℕ
failing [] = []
failing (c ∷ cs) = elim (holds c) [ true ↦ failing cs | false ↦ c.label ∷ failing cs ]

-- ---- lists of sews (02, R-9)

pub record ListCase : Type 0 where
  pub label : ℕ
  pub dim : ℕ
  pub start : Outcome
  pub tag : ℕ
  pub list : List ℕ
  pub seen : List Seen

unfoldable pub holds_list : ListCase → Bool
holds_list c =
    let o = c.start in
    sees_all c.dim o (sew_list_call c.dim o.table o.journal c.tag c.list) c.seen

unfoldable pub failing_lists : List ListCase → List ℕ
failing_lists [] = []
failing_lists (c ∷ cs) = elim (holds_list c) [ true ↦ failing_lists cs | false ↦ c.label ∷ failing_lists cs ]

-- ---- pick over a queue (02, R-13)

-- what is lent, the dart, and what is seen: number, place, count, taken, and the marks that are left
pub record PickCase : Type 0 where
  pub label : ℕ
  pub dim : ℕ
  pub table : List ℕ
  pub marks : List ℕ
  pub queue : List ℕ
  pub dart : ℕ
  pub answer : List ℕ
  pub leaves : List ℕ

unfoldable pub holds_pick : PickCase → Bool
holds_pick c =
    let r = pick_call c.dim c.table c.marks c.queue c.dart in
    let taken = pick_taken c.dim c.table c.marks c.queue c.dart in
    equal (r.number ∷ r.place ∷ r.count ∷ taken ∷ []) c.answer && equal r.marks c.leaves

unfoldable pub failing_picks : List PickCase → List ℕ
failing_picks [] = []
failing_picks (c ∷ cs) = elim (holds_pick c) [ true ↦ failing_picks cs | false ↦ c.label ∷ failing_picks cs ]
