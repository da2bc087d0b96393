-- An item of a list of sews (02, R-9). `sew_ready`: after an accepted sew the checks of the table and the journal pass again, so that
-- one test of the table is enough for a list. `list_ends`: how a list ends that passes its checks, by the single calls of its items.
-- `list_map`: what it makes of a map is a map, also where an item is refused.
use Prim.Native.Nat.{ℕ, zero, suc, ◌+◌}
use mathlib.Core.Path.{◌≡◌, refl, sym, ap, ◌∙◌}
use mathlib.Core.Logic.{◌⊎◌, inl, inr, ⊎_elim, ◌≢◌}
use mathlib.Core.Bool.{true}
use mathlib.Core.List.{List, [], ◌∷◌}
use native.Mathlib.Omega.{arith}
use lib.ListN.{length}
use Rattle.model.specs.Lists.{index_of}
use Rattle.model.specs.Map.{is_map}
use Rattle.model.specs.Journal.{cursor, changes_from, record_of, record_length}
use Rattle.model.specs.Checks.{Check, pass, refuse, in_order, table_ok, sew_checks, list_checks}
use Rattle.model.specs.Calls.{Outcome, refused, sew_call, Item, items, sew_items, sew_list_call}
use Rattle.model.specs.Runs.{Op, Call, do_call, keeping, State, answer, stepped, run, item_step}
use Rattle.model.specs.Meaning.Lists.{member}
use Rattle.model.specs.Meaning.Maps.{NoRule}
use Rattle.model.specs.Meaning.Ends.{lent, numbers, done_of}
use Rattle.model.specs.Meaning.SewLists.{Ready, Standing, AllSewn, Stopped}
use Rattle.theorems.proofs.Lists.Scan.{if_eq, clash}
use Rattle.theorems.proofs.Lists.Ones.{in_member}
use Rattle.theorems.proofs.Calls.Pass.{journal_pass}
use Rattle.theorems.proofs.Calls.Fails.{journal_holds}
use Rattle.theorems.proofs.Calls.Ends.{call_says, call_done, call_refused, op_accepted}
use Rattle.theorems.proofs.Calls.Untouched.{call_untouched, place_of_others, count_of_others, commit_marks}
use Rattle.theorems.proofs.Calls.Written.{op_recorded}
use Rattle.theorems.proofs.History.Record.{length_record}
use Rattle.theorems.proofs.History.Ops.{effect_length, op_map}
use Rattle.theorems.proofs.History.Counts.{sew_count}

-- ---- one item

-- what an accepted sew leaves for the next: r is its outcome on the table t and the journal j
pub record ReadyAgain (n : ℕ) (t j : List ℕ) (r : Outcome) : Type 0 where
  pub ready : Ready n r.table r.journal
  pub long : length r.table ≡ length t
  pub words : length r.journal ≡ length j
  pub at_cursor : cursor r.journal ≡ cursor j + record_length r.count

pub sew_ready : (n : ℕ) (t j : List ℕ) (tag i d e : ℕ) → Ready n t j → (sew_call n t j tag i d e).number ≡ 0
    → ReadyAgain n t j (sew_call n t j tag i d e)
unfolding do_call keeping table_ok
sew_ready n t j tag i d e ready h =
    let o = lent t [] j in
    let p = Op.sew i d e in
    let done = op_accepted n o tag p h in
    let written = op_recorded n o tag p h in
    let rule = journal_pass j ready.journal in
    let long = ap length done.table ∙ effect_length n t p in
    let size = length_record tag (changes_from 0 t (sew_call n t j tag i d e).table) in
    let at = written.at_cursor in
    let ends = written.at_end in
    let words = written.long in
    let number = (sew_count n o tag i d e h).size in
    let low = rule.low in
    let two = rule.long in
    let few = rule.few in
    let room = done.room in
    let same = ap (λ (u : List ℕ). length (record_of tag (changes_from 0 t u))) done.table in
    let within = rule.within in
    let before = rule.ends in
    record {
      ready = record {
        dim = ready.dim;
        table = rw long ready.table;
        journal = journal_holds _
            (record { long = omega arith; few = omega arith; low = omega arith; ends = omega arith; within = omega arith });
        map = op_map n o tag p h;
      };
      long = long;
      words = words;
      at_cursor = omega arith;
    }

-- ---- the answer of one

sew_number : (n : ℕ) (t j : List ℕ) (tag i d e : ℕ) → Ready n t j → (sew_call n t j tag i d e).number ≢ 0
    → NoRule (sew_call n t j tag i d e).number × ((sew_call n t j tag i d e).number ≢ 8)
unfolding do_call keeping member index_of
sew_number n t j tag i d e ready h =
    let c = Call.op tag (Op.sew i d e) in
    let o = lent t [] j in
    let (p, q, refuses, _) = call_refused n o c h in
    let (own, says) = call_says n o c _ p q refuses in
    (λ r e. clash ready.map (says.map r e), λ e. clash (rw e at (in_member (numbers c) _ own)) refl)

sew_marks : (n : ℕ) (t j : List ℕ) (tag i d e : ℕ) → (sew_call n t j tag i d e).marks ≡ []
unfolding sew_call refused
sew_marks n t j tag i d e = go (in_order (sew_checks n t j i d e)) refl
  where
    go : (c : Check) → in_order (sew_checks n t j i d e) ≡ c → (sew_call n t j tag i d e).marks ≡ []
    go pass e = rw (e, sew_call) (commit_marks t _ [] j tag 0 _)
    go (refuse k p q) e = rw (e, sew_call)

-- a sew with a map has the place 0, no marks, and where it is refused the count 0
pub sew_answer : (n : ℕ) (t j : List ℕ) (tag i d e : ℕ) → Ready n t j →
    let r = sew_call n t j tag i d e in
    (r.place ≡ 0) × (r.marks ≡ []) × (r.number ≢ 0 → r.count ≡ 0)
unfolding do_call keeping done_of
sew_answer n t j tag i d e ready =
    let c = Call.op tag (Op.sew i d e) in
    let o = lent t [] j in
    let r = sew_call n t j tag i d e in (
      if_eq r.number 0 (λ h. ap (λ (x : Outcome). x.place) (call_done n o c h))
          (λ h. let other = sew_number n t j tag i d e ready h in place_of_others n o c h other.0 other.1),
      sew_marks n t j tag i d e,
      λ h. count_of_others n o c h (sew_number n t j tag i d e ready h).0,
    )

-- ---- how the items end

module _ (n tag k q : ℕ) (t j : List ℕ) (x : Item) (xs : List Item) where
  abbrev one : Outcome
  one = sew_call n t j tag x.i x.d x.e

  -- the first item is accepted, and the others follow
  pub item_next : one.number ≡ 0 → sew_items n tag k q t j (x ∷ xs) ≡ sew_items n tag (suc k) (q + one.count) one.table one.journal xs
  unfolding sew_items
  item_next h = rw (h, sew_items)

  -- it is refused
  pub item_stop : one.number ≢ 0 → sew_items n tag k q t j (x ∷ xs) ≡ record {
    number = one.number;
    place = suc k;
    count = q;
    table = one.table;
    marks = [];
    journal = one.journal;
  }
  unfolding sew_items
  item_stop h = go one.number refl
    where
      go : (z : ℕ) → one.number ≡ z → sew_items n tag k q t j (x ∷ xs) ≡ record {
        number = one.number;
        place = suc k;
        count = q;
        table = one.table;
        marks = [];
        journal = one.journal;
      }
      go zero e = absurd (h e)
      go (suc z) e = rw (e, sew_items) (rw e)

  -- it changes nothing then
  item_untouched : one.number ≢ 0 → (one.table ≡ t) × (one.journal ≡ j)
  unfolding do_call keeping
  item_untouched h = let same = call_untouched n (lent t [] j) (Call.op tag (Op.sew x.i x.d x.e)) h in (same.table, same.journal)

module _ (n tag : ℕ) where
  -- the outcome of the items xs, behind k that stand and changed q entries
  abbrev pub sews_to : ℕ → ℕ → State → List Item → Outcome
  sews_to k q s xs = sew_items n tag k q s.outcome.table s.outcome.journal xs

  -- the same of a state, with the answer of the single call
  pub items_next : (k q : ℕ) (s : State) (x : Item) (xs : List Item) → (answer n s (item_step tag x)).number ≡ 0
      → sews_to k q s (x ∷ xs) ≡ sews_to (suc k) (q + (answer n s (item_step tag x)).count) (stepped n s (item_step tag x)) xs
  unfolding stepped answer item_step do_call keeping
  items_next k q s x xs h = item_next n tag k q s.outcome.table s.outcome.journal x xs h

  pub items_stop : (k q : ℕ) (s : State) (x : Item) (xs : List Item) → (answer n s (item_step tag x)).number ≢ 0
      → sews_to k q s (x ∷ xs) ≡ record {
        number = (answer n s (item_step tag x)).number;
        place = suc k;
        count = q;
        table = s.outcome.table;
        marks = [];
        journal = s.outcome.journal;
      }
  unfolding answer item_step do_call keeping
  items_stop k q s x xs h =
      let t = s.outcome.table in
      let j = s.outcome.journal in
      let same = item_untouched n tag k q t j x xs h in
      rw (item_stop n tag k q t j x xs h, same.0, same.1)

  abbrev EndsFrom : ℕ → ℕ → State → List Item → Type 0
  EndsFrom k q s xs = AllSewn n s tag q xs (sews_to k q s xs) ⊎ Stopped n s tag k q xs (sews_to k q s xs)

  -- items that stand behind one that does
  standing_more : {q : ℕ} {s : State} {x : Item} {ys : List Item} {r r' : Outcome} → r' ≡ r → (answer n s (item_step tag x)).number ≡ 0
      → Standing n (stepped n s (item_step tag x)) tag (q + (answer n s (item_step tag x)).count) ys r
      → Standing n s tag q (x ∷ ys) r'
  unfolding run
  standing_more is h S = rw is (record {
    accepted = (h, S.accepted);
    table = S.table;
    journal = S.journal;
    count = let all = S.count in omega arith;
  })

  items_end : (k q : ℕ) (s : State) (xs : List Item) → EndsFrom k q s xs
  unfolding run
  items_end k q s [] = inl (unfold sew_items in record {
    number = refl;
    place = refl;
    standing = record { accepted = tt; table = refl; journal = refl; count = omega arith };
  })
  items_end k q s (x ∷ xs) = if_eq (answer n s (item_step tag x)).number 0 (λ h. let is = items_next k q s x xs h in
      ⊎_elim (λ A. inl (record {
        number = ap (λ (r : Outcome). r.number) is ∙ A.number;
        place = ap (λ (r : Outcome). r.place) is ∙ A.place;
        standing = standing_more is h A.standing;
      })) (λ A. inr (record {
        before = x ∷ A.before;
        item = A.item;
        behind = A.behind;
        parts = ap (λ (l : List Item). x ∷ l) A.parts;
        standing = standing_more is h A.standing;
        number = ap (λ (r : Outcome). r.number) is ∙ A.number;
        refused = λ e. A.refused (sym (ap (λ (r : Outcome). r.number) is) ∙ e);
        place = ap (λ (r : Outcome). r.place) is ∙ A.place ∙ omega arith;
      })) (items_end (suc k) (q + (answer n s (item_step tag x)).count) (stepped n s (item_step tag x)) xs))
      (λ h. let is = items_stop k q s x xs h in
      inr (record {
        before = [];
        item = x;
        behind = xs;
        parts = refl;
        standing = rw is (record { accepted = tt; table = refl; journal = refl; count = omega arith });
        number = ap (λ (r : Outcome). r.number) is;
        refused = λ e. h (sym (ap (λ (r : Outcome). r.number) is) ∙ e);
        place = ap (λ (r : Outcome). r.place) is ∙ omega arith;
      }))

-- ---- a list that passes its checks

pub list_items : (n : ℕ) (t j : List ℕ) (tag : ℕ) (l : List ℕ) → in_order (list_checks n t j l) ≡ pass
    → sew_list_call n t j tag l ≡ sew_items n tag 0 0 t j (items l)
unfolding sew_list_call
list_items n t j tag l h = rw (h, sew_list_call)

-- it ends as the single calls of its items do, from any state with its table and journal
pub list_ends : (n : ℕ) (s : State) (tag : ℕ) (l : List ℕ) →
    let t = s.outcome.table in
    let j = s.outcome.journal in
    in_order (list_checks n t j l) ≡ pass
    → AllSewn n s tag 0 (items l) (sew_list_call n t j tag l) ⊎ Stopped n s tag 0 0 (items l) (sew_list_call n t j tag l)
list_ends n s tag l h = rw (list_items n _ _ tag l h) (items_end n tag 0 0 s (items l))

-- ---- a list makes of a map a map, refused or not

items_map : (n tag k q : ℕ) (t j : List ℕ) (xs : List Item) → is_map n t ≡ true → is_map n (sew_items n tag k q t j xs).table ≡ true
unfolding sew_items do_call keeping
items_map n tag k q t j [] map = map
items_map n tag k q t j (x ∷ xs) map =
    let r = sew_call n t j tag x.i x.d x.e in
    let later = items_map n tag (suc k) (q + r.count) r.table r.journal xs in
    if_eq r.number 0
    (λ h. rw (item_next n tag k q t j x xs h) (later (op_map n (lent t [] j) tag (Op.sew x.i x.d x.e) h)))
    (λ h. rw (item_stop n tag k q t j x xs h, (item_untouched n tag k q t j x xs h).0) map)

pub list_map : (n : ℕ) (t j : List ℕ) (tag : ℕ) (l : List ℕ) → is_map n t ≡ true → is_map n (sew_list_call n t j tag l).table ≡ true
unfolding sew_list_call refused
list_map n t j tag l map = go (in_order (list_checks n t j l)) refl
  where
    go : (c : Check) → in_order (list_checks n t j l) ≡ c → is_map n (sew_list_call n t j tag l).table ≡ true
    go pass e = rw (e, sew_list_call) (items_map n tag 0 0 t j (items l) map)
    go (refuse k p q) e = rw (e, sew_list_call) map
