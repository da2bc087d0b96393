-- A list of sews, item by item: `Going` is the loop's invariant of `sew_items`, from `going_starts` by `going_on` to `going_stops` or
-- `going_ends`.
use Prim.Native.Nat.{ℕ, suc, ◌+◌, ◌*◌, ◌≤◌, ◌<◌}
use mathlib.Core.Path.{◌≡◌, refl, sym, ap, ap₂, ◌∙◌}
use mathlib.Core.Logic.{◌≢◌}
use mathlib.Core.List.{List, [], ◌∷◌, ◌++◌}
use native.Mathlib.Omega.{arith}
use lib.ListN.{length, get_or}
use Rattle.model.specs.Table.{slots}
use Rattle.model.specs.Journal.{cursor}
use Rattle.model.specs.Checks.{pass, in_order, list_checks}
use Rattle.model.specs.Calls.{Outcome, sew_call, Item, items, sew_items, sew_list_call}
use Rattle.model.specs.Meaning.SewLists.{Ready}
use Rattle.theorems.proofs.Lists.Scan.{if_eq}
use Rattle.theorems.proofs.Calls.Pass.{journal_pass}
use Rattle.theorems.proofs.History.Items.{ReadyAgain, sew_ready, sew_answer, item_next, item_stop, list_items}
use Rattle.answers.specs.Answers.{Answer, Reason, number_of, number, count as answers_count, outcome, accepted}
use Rattle.call_sew.specs.Joins.{Blank, Lent}
use Rattle.call_sew.proofs.Ends.{list_ready}

-- ---- the items of a list

-- the item of three words
abbrev item_of : List ℕ → Item
item_of x = record { i = get_or x 0 0; d = get_or x 1 0; e = get_or x 2 0 }

items_at : (x l : List ℕ) → length x ≡ 3 → items (x ++ l) ≡ item_of x ∷ items l
unfolding items
items_at [] l three = absurd (omega arith)
items_at (i ∷ []) l three = absurd (omega arith)
items_at (i ∷ d ∷ []) l three = absurd (omega arith)
items_at (i ∷ d ∷ e ∷ []) l three = refl
items_at (i ∷ d ∷ e ∷ y ∷ x) l three = absurd (omega arith)

none_left : (l : List ℕ) → length l < 3 → items l ≡ []
unfolding items
none_left [] few = refl
none_left (i ∷ []) few = refl
none_left (i ∷ d ∷ []) few = refl
none_left (i ∷ d ∷ e ∷ l) few = absurd (omega arith)

-- ---- the loop

-- so many items stand, and changed so many entries; behind them the list goes on with the words l from t and j
pub record Going (n tag : ℕ) (t₀ j₀ l₀ m₀ gs₀ xs₀ ys₀ : List ℕ) (l : List ℕ) (item count : ℕ) (t j m gs xs ys : List ℕ) : Type 0 where
  pub ready : Ready n t j
  pub blank : Blank m gs
  pub same : sew_list_call n t₀ j₀ tag l₀ ≡ sew_items n tag item count t j (items l)
  pub room : 3 * count + 3 * item ≤ cursor j
  pub table : length t ≡ length t₀
  pub journal : length j ≡ length j₀
  pub marks : length m ≡ length m₀
  pub groups : length gs ≡ length gs₀
  pub left : length xs ≡ length xs₀
  pub right : length ys ≡ length ys₀

pub going_starts : (n tag : ℕ) (t j l m gs xs ys : List ℕ) → in_order (list_checks n t j l) ≡ pass → Lent t m gs xs ys
    → Going n tag t j l m gs xs ys l 0 0 t j m gs xs ys
going_starts n tag t j l m gs xs ys h L = record {
  ready = list_ready n t j l h;
  blank = L.blank;
  same = list_items n t j tag l h;
  room = omega arith;
  table = refl;
  journal = refl;
  marks = refl;
  groups = refl;
  left = refl;
  right = refl;
}

module _ {n tag : ℕ} {t₀ j₀ l₀ m₀ gs₀ xs₀ ys₀ : List ℕ} (L : Lent t₀ m₀ gs₀ xs₀ ys₀) {l : List ℕ} {item count : ℕ} {t j m gs xs ys : List ℕ}
    (G : Going n tag t₀ j₀ l₀ m₀ gs₀ xs₀ ys₀ l item count t j m gs xs ys) where
  pub going_lent : Lent t m gs xs ys
  unfolding slots
  going_lent =
      let wide = L.wide in
      let left = L.left in
      let right = L.right in
      let table = G.table in
      let marks = G.marks in
      let long_left = G.left in
      let long_right = G.right in
      record { blank = G.blank; wide = omega arith; left = omega arith; right = omega arith }

  -- counts and items are fewer than the journal's words
  pub going_few : 3 * count + 3 * item ≤ 1048576
  going_few =
      let rule = journal_pass j G.ready.journal in
      let few = rule.few in
      let within = rule.within in
      let ends = rule.ends in
      let room = G.room in
      omega arith

  -- an item more, of the words x, whose outcome is r with the table t' and the journal j'
  module _ (x l' : List ℕ) (goes : l ≡ x ++ l') (three : length x ≡ 3) where
    module _ (r : Answer) {t' j' : List ℕ}
        (is : outcome r t' [] j' ≡ sew_call n t j tag (get_or x 0 0) (get_or x 1 0) (get_or x 2 0)) where
      abbrev o : Outcome
      o = sew_call n t j tag (get_or x 0 0) (get_or x 1 0) (get_or x 2 0)

      told : o.number ≡ number r
      told = ap (λ (o : Outcome). o.number) (sym is)

      pub going_stops : number r ≢ 0 → record { number = number r; place = item + 1; count = count; table = t'; marks = []; journal = j' }
          ≡ sew_list_call n t₀ j₀ tag l₀
      going_stops h =
          let one : item + 1 ≡ suc item = omega arith in
          rw (G.same, goes, items_at x l' three, item_stop n tag item count t j (item_of x) _ (λ e. h (sym told ∙ e)), ← is, one)

      module _ (h : number r ≡ 0) where
        again : ReadyAgain n t j o
        again = sew_ready n t j tag _ _ _ G.ready (told ∙ h)

        pub going_on : {m' gs' xs' ys' : List ℕ} → Blank m' gs' → length m' ≡ length m → length gs' ≡ length gs
            → length xs' ≡ length xs → length ys' ≡ length ys
            → Going n tag t₀ j₀ l₀ m₀ gs₀ xs₀ ys₀ l' (item + 1) (count + answers_count r) t' j' m' gs' xs' ys'
        going_on blank marks groups left right =
            let counted : o.count ≡ answers_count r = ap (λ (o : Outcome). o.count) (sym is) in
            let table : o.table ≡ t' = ap (λ (o : Outcome). o.table) (sym is) in
            let journal : o.journal ≡ j' = ap (λ (o : Outcome). o.journal) (sym is) in
            let one : item + 1 ≡ suc item = omega arith in
            let at = again.at_cursor in
            let room = G.room in
            record {
              ready = rw (table, journal) at again.ready;
              blank = blank;
              same = G.same ∙ ap (sew_items n tag item count t j) (ap items goes ∙ items_at x l' three)
                  ∙ item_next n tag item count t j (item_of x) _ (told ∙ h) ∙ rw (counted, table, journal, one);
              room = rw (← journal) (omega arith);
              table = ap length (sym table) ∙ again.long ∙ G.table;
              journal = ap length (sym journal) ∙ again.words ∙ G.journal;
              marks = marks ∙ G.marks;
              groups = groups ∙ G.groups;
              left = left ∙ G.left;
              right = right ∙ G.right;
            }

  pub going_ends : length l < 3 → outcome (accepted 0 count) t [] j ≡ sew_list_call n t₀ j₀ tag l₀
  unfolding sew_items
  going_ends few = rw (G.same, none_left l few)

-- ---- a list of one item is a sew

-- the number, count, table and journal of the outcome o, whose place is 0
answer_of : (r : Answer) {t j : List ℕ} {o : Outcome} (p : ℕ) → outcome r t [] j ≡ record {
  number = o.number;
  place = p;
  count = o.count;
  table = o.table;
  marks = [];
  journal = o.journal;
} → o.place ≡ 0 → o.marks ≡ [] → record { number = number r; place = 0; count = answers_count r; table = t; marks = []; journal = j } ≡ o
answer_of r {t} {j} {o} p is place marks =
    let number : number r ≡ o.number = ap (λ (x : Outcome). x.number) is in
    let count : answers_count r ≡ o.count = ap (λ (x : Outcome). x.count) is in
    let table : t ≡ o.table = ap (λ (x : Outcome). x.table) is in
    let journal : j ≡ o.journal = ap (λ (x : Outcome). x.journal) is in
    rw (number, count, table, journal) (ap₂ (λ (p : ℕ) (m : List ℕ). record {
      number = o.number;
      place = p;
      count = o.count;
      table = o.table;
      marks = m;
      journal = o.journal;
    }) (sym place) (sym marks))

pub one_item : (n : ℕ) (t j : List ℕ) (tag i d e : ℕ) → Ready n t j → in_order (list_checks n t j (i ∷ d ∷ e ∷ [])) ≡ pass
    → (r : Answer) (t' j' : List ℕ) → outcome r t' [] j' ≡ sew_list_call n t j tag (i ∷ d ∷ e ∷ [])
    → record { number = number r; place = 0; count = answers_count r; table = t'; marks = []; journal = j' } ≡ sew_call n t j tag i d e
unfolding items sew_items
one_item n t j tag i d e ready h r t' j' is =
    let o = sew_call n t j tag i d e in
    let x : Item = record { i = i; d = d; e = e } in
    let all = is ∙ list_items n t j tag (i ∷ d ∷ e ∷ []) h in
    let plain = sew_answer n t j tag i d e ready in
    let none : 0 + o.count ≡ o.count = omega arith in
    if_eq o.number 0
    (λ z. answer_of r 0 (all ∙ item_next n tag 0 0 t j x [] z ∙ rw (z, none)) plain.0 plain.1)
    (λ z. answer_of r 1 (all ∙ item_stop n tag 0 0 t j x [] z ∙ rw (plain.2 z)) plain.0 plain.1)
