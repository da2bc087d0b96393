-- How sew ends: refused by a check (`sew_refused`; by 12, `sew_unpaired`), else by what is left of it, `commit` (`sew_goes`); and what
-- it knows on the way: that the checks of the table and the journal pass (`Ready`, from those of a list by `list_ready`), by which tests 9
-- and 10 go, what the walk of both sides asks (`sides_apart`), how many entries change (`changes_number`), what the sides are joined by
-- (`joining`), and what the record is drafted from (`sewn_record`) and is (`sewn_drafted`).
use Prim.Native.Nat.{ℕ, ◌+◌, ◌*◌, ◌%◌, ◌≤◌, ◌<◌}
use mathlib.Core.Path.{◌≡◌, sym, ap, ◌∙◌}
use mathlib.Core.Logic.{◌≢◌, ⊎_elim}
use mathlib.Core.Bool.{Bool, true, false, not, ◌&&◌}
use mathlib.Core.List.{List, [], ◌∷◌}
use native.Mathlib.Omega.{arith}
use lib.ListN.{length}
use lib.Dec.{eqb}
use borrow.Author.Tests.{eqb-true}
use Rattle.model.specs.Table.{slots, link}
use Rattle.model.specs.Map.{links_live, links_return, pairs_commute, stays_flat, is_map}
use Rattle.model.specs.Reach.{in_set}
use Rattle.model.specs.Journal.{changes_from}
use Rattle.model.specs.Sew.{side, is_paired, sew_table}
use Rattle.model.specs.Checks.{pass, must, and_then, in_order, dim_ok, table_ok, journal_ok, map_checks, apart_ok, free_ok, pairing_ok, sides_checks, sew_checks}
use Rattle.model.specs.Checks.{list_ok, list_checks}
use Rattle.model.specs.Calls.{refused, commit, sew_call, sew_list_call}
use Rattle.model.specs.Meaning.Maps.{MapTable}
use Rattle.model.specs.Meaning.Sets.{Marked}
use Rattle.model.specs.Meaning.Numbers.{JournalRule}
use Rattle.model.specs.Meaning.SewLists.{Ready}
use Rattle.model.specs.Meaning.Pairings.{Sewable}
use Rattle.theorems.proofs.Operations.Relink.{relinked_long, relinked_table}
use Rattle.theorems.proofs.Calls.Checks.{map_keeps, passed_append, append_passed, append_refused, passed_at}
use Rattle.theorems.proofs.Calls.Pass.{must_pass, rules_pass, table_of, journal_pass, SidesPassed, left_side, right_side, sides_sewable}
use Rattle.theorems.proofs.Sewing.Side.{side_free}
use Rattle.theorems.proofs.Sewing.Sew.{sew_relinked, sew_rest, sew_other}
use Rattle.theorems.proofs.Sewing.Counts.{own_moved, other_moved, sew_changes}
use Rattle.drafts.specs.Drafts.{drafted}
use Rattle.drafts.specs.Passes.{Room, Drafted}
use Rattle.sides.specs.Turns.{Apart, Listed}
use Rattle.marked_links.specs.Marked.{Freed, MarkedRecord}
use Rattle.answers.specs.Answers.{Refused, alone, outcome}
use Rattle.answers.proofs.Given.{map_given}
use Rattle.call_sew.specs.Joins.{Blank, Joining, Joined}
use Rattle.call_sew.specs.Items.{pair_checks}
use Rattle.std.specs.Prelude.{Err}
use Rattle.answers.specs.Openings.{refusing}
use Rattle.refusals.specs.declared.Reason.TheVariants.{NoPairing}

module _ (n : ℕ) (t j : List ℕ) (tag i d e : ℕ) where
  -- by a check before 12
  pub sew_refused : (r : Refused) → in_order (sides_checks n t j i d e) ≡ refusing r
      → outcome (Err r) t [] j ≡ sew_call n t j tag i d e
  unfolding sew_call refused sew_checks
  sew_refused r h = rw (append_refused (sides_checks n t j i d e) (pairing_ok n t i d e ∷ []) h, sew_call)

  module _ (h : in_order (sides_checks n t j i d e) ≡ pass) where
    pub sew_unpaired : {r : Refused} → is_paired n t i d e ≡ false → r ≡ alone NoPairing → outcome (Err r) t [] j ≡ sew_call n t j tag i d e
    unfolding sew_call refused sew_checks pairing_ok must in_order and_then
    sew_unpaired none is = rw (is, append_passed (sides_checks n t j i d e) (pairing_ok n t i d e ∷ []) h, none, sew_call)

    pub sew_goes : is_paired n t i d e ≡ true
        → sew_call n t j tag i d e ≡ commit t (sew_table n t i d e) [] j tag 0 (λ cs. length cs)
    unfolding sew_call sew_checks pairing_ok must in_order and_then
    sew_goes paired = rw (append_passed (sides_checks n t j i d e) (pairing_ok n t i d e ∷ []) h, paired, sew_call)

-- ---- an item's checks behind those of the table and the journal

-- those of the table and the journal pass
module _ {n : ℕ} {t j : List ℕ} (ready : Ready n t j) where
  ready_passes : in_order (dim_ok n ∷ table_ok t ∷ journal_ok j ∷ map_checks n t) ≡ pass
  unfolding in_order and_then map_checks
  ready_passes =
      let keeps = map_keeps n t ready.map in
      rw (ready.dim, ready.table, ready.journal, keeps links_live, keeps links_return, keeps pairs_commute, keeps stays_flat)

  pub behind_ready : (i d e : ℕ) → in_order (sides_checks n t j i d e) ≡ in_order (pair_checks n t i d e)
  unfolding sides_checks pair_checks map_checks
  behind_ready i d e = append_passed (dim_ok n ∷ table_ok t ∷ journal_ok j ∷ map_checks n t) (pair_checks n t i d e) ready_passes

-- from the checks of a list, and to them
module _ (n : ℕ) (t j l : List ℕ) where
  pub ready_of : in_order (dim_ok n ∷ table_ok t ∷ journal_ok j ∷ map_checks n t) ≡ pass → Ready n t j
  unfolding map_checks
  ready_of h =
      let at = passed_at (dim_ok n ∷ table_ok t ∷ journal_ok j ∷ map_checks n t) h in
      let dim = at 0 in
      record { dim = dim; table = at 1; journal = at 2; map = map_given n t dim (rules_pass n t (at 3) (at 4) (at 5) (at 6)) }

  pub list_refused : (tag : ℕ) (r : Refused) → in_order (list_checks n t j l) ≡ refusing r
      → outcome (Err r) t [] j ≡ sew_list_call n t j tag l
  unfolding sew_list_call refused
  list_refused tag r h = rw (h, sew_list_call)

  module _ (h : in_order (list_checks n t j l) ≡ pass) where
    pub list_ready : Ready n t j
    unfolding list_checks map_checks
    list_ready = ready_of (passed_append (dim_ok n ∷ table_ok t ∷ journal_ok j ∷ map_checks n t) (list_ok l ∷ []) h).0

    pub list_whole : length l % 3 ≡ 0
    unfolding list_checks map_checks list_ok
    list_whole = eqb-true _ _ (must_pass _ 38 (passed_at (list_checks n t j l) h 7))

  pub list_passed : Ready n t j → length l % 3 ≡ 0 → in_order (list_checks n t j l) ≡ pass
  unfolding list_checks map_checks list_ok in_order and_then must
  list_passed ready whole =
      append_passed (dim_ok n ∷ table_ok t ∷ journal_ok j ∷ map_checks n t) (list_ok l ∷ []) (ready_passes ready) ∙ rw whole

pub map_table_lem : (n : ℕ) (t : List ℕ) → dim_ok n ≡ pass → table_ok t ≡ pass → is_map n t ≡ true → MapTable n t
map_table_lem n t dim table map =
    let keeps = map_keeps n t map in
    table_of n t dim table (rules_pass n t (keeps links_live) (keeps links_return) (keeps pairs_commute) (keeps stays_flat))

-- ---- the tests of the checks 9 and 10

pub apart_test : (n : ℕ) (t : List ℕ) (i d e : ℕ) {b : Bool} → b ≡ in_set (side n t i d) e → must (not b) 9 ≡ apart_ok n t i d e
unfolding apart_ok
apart_test n t i d e is = ap (λ b. must (not b) 9) is

pub free_test : (t : List ℕ) (i d e : ℕ) {a b : Bool} → a ≡ eqb (link t i d) d → b ≡ eqb (link t i e) e
    → must (a && b) 10 ≡ free_ok t i d e
unfolding free_ok
free_test t i d e one other = rw (one, other)

-- ---- the checks before 12 have passed

module _ (n : ℕ) (t j : List ℕ) (i d e : ℕ) (h : in_order (sides_checks n t j i d e) ≡ pass) where
  pub journal_rule : JournalRule j
  unfolding sides_checks
  journal_rule = journal_pass j (passed_at (sides_checks n t j i d e) h 2)

module _ {n : ℕ} {t : List ℕ} {i d e : ℕ} (passed : SidesPassed n t i d e) where
  pub sides_apart : {xs ys : List ℕ} → slots t ≤ 2 * length xs → slots t ≤ 2 * length ys → Apart n t i d e xs ys
  sides_apart left right = record {
    left = left_side passed;
    right = right_side passed;
    apart = passed.apart;
    left_room = left;
    right_room = right;
  }

  module _ {size : ℕ} {xs ys : List ℕ} (step : Listed n t i d e size xs ys) where
    pub size_few : size + size ≤ 65536
    size_few = let fit = step.few in let few = passed.table.few in omega arith

    pub step_paired : is_paired n t i d e ≡ true
    step_paired = step.lists.paired

    able : Sewable n t i d e
    able = sides_sewable passed step_paired

    pub changes_number : 2 * size ≡ length (changes_from 0 t (sew_table n t i d e))
    changes_number = rw step.lists.size (sym (sew_changes able))

    pub joining : {m gs : List ℕ} → Blank m gs → slots t ≤ length m → slots t ≤ 2 * length xs → slots t ≤ 2 * length ys
        → Joining n t m gs i d e xs ys size
    joining blank wide left right = let fit = step.few in record {
      able = able;
      lists = step.lists;
      blank = blank;
      wide = wide;
      room = (omega arith, omega arith);
    }

    -- .. and joined
    module _ {t' m' gs' : List ℕ} (J : Joined n t i d e xs ys size t' m' gs') where
      map : MapTable n t
      map = passed.table

      sewn : MapTable n (sew_table n t i d e)
      sewn = relinked_table map passed.index (sew_relinked able)

      long : length (sew_table n t i d e) ≡ length t
      long = relinked_long map passed.index (sew_relinked able)

      same_slots : slots (sew_table n t i d e) ≡ slots t
      unfolding slots
      same_slots = rw long

      -- a marked dart was free, and is sewn
      free : (x : ℕ) → Marked m' x → link t i x ≡ x
      free x h = ⊎_elim (side_free able.left able.free_left x) (side_free able.right able.free_right x) (J.marked x h)

      moved : (x : ℕ) → Marked m' x → link t i x ≢ link (sew_table n t i d e) i x
      moved x h = ⊎_elim (own_moved able x) (other_moved able x) (J.marked x h)

      index : i < 4
      index = let top = map.dim.1 in let low = passed.index in omega arith

      freed : Freed (sew_table n t i d e) t m' i
      freed = record {
        long = sym long;
        fits = sewn.whole;
        few = sewn.few;
        wide = rw same_slots J.wide;
        index = index;
        sewn = λ x _ h q. moved x h (free x h ∙ sym q);
        free = λ x _ h. free x h;
        rest = λ x _ out. let (a, b) = J.unmarked x out in sym (sew_rest able x a b i index);
        other = λ x j _ low ne. sym (sew_other able x j low ne);
      }

      module _ {j : List ℕ} (rule : JournalRule j) (room : Room t (sew_table n t i d e) j) where
        pub sewn_record : MarkedRecord true t' t m' i j
        sewn_record = rw J.table (record { freed = freed; rule = rule; room = room })

        pub sewn_drafted : {w : List ℕ} → w ≡ drafted j (changes_from 0 t t') → Drafted t (sew_table n t i d e) j (2 * size) w
        sewn_drafted draft = record {
          long = sym long;
          rule = rule;
          room = room;
          count = changes_number;
          draft = rw J.table at draft;
        }
