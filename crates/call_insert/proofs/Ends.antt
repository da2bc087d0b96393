-- How insert ends: refused by the checks up to 8 or by its wall (`insert_refused`, `wall_refused`), by 14 (`insert_few`), else (`Ready`) by
-- what is left of it, `commit` (`insert_goes`); and what it knows on the way: what the record is written from (`writing`), and its draft
-- (`insert_drafted`).
use Prim.Native.Nat.{ℕ, ◌+◌, ◌-◌, ◌*◌, ◌≤◌, ◌<◌}
use mathlib.Core.Path.{◌≡◌, refl, sym, ap, ◌∙◌}
use mathlib.Core.Logic.{◌≢◌}
use mathlib.Core.Bool.{Bool, true, false}
use mathlib.Core.List.{List, [], ◌∷◌, ◌++◌}
use native.Mathlib.Nat.{mul-pos}
use native.Mathlib.Omega.{arith}
use lib.ListN.{length, get_or, take, drop, length-drop}
use lib.Seq.{get_or-take}
use lib.Dec.{leb}
use borrow.Author.Tests.{eqb-true, eq-eqb, ne_eqb}
use Rattle.model.specs.Lists.{ones, index_of}
use Rattle.model.specs.Table.{slots, unused_slots}
use Rattle.model.specs.NewDarts.{slots_for}
use Rattle.model.specs.Insert.{insert_table}
use Rattle.model.specs.Journal.{cursor, changes_from, record_length}
use Rattle.model.specs.Checks.{Check, pass, must, and_then, marks_ok, table_ok, map_checks, in_order, new_room_ok, wall_checks, insert_checks}
use Rattle.model.specs.Calls.{refused, commit, insert_call}
use Rattle.model.specs.Runs.{Op}
use Rattle.model.specs.Meaning.Ends.{op_numbers}
use Rattle.model.specs.Meaning.Maps.{Dim, BlockTable}
use Rattle.model.specs.Meaning.Numbers.{JournalRule}
use Rattle.model.specs.Meaning.Walls.{Inserts}
use Rattle.theorems.proofs.Lists.Ones.{ones_of, ones_distinct}
use Rattle.theorems.proofs.Sets.Sizes.{length_ones, ones_few}
use Rattle.theorems.proofs.Maps.Dim.{two_cases}
use Rattle.theorems.proofs.Maps.Tables.{map_table}
use Rattle.theorems.proofs.Operations.Slots.{vacant_room}
use Rattle.theorems.proofs.Insert.Wall.{drawn_of, wall_some}
use Rattle.theorems.proofs.Insert.Inserted.{insert_changes, insert_length, insert_lowest}
use Rattle.theorems.proofs.Calls.Checks.{passed_number, append_passed, append_refused}
use Rattle.theorems.proofs.Calls.Pass.{must_pass, journal_pass, rules_pass, block_table_of, insert_passed}
use Rattle.drafts.specs.Drafts.{drafted}
use Rattle.drafts.specs.Passes.{Room, Drafted}
use Rattle.drafts.proofs.Commits.{fits_room}
use Rattle.answers.specs.Answers.{Reason, Refused, alone, outcome}
use Rattle.walls.specs.Tests.{Passes, Refuses}
use Rattle.new_darts.specs.Slots.{SlotsFound}
use Rattle.new_darts.specs.News.{insert_made, by_insert}
use Rattle.new_darts.specs.Drafting.{Writing}
use Rattle.call_insert.specs.Opened.{opening_checks}
use Rattle.call_insert.specs.Behind.{ListedBehind}
use Rattle.std.specs.Prelude.{Err}
use Rattle.answers.specs.Openings.{refusing}
use Rattle.refusals.specs.declared.Reason.TheVariants.{TooFewSlots}
use Rattle.answers.proofs.Settled.{by_reason}

module _ (n : ℕ) (t m j : List ℕ) where
  -- the checks that are left behind 8
  abbrev behind : List Check
  behind = wall_checks n t m ++ (new_room_ok n t (ones m) ∷ [])

  checks_are : insert_checks n t m j ≡ opening_checks n t m j ++ behind
  unfolding insert_checks opening_checks map_checks
  checks_are = refl

  pub insert_refused : (tag : ℕ) (r : Refused) → in_order (insert_checks n t m j) ≡ refusing r
      → outcome (Err r) t m j ≡ insert_call n t m j tag
  unfolding insert_call refused
  insert_refused tag r h = rw (h, insert_call)

-- what the passed checks up to 8 say
pub record Opened (n : ℕ) (t m j : List ℕ) : Type 0 where
  pub passed : in_order (opening_checks n t m j) ≡ pass
  pub fits : table_ok t ≡ pass
  pub table : BlockTable n t
  pub long : length m ≡ slots t
  pub rule : JournalRule j

pub opened : {n : ℕ} {t m j : List ℕ} → in_order (opening_checks n t m j) ≡ pass → Opened n t m j
unfolding opening_checks map_checks marks_ok index_of
opened {n} {t} {m} {j} h =
    let q = passed_number (op_numbers (Op.insert m)) (opening_checks n t m j) h in
    record {
      passed = h;
      fits = q 2;
      table = block_table_of n t (q 1) (q 2) (rules_pass n t (q 5) (q 24) (q 25) (q 26)) (q 8);
      long = eqb-true _ _ (must_pass _ 3 (q 3));
      rule = journal_pass j (q 4);
    }

module _ {n : ℕ} {t m j : List ℕ} (O : Opened n t m j) where
  left_are : in_order (insert_checks n t m j) ≡ in_order (behind n t m j)
  left_are = ap in_order (checks_are n t m j) ∙ append_passed (opening_checks n t m j) (behind n t m j) O.passed

  pub wall_refused : (tag : ℕ) {why : Reason} {r : Refused} → Refuses n t m why → r ≡ alone why → outcome (Err r) t m j ≡ insert_call n t m j tag
  wall_refused tag refuses is = insert_refused n t m j tag _
      (by_reason is (left_are ∙ append_refused (wall_checks n t m) (new_room_ok n t (ones m) ∷ []) refuses))

  -- the wall passes
  module _ {nexts : List ℕ} {size : ℕ} (T : Passes n t m nexts size) where
    pub size_is : size ≡ length (ones m)
    size_is = T.size

    -- what is left is 14
    last_is : in_order (insert_checks n t m j) ≡ in_order (new_room_ok n t (ones m) ∷ [])
    last_is = left_are ∙ append_passed (wall_checks n t m) (new_room_ok n t (ones m) ∷ []) T.checks

    size_few : size ≤ 65536
    size_few =
        let most = ones_few m 0 in
        let is = size_is in
        let long = O.long in
        let few = O.table.few in
        omega arith

    pub new_few : n * size ≤ 196608
    new_few = let few = size_few in two_cases n O.table.dim (λ n. n * size ≤ 196608) (omega arith) (omega arith)

    pub both_few : n * size + size ≤ 262144
    both_few = let few = size_few in two_cases n O.table.dim (λ n. n * size + size ≤ 262144) (omega arith) (omega arith)

    pub changes_few : (4 * n + 1) * size ≤ 851968
    changes_few = let few = size_few in two_cases n O.table.dim (λ n. (4 * n + 1) * size ≤ 851968) (omega arith) (omega arith)

    -- 14
    module _ {r : Bool} {fresh₀ fresh : List ℕ} (F : SlotsFound t (n * size) size fresh₀ fresh r) where
      slots_new : take (n * size) (unused_slots t) ≡ slots_for n t (ones m)
      unfolding slots_for
      slots_new = rw size_is

      -- were they enough
      would : length (slots_for n t (ones m)) ≡ n * length (ones m) → Inserts n t m
      unfolding new_room_ok must in_order and_then
      would room = insert_passed n t j m (last_is ∙ rw (eq-eqb _ _ room))

      too_few : r ≡ false → length (slots_for n t (ones m)) ≢ n * length (ones m)
      too_few h room =
          let I = would room in
          let all = vacant_room (map_table O.table) (insert_lowest I).vacant (ones_distinct m 0)
          (λ x i. (drawn_of I).lives x (ones_of m x i)) in
          let is = size_is in
          F.few h (rw size_is (omega arith)) (ap length slots_new ∙ room ∙ ap (λ (k : ℕ). n * k) (sym size_is))

      pub insert_few : (tag : ℕ) {e : Refused} → r ≡ false → e ≡ alone TooFewSlots → outcome (Err e) t m j ≡ insert_call n t m j tag
      unfolding new_room_ok must in_order and_then
      insert_few tag h is = insert_refused n t m j tag _ (by_reason is (last_is ∙ rw (ne_eqb _ _ (too_few h))))

      -- the checks but 15 have passed: the first words of `fresh` are the new slots
      module _ (all : r ≡ true) where
        pub inserts : Inserts n t m
        inserts = would (ap length (sym slots_new) ∙ F.enough all ∙ ap (λ (k : ℕ). n * k) size_is)

        pub taken : take (n * size) fresh ≡ slots_for n t (ones m)
        taken = F.listed all ∙ slots_new

        pub insert_goes : (tag : ℕ) → insert_call n t m j tag
            ≡ commit t (insert_table n t m) m j tag (get_or (slots_for n t (ones m)) 0 0) (λ cs. n * length (ones m))
        unfolding insert_call new_room_ok must in_order and_then
        insert_goes tag = rw (last_is, insert_call, eq-eqb _ _ inserts.room, insert_call)

        pub changes_number : (4 * n + 1) * size ≡ length (changes_from 0 t (insert_table n t m))
        changes_number = ap (λ (k : ℕ). (4 * n + 1) * k) (size_is ∙ length_ones m 0) ∙ sym (insert_changes inserts)

        pub some_new : 0 < n * size
        some_new =
            let some = wall_some inserts in
            let is = size_is in
            let two = O.table.dim.0 in
            mul-pos (omega arith) (omega arith)

        -- "place: first new slot; count: darts added"
        pub first_new : (queue : List ℕ) → take (n * size) queue ≡ take (n * size) fresh → get_or queue 0 0 ≡ get_or (slots_for n t (ones m)) 0 0
        first_new queue same =
            sym (get_or-take (n * size) queue 0 0 some_new) ∙ ap (λ (l : List ℕ). get_or l 0 0) (same ∙ taken)

        pub new_count : n * size ≡ n * length (ones m)
        new_count = ap (λ (k : ℕ). n * k) size_is

        -- what `list_behind` asks
        pub behind_asked : (l k : ℕ) → slots t ≤ l → slots t ≤ k
            → (length m ≤ 65536) × (size ≡ length (ones m)) × Dim n × (n * size ≤ 65536) × (n * size + size ≤ l) × (length m ≤ k)
        behind_asked l k room wide =
            let long = O.long in
            let few = O.table.few in
            let within = F.within all in
            (omega arith, size_is, O.table.dim, omega arith, omega arith, omega arith)

        -- the record has room, and the darts are listed
        module _ {k : ℕ} {b : Bool} (count : k ≡ (4 * n + 1) * size) (tested : b ≡ leb (record_length k) (length j - cursor j)) (fits : b ≡ true)
          where
            room_there : Room t (insert_table n t m) j
            room_there = fits_room t (insert_table n t m) j k (count ∙ changes_number) b tested fits

            pub writing : {queue places₀ places : List ℕ} → ListedBehind n (ones m) size fresh queue places₀ places
                → slots t ≤ length fresh → slots t ≤ length nexts → slots t ≤ length places₀
                → Writing n true t (insert_made n t m) nexts (drop (n * size) queue) queue places size j
            writing {queue} {places₀} {places} P room known wide =
                let within = F.within all in
                let same = P.long in
                let same_places = P.placed.wide in
                let left = length-drop (n * size) queue in
                record {
                  makes = by_insert inserts (record { wide = known; next = T.next });
                  listed = record {
                    number = size_is;
                    old = P.placed.front;
                    new = P.before ∙ taken;
                    place = P.placed.place;
                    long = omega arith;
                    room = omega arith;
                    wide = omega arith;
                  };
                  rule = O.rule;
                  fits = room_there;
                }

            pub insert_drafted : (w : List ℕ) → w ≡ drafted j (changes_from 0 t (insert_table n t m)) → Drafted t (insert_table n t m) j k w
            insert_drafted w draft = record {
              long = sym (insert_length inserts);
              rule = O.rule;
              room = room_there;
              count = count ∙ changes_number;
              draft = draft;
            }
