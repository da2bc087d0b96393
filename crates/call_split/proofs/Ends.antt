-- How split ends: refused by the checks up to 8 (`split_refused`), by 13 (`split_crosses`) or 14 (`split_few`), else (`Ready`) by what is
-- left of it, `commit` (`split_goes`); and what it knows on the way: what `crosses` asks (`leads_in`), what the record is written from
-- (`writing`), and its draft (`split_drafted`).
use Prim.Native.Nat.{ℕ, ◌+◌, ◌-◌, ◌*◌, ◌≤◌, ◌<◌}
use mathlib.Core.Path.{◌≡◌, sym, ap, ◌∙◌}
use mathlib.Core.Logic.{◌≢◌}
use mathlib.Core.Bool.{Bool, true, false}
use mathlib.Core.List.{List}
use native.Mathlib.Nat.{mul-pos}
use native.Mathlib.Omega.{arith}
use lib.ListN.{length, get_or, take}
use lib.Seq.{get_or-take}
use lib.Dec.{leb}
use borrow.Author.Tests.{eqb-true, eq-eqb, ne_eqb}
use Rattle.model.specs.Lists.{count, ones}
use Rattle.model.specs.Table.{slots, link, live, unused_slots}
use Rattle.model.specs.Sheet.{sheet}
use Rattle.model.specs.NewDarts.{slots_for}
use Rattle.model.specs.Split.{crosses, split_table}
use Rattle.model.specs.Journal.{cursor, changes_from, record_length}
use Rattle.model.specs.Checks.{must, and_then, marks_ok, in_order, layer_checks, crossing_ok, new_room_ok, split_checks}
use Rattle.model.specs.Calls.{refused, commit, split_call}
use Rattle.model.specs.Meaning.Maps.{Dim, MapTable}
use Rattle.model.specs.Meaning.Sets.{Marked}
use Rattle.model.specs.Meaning.Splits.{Splits}
use Rattle.theorems.proofs.Lists.Ones.{index_in, ones_in}
use Rattle.theorems.proofs.Sets.Sizes.{length_ones, ones_few}
use Rattle.theorems.proofs.Maps.Dim.{two_cases}
use Rattle.theorems.proofs.Maps.Tables.{map_table, live_below, rule_at}
use Rattle.theorems.proofs.Calls.Pass.{must_pass}
use Rattle.theorems.proofs.Layers.Sheet.{sheet_own, sheet_live}
use Rattle.theorems.proofs.Layers.Marks.{marks_one}
use Rattle.theorems.proofs.Layers.Split.{split_changes, split_length}
use Rattle.drafts.specs.Drafts.{drafted}
use Rattle.drafts.specs.Passes.{Room, Drafted}
use Rattle.drafts.proofs.Commits.{fits_room}
use Rattle.answers.specs.Answers.{Refused, alone, outcome}
use Rattle.answers.proofs.Layered.{Layered, Sheeted, given, layer, marks_few}
use Rattle.call_split.specs.Sheets.{LeadsIn}
use Rattle.new_darts.specs.Slots.{SlotsFound}
use Rattle.new_darts.specs.Placed.{Placed}
use Rattle.new_darts.specs.News.{split_made, by_split}
use Rattle.new_darts.specs.Drafting.{Writing}
use Rattle.call_split.proofs.Ones.{marks_ones, marks_crosses}
use Rattle.call_split.proofs.Room.{split_room}
use Rattle.std.specs.Prelude.{Err}
use Rattle.answers.specs.Openings.{refusing}
use Rattle.refusals.specs.declared.Reason.TheVariants.{CrossesItself, TooFewSlots}
use Rattle.answers.proofs.Settled.{by_reason}

pub split_refused : (n : ℕ) (t m j : List ℕ) (tag d : ℕ) (r : Refused) → in_order (layer_checks n t m j d) ≡ refusing r
    → outcome (Err r) t m j ≡ split_call n t m j tag d
unfolding split_call refused
split_refused n t m j tag d r h = rw (h, split_call)

-- what `sheets::sheet` asks
pub marks_long : {n d : ℕ} {t m j : List ℕ} → Layered n t m j d → length m ≡ slots t
unfolding marks_ok
marks_long L = eqb-true _ _ (must_pass _ 3 L.marks)

-- the darts of S
abbrev darts_of : ℕ → List ℕ → ℕ → List ℕ
darts_of n t d = ones (sheet n t d)

-- the checks but 15 have passed: the sheet is marked, its size known, and the first words of `fresh` are the new slots
pub record Ready (n : ℕ) (t m j : List ℕ) (d : ℕ) (s : List ℕ) (size : ℕ) (fresh : List ℕ) : Type 0 where
  pub sheeted : Sheeted n t m j d s
  pub number : size ≡ count 1 (sheet n t d)
  pub splits : Splits n t d
  pub taken : take (n * size) fresh ≡ slots_for n t (darts_of n t d)
  pub half : n * size + n * size ≤ slots t

-- the sheet is marked, and its size known
module _ {n d : ℕ} {t m j s : List ℕ} (H : Sheeted n t m j d s) {size : ℕ} (number : size ≡ count 1 (sheet n t d)) where
  split_stops : (tag : ℕ) (r : Refused) → in_order (split_checks n t (sheet n t d) (darts_of n t d)) ≡ refusing r
      → outcome (Err r) t s j ≡ split_call n t m j tag d
  unfolding split_call refused
  split_stops tag r h = rw (H.passed, split_call, h, split_call, H.marked)

  pub size_is : size ≡ length (darts_of n t d)
  size_is = number ∙ sym (length_ones (sheet n t d) 0)

  pub ones_is : ones s ≡ darts_of n t d
  ones_is = ap ones H.marked ∙ marks_ones (given H).dart

  pub size_ones : size ≡ length (ones s)
  size_ones = size_is ∙ ap length (sym ones_is)

  size_few : size ≤ 65536
  size_few = let most = ones_few s 0 in let is = size_ones in let few = marks_few H in omega arith

  pub new_few : n * size ≤ 196608
  new_few = let few = size_few in two_cases n (given H).dart.table.dim (λ n. n * size ≤ 196608) (omega arith) (omega arith)

  -- the darts fit into a fourth of the slots, where the new ones fit into half of them
  pub darts_fit : (k : ℕ) → n * size + n * size ≤ slots t → slots t ≤ 4 * k → size ≤ k
  darts_fit k = two_cases n (given H).dart.table.dim (λ n. n * size + n * size ≤ slots t → slots t ≤ 4 * k → size ≤ k)
      (λ half most. omega arith) (λ half most. omega arith)

  pub changes_few : (4 * n + 1) * size ≤ 851968
  changes_few =
      let few = size_few in
      two_cases n (given H).dart.table.dim (λ n. (4 * n + 1) * size ≤ 851968) (omega arith) (omega arith)

  pub some_new : 0 < n * size
  some_new =
      let own = index_in (darts_of n t d) d (ones_in (sheet n t d) d (sheet_own (given H).dart)) in
      let is = size_is in
      let two = (given H).dart.table.dim.0 in
      mul-pos (omega arith) (omega arith)

  pub leads_in : LeadsIn t s
  leads_in = record {
    few = marks_few H;
    slot = λ x one.
        let inside = live_below T x (lives x one) in
        let whole = T.whole in
        omega arith;
    leads = λ x one.
        let long = (layer H).long in
        let inside = live_below T (link t 1 x) ((rule_at T x (lives x one)).goes 1 (omega arith)) in
        omega arith;
  }
    where
      T : MapTable n t
      T = map_table (given H).dart.table

      lives : (x : ℕ) → Marked s x → live t x ≡ true
      lives x one = sheet_live (given H).dart x ((marks_one (given H).dart x).0 (rw H.marked at one))

  -- 13
  module _ {b : Bool} (is : b ≡ crosses t s (ones s)) where
    crossed : crosses t (sheet n t d) (darts_of n t d) ≡ b
    crossed = sym (is ∙ rw H.marked (marks_crosses (given H).dart))

    pub split_crosses : (tag : ℕ) {r : Refused} → b ≡ true → r ≡ alone CrossesItself → outcome (Err r) t s j ≡ split_call n t m j tag d
    unfolding split_checks crossing_ok in_order and_then must
    split_crosses tag h is = split_stops tag _ (by_reason is (rw (crossed, h)))

    -- 14
    module _ (uncrossed : b ≡ false) {r : Bool} {fresh₀ fresh : List ℕ} (F : SlotsFound t (n * size) (n * size) fresh₀ fresh r) where
      slots_new : take (n * size) (unused_slots t) ≡ slots_for n t (darts_of n t d)
      unfolding slots_for
      slots_new = rw size_is

      -- were they enough
      would : length (slots_for n t (darts_of n t d)) ≡ n * length (darts_of n t d) → Splits n t d
      would room = record { dart = (given H).dart; uncrossed = crossed ∙ uncrossed; room = room }

      too_few : r ≡ false → length (slots_for n t (darts_of n t d)) ≢ n * length (darts_of n t d)
      too_few h room =
          F.few h (rw size_is (split_room (would room))) (ap length slots_new ∙ room ∙ ap (λ (k : ℕ). n * k) (sym size_is))

      pub split_few : (tag : ℕ) {e : Refused} → r ≡ false → e ≡ alone TooFewSlots → outcome (Err e) t s j ≡ split_call n t m j tag d
      unfolding split_checks crossing_ok new_room_ok in_order and_then must
      split_few tag h is = split_stops tag _ (by_reason is (rw (crossed, uncrossed, ne_eqb _ _ (too_few h))))

      -- they are
      pub ready : r ≡ true → Ready n t m j d s size fresh
      ready all = record {
        sheeted = H;
        number = number;
        splits = would (ap length (sym slots_new) ∙ F.enough all ∙ ap (λ (k : ℕ). n * k) size_is);
        taken = F.listed all ∙ slots_new;
        half = F.within all;
      }

-- ---- 13 and 14 have passed

module _ {n d : ℕ} {t m j s : List ℕ} {size : ℕ} {fresh : List ℕ} (R : Ready n t m j d s size fresh) where
  pub split_goes : (tag : ℕ) → split_call n t m j tag d
      ≡ commit t (split_table n t d) s j tag (get_or (slots_for n t (darts_of n t d)) 0 0) (λ cs. n * length (darts_of n t d))
  unfolding split_call split_checks crossing_ok new_room_ok in_order and_then must
  split_goes tag =
      let H = R.sheeted in
      rw (H.passed, split_call, R.splits.uncrossed, eq-eqb _ _ R.splits.room, split_call, H.marked)

  pub changes_number : (4 * n + 1) * size ≡ length (changes_from 0 t (split_table n t d))
  changes_number = rw R.number (sym (split_changes R.splits))

  -- "Place: first new slot. Count: darts added."
  pub first_new : get_or fresh 0 0 ≡ get_or (slots_for n t (darts_of n t d)) 0 0
  first_new =
      sym (get_or-take (n * size) fresh 0 0 (some_new R.sheeted R.number)) ∙ ap (λ (l : List ℕ). get_or l 0 0) R.taken

  pub new_count : n * size ≡ n * length (darts_of n t d)
  new_count = ap (λ (k : ℕ). n * k) (size_is R.sheeted R.number)

  -- what `list_darts` asks
  pub darts_asked : (l : ℕ) → slots t ≤ 4 * l
      → (length s ≤ 65536) × (size ≡ length (ones s)) × (n * size ≤ 65536) × Dim n × (size ≤ l)
  darts_asked l room =
      let H = R.sheeted in
      let half = R.half in
      let few = (given H).dart.table.few in
      (marks_few H, size_ones H R.number, omega arith, (given H).dart.table.dim, darts_fit H R.number l half room)

  -- the record has room, and the darts are listed
  module _ {k : ℕ} {b : Bool} (count : k ≡ (4 * n + 1) * size) (tested : b ≡ leb (record_length k) (length j - cursor j)) (fits : b ≡ true) where
    room_there : Room t (split_table n t d) j
    room_there = fits_room t (split_table n t d) j k (count ∙ changes_number) b tested fits

    pub writing : {darts₀ darts places₀ places : List ℕ} → Placed n (ones s) size darts₀ darts places₀ places
        → slots t ≤ 2 * length fresh → slots t ≤ 4 * length darts₀ → slots t ≤ length places₀
        → Writing n false t (split_made n t d) places darts fresh places size j
    writing P room long wide =
        let H = R.sheeted in
        let half = R.half in
        let same = P.long in
        let same_places = P.wide in
        record {
          makes = by_split R.splits;
          listed = record {
            number = size_is H R.number;
            old = P.front ∙ ones_is H R.number;
            new = R.taken;
            place = P.place;
            long = darts_fit H R.number _ half (omega arith);
            room = omega arith;
            wide = omega arith;
          };
          rule = (given H).rule;
          fits = room_there;
        }

    pub split_drafted : (w : List ℕ) → w ≡ drafted j (changes_from 0 t (split_table n t d)) → Drafted t (split_table n t d) j k w
    split_drafted w draft = record {
      long = sym (split_length R.splits);
      rule = (given R.sheeted).rule;
      room = room_there;
      count = count ∙ changes_number;
      draft = draft;
    }
