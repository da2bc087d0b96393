-- The lowest unused slots, which add, split and insert fill (`Lowest`, `lowest_slots`), and once they are filled (`Filled`) the
-- number of live slots (`filled_count`) and of entries changed (`filled_changes`, `filled_only`). `vacant_room`: beside live slots there
-- are no more unused ones than all.
use Prim.Native.Nat.{ℕ, zero, suc, ◌+◌, ◌*◌, ◌≤◌, ◌<◌}
use mathlib.Core.Path.{◌≡◌, sym, ◌∙◌, subst}
use mathlib.Core.Logic.{◌⊎◌, inl, inr, ◌≢◌, ⊎_elim}
use mathlib.Core.Bool.{true, false}
use mathlib.Core.List.Memᴰ.{cases_cons as in-cons}
use mathlib.Core.List.Memᴰ.{not-nil}
use mathlib.Core.List.{List, [], ◌∷◌, ◌++◌, Memᴰ as In}
use mathlib.Core.List.Memᴰ.{append_cases as in-append}
use mathlib.Core.List.Memᴰ.{append_left as in_left}
use mathlib.Core.List.Memᴰ.{append_right as in_right}
use native.Mathlib.Omega.{arith}
use lib.ListN.{length, get_or, take, drop, take-append-drop, length-append, get_or-eq_default}
use borrow.Author.Tests.{eq-eqb, ne_eqb}
use Rattle.model.specs.Lists.{tabulate, count, ones_from, how_many}
use Rattle.model.specs.Table.{slots, link, live, unused_slots, live_count}
use Rattle.model.specs.Journal.{changes_from}
use Rattle.model.specs.Meaning.Lists.{member, Distinct, none, Rising, end, next}
use Rattle.model.specs.Meaning.Slots.{Vacant, Lowest, LowestUnused}
use Rattle.model.specs.Meaning.Maps.{MapTable}
use Rattle.model.specs.Meaning.Sets.{Bits}
use Rattle.theorems.proofs.Lists.Scan.{test, if_eq, if_lt, clash, length_tab, get_or_tab}
use Rattle.theorems.proofs.Lists.Ones.{vacant_frees, get_or_in, ones_in}
use Rattle.theorems.proofs.Lists.Ones.{in_or, member_in, in_member}
use Rattle.theorems.proofs.Sets.Pigeon.{distinct_append, distinct_below}
use Rattle.theorems.proofs.Maps.Rules.{dead_link}
use Rattle.theorems.proofs.Maps.Tables.{live_below, rule_at}
use Rattle.theorems.proofs.Operations.Changes.{changed_links, changes_size, changed_all, changed_none}
use Rattle.theorems.proofs.Layers.Counts.{bit, how_many_least, how_many_most, how_many_total, total_how_many}

-- ---- rising lists

pub rising_at : {l : List ℕ} → Rising l → (i j d : ℕ) → i < j → j < length l → get_or l i d < get_or l j d
rising_at end i j d ij h = absurd (omega arith)
rising_at (next low p) zero zero d ij h = absurd (omega arith)
rising_at (next {l = l} low p) zero (suc j) d ij h = low _ (get_or_in l j d (omega arith))
rising_at (next low p) (suc i) zero d ij h = absurd (omega arith)
rising_at (next low p) (suc i) (suc j) d ij h = rising_at p i j d (omega arith) (omega arith)

first_below : {l : List ℕ} → Rising l → (y : ℕ) → In y l → get_or l 0 0 ≤ y
first_below end y i = absurd (not-nil i)
first_below (next low p) y i = ⊎_elim (λ e. omega arith) (λ j. let b = low y j in omega arith) (in-cons i)

module _ (a y : ℕ) (l : List ℕ) where
  ones_step : (P : List ℕ → Type 0) → P (a ∷ ones_from (suc a) l) → P (ones_from (suc a) l) → P (ones_from a (y ∷ l))
  unfolding ones_from
  ones_step P p q = if_eq y 1 (λ e. rw (eq-eqb y 1 e, ones_from) p) (λ e. rw (ne_eqb y 1 e, ones_from) q)

ones_from_lem : (l : List ℕ) (a x : ℕ) → In x (ones_from a l) → a ≤ x
unfolding ones_from
ones_from_lem [] a x i = absurd (not-nil i)
ones_from_lem (y ∷ l) a x i =
    let rest = ones_from_lem l (suc a) x in
    let later : In x (ones_from (suc a) l) → a ≤ x = λ j. let h = rest j in omega arith in
    ones_step a y l (λ r. In x r → a ≤ x) (λ j. ⊎_elim (λ e. omega arith) later (in-cons j)) later i

pub ones_rising : (l : List ℕ) (a : ℕ) → Rising (ones_from a l)
unfolding ones_from
ones_rising [] a = end
ones_rising (y ∷ l) a =
    let rest = ones_rising l (suc a) in
    ones_step a y l Rising (next (λ x i. ones_from_lem l (suc a) x i) rest) rest

rising_left : (k l : List ℕ) → Rising (k ++ l) → Rising k
rising_left [] l p = end
rising_left (x ∷ k) l (next low p) = next (λ y i. low y (in_left l i)) (rising_left k l p)

rising_apart : (k l : List ℕ) → Rising (k ++ l) → (x y : ℕ) → In x k → In y l → x < y
rising_apart [] l p x y i j = absurd (not-nil i)
rising_apart (z ∷ k) l (next low p) x y i j =
    let rest = rising_apart k l p x y in
    ⊎_elim (λ (e : x ≡ z). let h = low y (in_right k j) in omega arith) (λ i'. rest i' j) (in-cons i)

-- ---- the lowest unused slots

unused_in : (t : List ℕ) (x : ℕ) → x < slots t → live t x ≡ false → In x (unused_slots t)
unfolding unused_slots
unused_in t x h e = ones_in _ x (get_or_tab (λ d. elim (live t d) [ true ↦ 0 | false ↦ 1 ]) (slots t) x 0 h ∙ rw e)

unused_rising : (t : List ℕ) → Rising (unused_slots t)
unfolding unused_slots
unused_rising t = ones_rising _ 0

pub lowest_slots : (t : List ℕ) (k : ℕ) → Lowest t (take k (unused_slots t))
lowest_slots t k = record { vacant = vacant_frees t k; rising = rising_left low high parts; lowest = below }
  where
    low : List ℕ
    low = take k (unused_slots t)

    high : List ℕ
    high = drop k (unused_slots t)

    parts : Rising (low ++ high)
    parts = subst Rising (sym (take-append-drop k (unused_slots t))) (unused_rising t)

    below : (x y : ℕ) → In x low → y < slots t → live t y ≡ false → (In y low → ⊥) → x < y
    below x y i h e out = ⊎_elim (λ j. absurd (out j)) (λ j. rising_apart low high parts x y i j)
        (in-append low (subst (In y) (sym (take-append-drop k (unused_slots t))) (unused_in t y h e)))

pub lowest_first : {t fs : List ℕ} → Lowest t fs → 0 < length fs → LowestUnused t (get_or fs 0 0)
lowest_first {t} {fs} L some = (L.vacant.inside _ first, L.vacant.dead _ first, least)
  where
    first : In (get_or fs 0 0) fs
    first = get_or_in fs 0 0 some

    least : (y : ℕ) → y < slots t → live t y ≡ false → get_or fs 0 0 ≤ y
    least y h e = ⊎_elim (first_below L.rising y) (λ out. let b = L.lowest _ y first h e out in omega arith) (in_or fs y)

-- ---- the live slots

not_member : (l : List ℕ) (x : ℕ) → (In x l → ⊥) → member l x ≡ false
not_member l x out = test (member l x) (λ e. absurd (out (member_in l x e))) (λ e. e)

-- the live slots of u are those of t, and fs
pub record Filled (t u fs : List ℕ) : Type 0 where
  pub same : slots u ≡ slots t
  pub kept : (x : ℕ) → live t x ≡ true → live u x ≡ true
  pub made : (x : ℕ) → In x fs → live u x ≡ true
  pub only : (x : ℕ) → live u x ≡ true → (live t x ≡ true) ⊎ In x fs

-- as many of the first k slots pass as fs are
slots_number : (k : ℕ) (fs : List ℕ) → Distinct fs → ((x : ℕ) → In x fs → x < k) → how_many k (member fs) ≡ length fs
slots_number k fs once low =
    let least = how_many_least k (member fs) fs once (λ x i. (low x i, in_member fs x i)) in
    let most = how_many_most k (member fs) fs (λ x h e. member_in fs x e) in
    omega arith

pub filled_count : {t u fs : List ℕ} → Vacant t fs → Filled t u fs → live_count u ≡ live_count t + length fs
unfolding live_count how_many
filled_count {t} {u} {fs} vacant F =
    let number = slots_number (slots t) fs vacant.once vacant.inside in
    let all = how_many_total (slots t) (live u) in
    let parts = total_how_many 1 (slots t) (λ x. bit (live u x)) (live t) (member fs) (λ x _. each x) in
    rw F.same (omega arith)
  where
    each : (x : ℕ) → bit (live u x) ≡ 1 * bit (live t x) + bit (member fs x)
    each x = ⊎_elim (λ i. rw (F.made x i, vacant.dead x i, in_member fs x i))
        (λ out. rw (not_member fs x out) (test (live t x) (λ e. rw (F.kept x e, e))
        (λ e. test (live u x) (λ q. absurd (⊎_elim (λ l. clash l e) out (F.only x q))) (λ q. rw (q, e))))) (in_or fs x)

-- ---- the entries changed

-- marks the slots fs
slot_marks : ℕ → List ℕ → List ℕ
slot_marks k fs = tabulate k (λ x. elim (member fs x) [ true ↦ 1 | false ↦ 0 ])

module _ (k : ℕ) (fs : List ℕ) where
  slot_long : length (slot_marks k fs) ≡ k
  unfolding slot_marks
  slot_long = length_tab _ k

  slot_mark : (x : ℕ) → x < k → In x fs → get_or (slot_marks k fs) x 0 ≡ 1
  unfolding slot_marks
  slot_mark x h i = get_or_tab (λ x. elim (member fs x) [ true ↦ 1 | false ↦ 0 ]) k x 0 h ∙ rw (in_member fs x i)

  slot_bare : (x : ℕ) → x < k → (In x fs → ⊥) → get_or (slot_marks k fs) x 0 ≡ 0
  unfolding slot_marks
  slot_bare x h out = get_or_tab (λ x. elim (member fs x) [ true ↦ 1 | false ↦ 0 ]) k x 0 h
      ∙ rw (not_member fs x out)

  slot_bits : Bits (slot_marks k fs)
  slot_bits x = if_lt x k (λ h. ⊎_elim (λ i. inr (slot_mark x h i)) (λ out. inl (slot_bare x h out)) (in_or fs x))
      (λ h. inl (get_or-eq_default (slot_marks k fs) 0 (let e = slot_long in omega arith)))

module _ {n : ℕ} {t u fs : List ℕ} (T : MapTable n t) (U : MapTable n u) (long : length u ≡ length t) (vacant : Vacant t fs)
    (F : Filled t u fs) where
  filled_link : (x : ℕ) → In x fs → (j : ℕ) → j < 4 → link t j x ≢ link u j x
  filled_link x i j b e =
      let none = dead_link t x (vacant.dead x i) j b in
      let low = live_below U (link u j x) ((rule_at U x (F.made x i)).goes j b) in
      let few = U.few in
      omega arith

  -- the four entries of each of fs, and as many of the other slots as s marks
  pub filled_changes : (s : List ℕ) → length s ≡ slots t → Bits s → ((x : ℕ) → In x fs → get_or s x 0 ≡ 0)
      → ((x : ℕ) → x < slots t → (In x fs → ⊥) → changed_links t u x ≡ get_or s x 0)
      → length (changes_from 0 t u) ≡ 4 * length fs + count 1 s
  unfolding slot_marks how_many
  filled_changes s long_s bits_s apart others =
      let size = changes_size t u T.whole long 4 1 marks s (slot_long _ fs) long_s (slot_bits _ fs) bits_s each in
      let number = slots_number (slots t) fs vacant.once vacant.inside in
      omega arith
    where
      marks : List ℕ
      marks = slot_marks (slots t) fs

      each : (x : ℕ) → x < slots t → changed_links t u x ≡ 4 * get_or marks x 0 + 1 * get_or s x 0
      each x h = ⊎_elim
          (λ i.
          let m = slot_mark (slots t) fs x h i in
          let z = apart x i in
          let c = changed_all t u x (filled_link x i) in
          omega arith)
          (λ out.
          let m = slot_bare (slots t) fs x h out in
          let c = others x h out in
          omega arith) (in_or fs x)

  -- where the other slots stay
  pub filled_only : ((x j : ℕ) → j < 4 → (In x fs → ⊥) → link u j x ≡ link t j x) → length (changes_from 0 t u) ≡ 4 * length fs
  unfolding slot_marks how_many
  filled_only stays =
      let all = filled_changes none_marked (slot_long _ []) (slot_bits _ []) (λ x i. bare x (vacant.inside x i))
      (λ x h out. changed_none t u x (λ j b. stays x j b out) ∙ sym (bare x h)) in
      let number = slots_number (slots t) [] none (λ x i. absurd (not-nil i)) in
      omega arith
    where
      none_marked : List ℕ
      none_marked = slot_marks (slots t) []

      bare : (x : ℕ) → x < slots t → get_or none_marked x 0 ≡ 0
      bare x h = slot_bare (slots t) [] x h not-nil

-- slots that are unused, and others that are live, are no more than all slots
pub vacant_room : {n : ℕ} {t fs l : List ℕ} → MapTable n t → Vacant t fs → Distinct l → ((x : ℕ) → In x l → live t x ≡ true)
    → length fs + length l ≤ slots t
vacant_room {t = t} {fs} {l} T empty once alive =
    let all = distinct_below (slots t) (fs ++ l)
    (distinct_append fs l empty.once once (λ x i j. clash (alive x j) (empty.dead x i)))
    (λ x i. ⊎_elim (empty.inside x) (λ j. live_below T x (alive x j)) (in-append fs i)) in
    let parts = length-append fs l in
    omega arith
