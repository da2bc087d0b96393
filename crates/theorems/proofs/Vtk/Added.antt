-- "Each cell is added as by add": the links 0, 1 and 2 are those that so many adds leave, in the same slots.
-- Main theorem: `as_by_add`.
use Prim.Native.Nat.{ℕ, zero, suc, ◌+◌, ◌*◌, ◌-◌, ◌%◌, ◌≤◌, ◌<◌}
use mathlib.Core.Path.{◌≡◌, refl, sym, ap, ◌∙◌, subst}
use mathlib.Core.Bool.{true, false}
use mathlib.Core.List.{List, ◌∷◌, Memᴰ as In}
use native.Mathlib.Omega.{arith}
use lib.ListN.{length, get_or, take}
use borrow.Author.Tests.{eq-eqb, ne_eqb}
use Rattle.model.specs.Lists.{tabulate, tabulate_from, ones_from}
use Rattle.model.specs.Faces.{darts, own_link, vtk_table}
use Rattle.model.specs.Table.{unused, slots, link, live, unused_slots}
use Rattle.model.specs.Cell.{cell_size}
use Rattle.model.specs.Numbering.{cell_link}
use Rattle.model.specs.Add.{add_slots, add_table}
use Rattle.model.specs.Meaning.Maps.{MapTable}
use Rattle.model.specs.Meaning.Vtk.{Readable, add_all}
use Rattle.model.specs.Meaning.Slots.{added_dart}
use Rattle.theorems.proofs.Lists.Scan.{if_lt, in_tab, length_tab_from, clash}
use Rattle.theorems.proofs.Maps.Rules.{live_by, dead_by, dead_link}
use Rattle.theorems.proofs.Operations.Added.{add_links, add_stays, add_made, add_length}
use Rattle.theorems.proofs.Operations.Relink.{long_slots}
use Rattle.theorems.proofs.Vtk.Sites.{link_low}
use Rattle.theorems.proofs.Vtk.Table.{own_at, read_own, read_stays}

-- ---- lists of numbers in a row

abbrev self : ℕ → ℕ
self x = x

get_or_from : (k a i d : ℕ) → i < k → get_or (tabulate_from k a self) i d ≡ a + i
unfolding tabulate_from
get_or_from zero a i d h = absurd (omega arith)
get_or_from (suc k) a zero d h = omega arith
get_or_from (suc k) a (suc i) d h = get_or_from k (suc a) i d (omega arith) ∙ omega arith

take_from : (m k a : ℕ) → m ≤ k → take m (tabulate_from k a self) ≡ tabulate_from m a self
unfolding tabulate_from
take_from zero k a h = refl
take_from (suc m) zero a h = absurd (omega arith)
take_from (suc m) (suc k) a h = ap (λ (l : List ℕ). a ∷ l) (take_from m k (suc a) (omega arith))

-- the places of the ones, where f is 0 below a and 1 from there on
module _ (f : ℕ → ℕ) (a : ℕ) (low : (x : ℕ) → x < a → f x ≡ 0) (high : (x : ℕ) → a ≤ x → f x ≡ 1) where
  ones_high : (k b : ℕ) → a ≤ b → ones_from b (tabulate_from k b f) ≡ tabulate_from k b self
  unfolding ones_from tabulate_from
  ones_high zero b h = refl
  ones_high (suc k) b h =
      rw (eq-eqb (f b) 1 (high b h), ones_from) (ap (λ (l : List ℕ). b ∷ l) (ones_high k (suc b) (omega arith)))

  ones_low : (k b : ℕ) → b ≤ a → a ≤ b + k → ones_from b (tabulate_from k b f) ≡ tabulate_from (b + k - a) a self
  unfolding ones_from tabulate_from
  ones_low zero b h l = let e : b + 0 - a ≡ 0 = omega arith in rw e
  ones_low (suc k) b h l = if_lt b a
      (λ q.
      let not_one : f b ≡ 1 → ⊥ = λ e. let z = low b q in omega arith in
      let same : b + suc k - a ≡ suc b + k - a = omega arith in
      rw (ne_eqb (f b) 1 not_one, ones_from, same) (ones_low k (suc b) (omega arith) (omega arith)))
      (λ q.
      let same : b ≡ a = omega arith in
      let size : suc k ≡ b + suc k - a = omega arith in
      ones_high (suc k) b q ∙ ap (λ (x : ℕ). tabulate_from (suc k) x self) same ∙ ap (λ (m : ℕ). tabulate_from m a self) size)

-- ---- a table whose live slots are the first ones

module _ (u : List ℕ) (a : ℕ) (room : a + 48 ≤ slots u) (low : (x : ℕ) → x < a → live u x ≡ true)
    (high : (x : ℕ) → a ≤ x → live u x ≡ false) where
  next_slots : add_slots 3 u ≡ tabulate_from 48 a self
  unfolding add_slots unused_slots tabulate cell_size
  next_slots =
      let s = slots u in
      ap (take 48) (ones_low (λ d. elim (live u d) [ true ↦ 0 | false ↦ 1 ]) a (λ x h. rw (low x h)) (λ x h. rw (high x h)) s 0 (omega arith) (omega arith))
      ∙ take_from 48 (0 + s - a) a (omega arith)

  next_long : length (add_slots 3 u) ≡ cell_size 3
  unfolding cell_size
  next_long = ap length next_slots ∙ length_tab_from self 48 a

  next_at : (k : ℕ) → k < 48 → added_dart 3 u k ≡ a + k
  next_at k h = ap (λ (l : List ℕ). get_or l k unused) next_slots ∙ get_or_from 48 a k unused h

  not_next : (x : ℕ) → (a ≤ x → x < a + 48 → ⊥) → In x (add_slots 3 u) → ⊥
  not_next x out i = let (k, l, h, e) = in_tab self 48 a x (subst (In x) next_slots i) in out (omega arith) (omega arith)

-- ---- so many cells

module _ {t : List ℕ} {rows : List (List ℕ)} (R : Readable t rows) where
  -- after c cells
  record Stage (c : ℕ) (u : List ℕ) : Type 0 where
    pub map : MapTable 3 u
    pub long : length u ≡ length t
    pub links : (j d : ℕ) → j < 4 → d < 48 * c → link u j d ≡ own_link j d
    pub rest : (j d : ℕ) → j < 4 → 48 * c ≤ d → link u j d ≡ link t j d

  module _ (c : ℕ) (u : List ℕ) (S : Stage c u) (room : 48 * suc c ≤ slots t) where
    same_slots : slots u ≡ slots t
    same_slots = long_slots t R.whole u S.long

    own_below : (d : ℕ) → d < 48 * c → own_link 0 d < 48 * c
    unfolding own_link
    own_below d h = let l = link_low 0 (d % 48) (omega arith) (omega arith) in omega arith

    live_below_c : (x : ℕ) → x < 48 * c → live u x ≡ true
    live_below_c x h = live_by u x (λ e.
        let is = S.links 0 x (omega arith) h in
        let l = own_below x h in
        let few = R.few in
        omega arith)

    dead_above_c : (x : ℕ) → 48 * c ≤ x → live u x ≡ false
    dead_above_c x h =
        let none : (j : ℕ) → j < 4 → link u j x ≡ unused = λ j b. S.rest j x b h ∙ dead_link t x (R.empty x) j b in
        dead_by u x (none 0 (omega arith)) (none 1 (omega arith)) (none 2 (omega arith)) (none 3 (omega arith))

    fits : 48 * c + 48 ≤ slots u
    fits = let s = same_slots in omega arith

    next_stage : Stage (suc c) (add_table 3 u)
    unfolding cell_size
    next_stage = record {
      map = add_made S.map sized;
      long = add_length S.map sized ∙ S.long;
      links = links;
      rest = λ j d b h. add_stays S.map sized d j b (out d (λ l h'. omega arith)) ∙ S.rest j d b (omega arith);
    }
      where
        sized : length (add_slots 3 u) ≡ cell_size 3
        sized = next_long u (48 * c) fits live_below_c dead_above_c

        out : (x : ℕ) → (48 * c ≤ x → x < 48 * c + 48 → ⊥) → In x (add_slots 3 u) → ⊥
        out = not_next u (48 * c) fits live_below_c dead_above_c

        at : (k : ℕ) → k < 48 → added_dart 3 u k ≡ 48 * c + k
        at = next_at u (48 * c) fits live_below_c dead_above_c

        new : (j k : ℕ) → j < 4 → k < 48 → link (add_table 3 u) j (48 * c + k) ≡ own_link j (48 * c + k)
        new j k b h =
            ap (link (add_table 3 u) j) (sym (at k h)) ∙ add_links S.map sized j k b h
            ∙ at (cell_link 3 j k) (link_low j k b h) ∙ sym (own_at j c k h)

        links : (j d : ℕ) → j < 4 → d < 48 * suc c → link (add_table 3 u) j d ≡ own_link j d
        links j d b h = if_lt d (48 * c)
            (λ l. add_stays S.map sized d j b (out d (λ l' h'. omega arith)) ∙ S.links j d b l)
            (λ l.
            let k = d - 48 * c in
            let is : 48 * c + k ≡ d = omega arith in
            subst (λ (x : ℕ). link (add_table 3 u) j x ≡ own_link j x) is (new j k b (omega arith)))

  stages : (c : ℕ) → 48 * c ≤ slots t → Stage c (add_all c t)
  unfolding add_all
  stages zero h = record {
    map = record {
      dim = (omega arith, omega arith);
      whole = R.whole;
      few = R.few;
      map = record { rule = λ d _ l. absurd (clash l (R.empty d)) };
    };
    long = refl;
    links = λ j d b l. absurd (omega arith);
    rest = λ j d b l. refl;
  }
  stages (suc c) h = next_stage c (add_all c t) (stages c (omega arith)) h

  pub as_by_add : (j d : ℕ) → j < 3 → link (vtk_table t rows) j d ≡ link (add_all (length rows) t) j d
  unfolding darts
  as_by_add j d b =
      let S = stages (length rows) R.room in
      if_lt d (48 * length rows)
      (λ h. read_own R j d b h ∙ sym (S.links j d (omega arith) h))
      (λ h. read_stays R j d (omega arith) h ∙ sym (S.rest j d (omega arith) h))
