-- The map test says what a map is; live slots; and a change of the links of one index that keeps a map.
-- Main theorems: `breaks_exactly` (the test of a rule at a link), `rule_of_lem` and `of_rule`, `map_of` and `of_map`; `live_in`;
-- `link_retable`; `relink_table`.
use Prim.Native.Nat.{ℕ, zero, suc, ◌+◌, ◌*◌, ◌/◌, ◌%◌, ◌≤◌, ◌<◌}
use mathlib.Core.Path.{◌≡◌, refl, sym, ap, ap₂, ◌∙◌}
use mathlib.Core.Logic.Iff
use mathlib.Core.Logic.{inl, inr, ◌≢◌, ◌↔◌}
use mathlib.Core.Bool.{Bool, true, false, ◌&&◌}
use mathlib.Core.List.{List}
use native.Mathlib.Omega.{arith}
use lib.ListN.{length, get_or-eq_default}
use lib.Dec.{eqb}
use borrow.Author.Tests.{eqb-true, eq-eqb, eqb-false, ne_eqb, le-leb, lt-leb, not-false}
use Rattle.model.specs.Table.{unused, slots, link, walk, live, retable, relink_at, relink}
use Rattle.model.specs.Map.{MapRule, links_live, links_return, pairs_commute, stays_flat, returns, crossed, keeps_at}
use Rattle.model.specs.Map.{keeps_rule, keeps_rules, breaks_rule, least_breaking, is_map}
use Rattle.model.specs.Meaning.Maps.{Map, MapTable, Rule, Breaks}
use Rattle.model.specs.Meaning.Pairings.{Far}
use Rattle.theorems.proofs.Lists.Scan.{and_l, and_r, and_i, test, if_eq, if_lt, clash, below_at, below_of, below_not}
use Rattle.theorems.proofs.Lists.Scan.{length_tab, get_or_tab}
use Rattle.theorems.proofs.Maps.Failing.{failing, none_failing}

-- ---- the test and the property

module _ (n : ℕ) (t : List ℕ) (d : ℕ) where
  pub crossed_far : (i j : ℕ) → i + 2 ≤ j → crossed t d i j ≡ eqb (link t j (link t i (link t j (link t i d)))) d
  unfolding crossed returns walk
  crossed_far i j h = rw (le-leb _ _ h, crossed)

  pub crossed_near : (i j : ℕ) → j < i + 2 → crossed t d i j ≡ true
  unfolding crossed
  crossed_near i j h = rw (lt-leb _ _ h, crossed)

  pub breaks_exactly : (r : MapRule) (i : ℕ) → (keeps_at n t d r i ≡ false) ↔ Breaks n t d r i
  unfolding keeps_at returns walk
  breaks_exactly links_live i = Iff.rfl
  breaks_exactly links_return i = (eqb-false _ _, ne_eqb _ _)
  breaks_exactly pairs_commute i = (
    λ h.
        let (j, l, f) = below_not (crossed t d i) (suc n) h in
        if_lt j (suc (suc i)) (λ u. absurd (clash (crossed_near i j (omega arith)) f)) (λ u.
        (j, omega arith, omega arith, eqb-false _ _ (sym (crossed_far i j (omega arith)) ∙ f))),
    λ w.
        let (j, u, l, e) = w in
        test _ (λ h. absurd (clash (below_at (crossed t d i) (suc n) h j (omega arith)) (crossed_far i j u ∙ ne_eqb _ _ e)))
        (λ h. h),
  )
  breaks_exactly stays_flat i = (
    λ h. test (eqb n 2 && eqb i 3)
        (λ e. (eqb-true n 2 (and_l (eqb n 2) _ e), eqb-true i 3 (and_r (eqb n 2) _ e), eqb-false _ _ (rw (e, keeps_at) at h)))
        (λ e. absurd (clash (rw (e, keeps_at)) h)),
    λ w. let (flat, third, e) = w in rw (and_i (eq-eqb n 2 flat) (eq-eqb i 3 third), keeps_at) (ne_eqb _ _ e),
  )

  module _ (r : MapRule) where
    pub keeps_at_lem : (i : ℕ) → (Breaks n t d r i → ⊥) → keeps_at n t d r i ≡ true
    keeps_at_lem i h = test (keeps_at n t d r i) (λ e. e) (λ e. absurd (h ((breaks_exactly r i).0 e)))

    pub keeps_rule_lem : ((i : ℕ) → i < 4 → Breaks n t d r i → ⊥) → keeps_rule n t d r ≡ true
    unfolding keeps_rule
    keeps_rule_lem h = below_of (keeps_at n t d r) 4 (λ i l. keeps_at_lem i (h i l))

    pub kept_by : keeps_rule n t d r ≡ true → (i : ℕ) → i < 4 → Breaks n t d r i → ⊥
    unfolding keeps_rule
    kept_by h i l b = clash (below_at (keeps_at n t d r) 4 h i l) ((breaks_exactly r i).1 b)

  -- the four parts of the test
  abbrev live_links : Bool
  live_links = keeps_rule n t d links_live

  abbrev returned : Bool
  returned = keeps_rule n t d links_return

  abbrev commuting : Bool
  commuting = keeps_rule n t d pairs_commute

  abbrev flat : Bool
  flat = keeps_rule n t d stays_flat

  pub keep_all : ((r : MapRule) → keeps_rule n t d r ≡ true) → keeps_rules n t d ≡ true
  unfolding keeps_rules
  keep_all h = and_i (and_i (and_i (h links_live) (h links_return)) (h pairs_commute)) (h stays_flat)

  keep_each : keeps_rules n t d ≡ true → (r : MapRule) → keeps_rule n t d r ≡ true
  unfolding keeps_rules
  keep_each h = each
    where
      three : (live_links && returned && commuting) ≡ true
      three = and_l (live_links && returned && commuting) flat h

      two : (live_links && returned) ≡ true
      two = and_l (live_links && returned) commuting three

      each : (r : MapRule) → keeps_rule n t d r ≡ true
      each links_live = and_l live_links returned two
      each links_return = and_r live_links returned two
      each pairs_commute = and_r (live_links && returned) commuting three
      each stays_flat = and_r (live_links && returned && commuting) flat h

  pub rule_of_lem : n ≤ 3 → keeps_rules n t d ≡ true → Rule n t d
  rule_of_lem n3 h = record {
    goes = λ i l. test (live t (link t i d)) (λ e. e) (λ e. absurd (kept links_live i l e));
    comes = λ i l. equal (kept links_return i l);
    cross = λ i j u l. equal (λ e. kept pairs_commute i (omega arith) (j, u, l, e));
    plane = λ e. equal (λ k. kept stays_flat 3 (omega arith) (e, refl, k));
  }
    where
      kept : (r : MapRule) (i : ℕ) → i < 4 → Breaks n t d r i → ⊥
      kept r = kept_by r (keep_each h r)

      equal : {x y : ℕ} → (x ≢ y → ⊥) → x ≡ y
      equal {x} {y} k = if_eq x y (λ e. e) (λ e. absurd (k e))

  pub of_rule : Rule n t d → keeps_rules n t d ≡ true
  of_rule q = keep_all (λ r. keeps_rule_lem r (unbroken r))
    where
      unbroken : (r : MapRule) (i : ℕ) → i < 4 → Breaks n t d r i → ⊥
      unbroken links_live i l b = clash (q.goes i l) b
      unbroken links_return i l b = b (q.comes i l)
      unbroken pairs_commute i l b = let (j, u, v, e) = b in e (q.cross i j u v)
      unbroken stays_flat i l b = let (two, third, e) = b in e (rw third (q.plane two))

module _ (n : ℕ) (t : List ℕ) where
  pub map_of : n ≤ 3 → is_map n t ≡ true → Map n t
  unfolding is_map least_breaking breaks_rule failing
  map_of n3 h =
      let keep = (none_failing t (keeps_rules n t)).0 (eqb-true _ _ h) in
      record { rule = λ d l e. rule_of_lem n t d n3 (keep d l e) }

  pub of_map : Map n t → is_map n t ≡ true
  unfolding is_map least_breaking breaks_rule failing
  of_map m = eq-eqb _ _ ((none_failing t (keeps_rules n t)).1 (λ d l e. of_rule n t d (m.rule d l e)))

-- ---- live slots

module _ (t : List ℕ) (x : ℕ) where
  pub live_by : link t 0 x ≢ unused → live t x ≡ true
  unfolding live
  live_by h = rw (ne_eqb (link t 0 x) unused h)

  pub dead_by : link t 0 x ≡ unused → link t 1 x ≡ unused → link t 2 x ≡ unused → link t 3 x ≡ unused → live t x ≡ false
  unfolding live
  dead_by a b c d = rw (a, b, c, d)

  pub dead_link : live t x ≡ false → (j : ℕ) → j < 4 → link t j x ≡ unused
  unfolding live
  dead_link h = go
    where
      is : ℕ → Bool
      is j = eqb (link t j x) unused

      all : (is 0 && is 1 && is 2 && is 3) ≡ true
      all = not-false _ h

      three : (is 0 && is 1 && is 2) ≡ true
      three = and_l (is 0 && is 1 && is 2) (is 3) all

      two : (is 0 && is 1) ≡ true
      two = and_l (is 0 && is 1) (is 2) three

      go : (j : ℕ) → j < 4 → link t j x ≡ unused
      go zero l = eqb-true _ _ (and_l (is 0) (is 1) two)
      go (suc zero) l = eqb-true _ _ (and_r (is 0) (is 1) two)
      go (suc (suc zero)) l = eqb-true _ _ (and_r (is 0 && is 1) (is 2) three)
      go (suc (suc (suc zero))) l = eqb-true _ _ (and_r (is 0 && is 1 && is 2) (is 3) all)
      go (suc (suc (suc (suc j)))) l = absurd (omega arith)

  module _ (fits : length t ≡ 4 * slots t) where
    pub link_out : slots t ≤ x → (j : ℕ) → link t j x ≡ unused
    unfolding link
    link_out h j = get_or-eq_default t unused (omega arith)

    pub dead_out : slots t ≤ x → live t x ≡ false
    dead_out h = let out = link_out h in dead_by (out 0) (out 1) (out 2) (out 3)

    pub live_in : live t x ≡ true → x < slots t
    live_in h = if_lt x (slots t) (λ l. l) (λ l. absurd (clash h (dead_out l)))

    pub live_rule : {n : ℕ} → Map n t → live t x ≡ true → Rule n t x
    live_rule m e = m.rule x (live_in e) e

-- ---- a table by its rule

module _ (t : List ℕ) (f : ℕ → ℕ → ℕ) (fits : length t ≡ 4 * slots t) where
  pub length_retable : length (retable t f) ≡ length t
  unfolding retable
  length_retable = length_tab (λ e. f (e / 4) (e % 4)) (length t)

  pub slots_retable : slots (retable t f) ≡ slots t
  unfolding slots
  slots_retable = ap (λ (k : ℕ). k / 4) length_retable

  pub link_retable : (x j : ℕ) → x < slots t → j < 4 → link (retable t f) j x ≡ f x j
  unfolding retable link
  link_retable x j hx hj =
      let slot : (4 * x + j) / 4 ≡ x = omega arith in
      let index : (4 * x + j) % 4 ≡ j = omega arith in
      get_or_tab (λ e. f (e / 4) (e % 4)) (length t) (4 * x + j) unused (omega arith) ∙ ap₂ f slot index

-- ---- links of one index replaced

module _ (t : List ℕ) (i : ℕ) (g : ℕ → ℕ) (x : ℕ) where
  pub at_same : relink_at t i g x i ≡ g x
  unfolding relink_at
  at_same = rw (eq-eqb i i refl, relink_at)

  pub at_other : (j : ℕ) → j ≢ i → relink_at t i g x j ≡ link t j x
  unfolding relink_at
  at_other j h = rw (ne_eqb j i h, relink_at)

  at_cases : (P : ℕ → Type 0) (j : ℕ) → (j ≡ i → P (g x)) → (j ≢ i → P (link t j x)) → P (relink_at t i g x j)
  at_cases P j same other = if_eq j i (λ e. rw (e, at_same) (same e)) (λ e. rw (at_other j e) (other e))

pub relink_fits : (t : List ℕ) (i : ℕ) (g : ℕ → ℕ) → length t ≡ 4 * slots t → length (relink t i g) ≡ 4 * slots (relink t i g)
unfolding relink
relink_fits t i g fits =
    length_retable t (relink_at t i g) fits ∙ fits ∙ ap (λ (k : ℕ). 4 * k) (sym (slots_retable t (relink_at t i g) fits))

-- what makes g a change of link i that keeps a map
pub record Relinking (n : ℕ) (t : List ℕ) (i : ℕ) (g : ℕ → ℕ) : Type 0 where
  pub goes : (x : ℕ) → live t x ≡ true → live t (g x) ≡ true
  pub comes : (x : ℕ) → live t x ≡ true → g (g x) ≡ x
  pub far : (x j : ℕ) → live t x ≡ true → Far i j → j ≤ n → g (link t j x) ≡ link t j (g x)
  pub dead : (x : ℕ) → live t x ≡ false → g x ≡ unused

module _ {n : ℕ} {t : List ℕ} {i : ℕ} {g : ℕ → ℕ} (T : MapTable n t) (i≤n : i ≤ n) (c : Relinking n t i g) where
  -- link j of x after the change
  abbrev new_link : ℕ → ℕ → ℕ
  new_link j x = relink_at t i g x j

  rule_before : (x : ℕ) → live t x ≡ true → Rule n t x
  rule_before x = live_rule t x T.whole T.map

  new_goes : (x j : ℕ) → j < 4 → live t x ≡ true → live t (new_link j x) ≡ true
  new_goes x j l e = at_cases t i g x (λ y. live t y ≡ true) j (λ _. c.goes x e) (λ _. (rule_before x e).goes j l)

  new_in : (x j : ℕ) → j < 4 → live t x ≡ true → new_link j x < slots t
  new_in x j l e = live_in t _ T.whole (new_goes x j l e)

  new_dead : (x j : ℕ) → j < 4 → live t x ≡ false → new_link j x ≡ unused
  new_dead x j l e = at_cases t i g x (λ y. y ≡ unused) j (λ _. c.dead x e) (λ _. dead_link t x e j l)

  new_comes : (x j : ℕ) → j < 4 → live t x ≡ true → new_link j (new_link j x) ≡ x
  new_comes x j l e =
      if_eq j i (λ q. rw (q, at_same t i g x, at_same t i g (g x)) (c.comes x e))
      (λ q. rw (at_other t i g x j q, at_other t i g (link t j x) j q) ((rule_before x e).comes j l))

  new_cross : (x a b : ℕ) → a + 2 ≤ b → b ≤ n → live t x ≡ true → new_link b (new_link a (new_link b (new_link a x))) ≡ x
  new_cross x a b ab bn e = if_eq a i first (λ p. if_eq b i (second p) (neither p))
    where
      first : a ≡ i → new_link b (new_link a (new_link b (new_link a x))) ≡ x
      first p =
          let q : b ≢ i = omega arith in
          rw p (simp (at_same, at_other)
          (ap (link t b) (c.far (g x) b (c.goes x e) (inl (omega arith)) bn ∙ ap (link t b) (c.comes x e))
          ∙ (rule_before x e).comes b (omega arith)))

      second : a ≢ i → b ≡ i → new_link b (new_link a (new_link b (new_link a x))) ≡ x
      second p q = rw q (simp (at_same, at_other)
          (ap g (ap (link t a) (c.far x a e (inr (omega arith)) (omega arith))
          ∙ (rule_before (g x) (c.goes x e)).comes a (omega arith)) ∙ c.comes x e))

      neither : a ≢ i → b ≢ i → new_link b (new_link a (new_link b (new_link a x))) ≡ x
      neither p q = simp at_other ((rule_before x e).cross a b ab bn)

  pub relink_slots : slots (relink t i g) ≡ slots t
  unfolding relink
  relink_slots = slots_retable t (relink_at t i g) T.whole

  pub relink_link : (x j : ℕ) → x < slots t → j < 4 → link (relink t i g) j x ≡ relink_at t i g x j
  unfolding relink
  relink_link x j hx hj = link_retable t (relink_at t i g) T.whole x j hx hj

  pub relink_live : (x : ℕ) → x < slots t → live (relink t i g) x ≡ live t x
  relink_live x hx = test (live t x) stays gone
    where
      stays : live t x ≡ true → live (relink t i g) x ≡ live t x
      stays e = live_by _ x (λ q.
          let s = relink_link x 0 hx (omega arith) in
          let l = new_in x 0 (omega arith) e in
          omega arith) ∙ sym e

      gone : live t x ≡ false → live (relink t i g) x ≡ live t x
      gone e =
          let off : (j : ℕ) → j < 4 → link (relink t i g) j x ≡ unused = λ j l. relink_link x j hx l ∙ new_dead x j l e in
          dead_by _ x (off 0 (omega arith)) (off 1 (omega arith)) (off 2 (omega arith)) (off 3 (omega arith)) ∙ sym e

  relink_rule : (d : ℕ) → d < slots t → live t d ≡ true → Rule n (relink t i g) d
  relink_rule d l e = record {
    goes = λ j h. rw (relink_link d j l h) (relink_live (new_link j d) (new_in d j h e) ∙ new_goes d j h e);
    comes = λ j h. rw (relink_link d j l h, relink_link (new_link j d) j (new_in d j h e) h) (new_comes d j h e);
    cross = λ a b ab bn. walked a b (omega arith) (omega arith) ∙ new_cross d a b ab bn e;
    plane = λ p. relink_link d 3 l (omega arith) ∙ at_other t i g d 3 (omega arith) ∙ (rule_before d e).plane p;
  }
    where
      u : List ℕ
      u = relink t i g

      new_link_lem : (x j : ℕ) → j < 4 → live t x ≡ true → link u j x ≡ new_link j x
      new_link_lem x j h lx = relink_link x j (live_in t x T.whole lx) h

      walked : (a b : ℕ) → a < 4 → b < 4
          → link u b (link u a (link u b (link u a d))) ≡ new_link b (new_link a (new_link b (new_link a d)))
      walked a b ha hb =
          let x₁ = new_link a d in
          let e₁ = new_goes d a ha e in
          let x₂ = new_link b x₁ in
          let e₂ = new_goes x₁ b hb e₁ in
          let x₃ = new_link a x₂ in
          let e₃ = new_goes x₂ a ha e₂ in
          rw (new_link_lem d a ha e, new_link_lem x₁ b hb e₁, new_link_lem x₂ a ha e₂, new_link_lem x₃ b hb e₃)

  pub relink_table : MapTable n (relink t i g)
  relink_table = record {
    dim = T.dim;
    whole = relink_fits t i g T.whole;
    few = let s = relink_slots in omega arith;
    map = record { rule = λ d l e. let b = rw relink_slots at l in relink_rule d b (sym (relink_live d b) ∙ e) };
  }
