-- Partners: the walk of both sides at once, for any words.
-- What it finds is the least relation that holds the couples to do and goes with the words: `pair_up_within`, `pair_up_complete`.
-- It fails only where no such relation gives each dart one partner: `pair_up_finds`.
use Prim.Native.Nat.{ℕ, zero, suc, ◌+◌, ◌*◌, ◌≤◌, ◌<◌}
use mathlib.Core.Path.{◌≡◌, refl, sym, ap, ◌∙◌, subst₂}
use mathlib.Core.Logic.{◌⊎◌, inl, inr, ◌≢◌, ⊎_elim}
use mathlib.Core.Bool.{Bool, true, false}
use mathlib.Core.Option.{Option, none, some}
use mathlib.Core.List.Memᴰ.{cases_cons as in-cons}
use mathlib.Core.List.Memᴰ.{not-nil}
use mathlib.Core.List.{List, [], ◌∷◌, ◌++◌, Memᴰ as In}
use mathlib.Core.List.Memᴰ.{append_cases as in-append}
use mathlib.Core.List.Memᴰ.{head as here}
use mathlib.Core.List.Memᴰ.{tail as there}
use mathlib.Core.List.Memᴰ.{append_left as in_left}
use mathlib.Core.List.Memᴰ.{append_right as in_right}
use mathlib.Core.List.Memᴰ.{cast as in-cast}
use native.Mathlib.Nat.{mul-suc}
use native.Mathlib.Omega.{arith}
use lib.ListN.{length, get_or, set, length-set, length-append, get_or-eq_default}
use lib.Seq.{get_or-set_same, get_or-set_other, set_out}
use lib.Dec.{eqb}
use borrow.Author.Tests.{eqb-true, eqb-false, eq-eqb, ne_eqb}
use Rattle.model.specs.Lists.{count}
use Rattle.model.specs.Table.{unused, walk}
use Rattle.model.specs.Sew.{Couple, couple, couple_steps, pair_up}
use Rattle.theorems.proofs.Lists.Scan.{test, if_eq, if_lt}

-- ---- partners

-- y is the partner of x
pub record Partner (p : List ℕ) (x y : ℕ) : Type 0 where
  pub is : get_or p x unused ≡ y
  pub real : y ≢ unused

-- a couple that is set: the partner of x is y, and the others are as before
module _ (p : List ℕ) (x y : ℕ) where
  pub set_partner : x < length p → y ≢ unused → Partner (set p x y) x y
  set_partner l real = record { is = get_or-set_same p x y unused l; real = real }

  pub set_keeps : get_or p x unused ≡ unused → (a b : ℕ) → Partner p a b → Partner (set p x y) a b
  set_keeps e a b h =
      let other : a ≢ x = λ q. h.real (sym h.is ∙ ap (λ (z : ℕ). get_or p z unused) q ∙ e) in
      record { is = get_or-set_other p x a y unused other ∙ h.is; real = h.real }

  pub set_only : (a b : ℕ) → Partner (set p x y) a b → ((a ≡ x) × (b ≡ y)) ⊎ Partner p a b
  set_only a b h = if_eq a x
      (λ e. let at : get_or (set p x y) x unused ≡ b = ap (λ (z : ℕ). get_or (set p x y) z unused) (sym e) ∙ h.is in
      if_lt x (length p) (λ l. inl (e, sym at ∙ get_or-set_same p x y unused l))
      (λ l. absurd (h.real (sym at ∙ ap (λ (z : List ℕ). get_or z x unused) (set_out p x y l) ∙ get_or-eq_default p unused l))))
      (λ e. inr (record { is = sym (get_or-set_other p x a y unused e) ∙ h.is; real = h.real }))

-- one entry v fewer, where another number is put for one
count_set : (v : ℕ) (p : List ℕ) (x y : ℕ) → x < length p → get_or p x v ≡ v → y ≢ v → count v p ≡ suc (count v (set p x y))
unfolding count
count_set v [] x y l h other = absurd (omega arith)
count_set v (z ∷ zs) zero y l h other = rw (eq-eqb z v h, ne_eqb y v other, count)
count_set v (z ∷ zs) (suc x) y l h other =
    let rec = count_set v zs x y (omega arith) h other in
    go (eqb z v) (count v zs) (count v (set zs x y)) rec
  where
    go : (b : Bool) (c d : ℕ) → c ≡ suc d → (elim b [ true ↦ suc c | false ↦ c ]) ≡ suc (elim b [ true ↦ suc d | false ↦ d ])
    go true c d e = ap suc e
    go false c d e = e

-- ---- the couples one step away

-- what holds of x and y holds of each couple that is x and y
pub at_couple : (R : ℕ → ℕ → Type 0) {x y a b : ℕ} → R x y → couple a b ≡ couple x y → R a b
at_couple R {x} {y} {a} {b} h q = subst₂ R (sym (cc)) (sym (cc)) h

module _ (t : List ℕ) where
  couple_of : (ws : List (List ℕ)) (x y : ℕ) (c : Couple) → In c (couple_steps t ws x y)
      → (w : List ℕ) × In w ws × (c ≡ couple (walk t w x) (walk t w y))
  unfolding couple_steps
  couple_of [] x y c i = absurd (not-nil i)
  couple_of (v ∷ ws) x y c i =
      let rec = couple_of ws x y c in
      ⊎_elim (λ e. (v, here refl, e)) (λ j. let r = rec j in (r.0, there r.1, r.2)) (in-cons i)

  couple_in : (ws : List (List ℕ)) (x y : ℕ) (w : List ℕ) → In w ws → In (couple (walk t w x) (walk t w y)) (couple_steps t ws x y)
  unfolding couple_steps
  couple_in [] x y w i = absurd (not-nil i)
  couple_in (v ∷ ws) x y w i =
      let rec = couple_in ws x y w in
      ⊎_elim (λ e. here (ap (λ (u : List ℕ). couple (walk t u x) (walk t u y)) e)) (λ j. there (rec j)) (in-cons i)

  couple_many : (ws : List (List ℕ)) (x y : ℕ) → length (couple_steps t ws x y) ≡ length ws
  unfolding couple_steps
  couple_many [] x y = refl
  couple_many (w ∷ ws) x y = ap suc (couple_many ws x y)

-- ---- pairing up

module _ (t : List ℕ) (ws : List (List ℕ)) where
  -- how pairing up goes on, step by step: with so much fuel, from the couples to do and the partners so far to the outcome
  pub data PairsUp : ℕ → List Couple → List ℕ → Option (List ℕ) → Type 0 where
    spent : {todo : List Couple} {p : List ℕ} → PairsUp zero todo p (some p)
    done : {k : ℕ} {p : List ℕ} → PairsUp (suc k) [] p (some p)
    fresh : {k x y : ℕ} {todo : List Couple} {p : List ℕ} {o : Option (List ℕ)} → get_or p x unused ≡ unused
        → PairsUp k (couple_steps t ws x y ++ todo) (set p x y) o → PairsUp (suc k) (couple x y ∷ todo) p o
    known : {k x y : ℕ} {todo : List Couple} {p : List ℕ} {o : Option (List ℕ)} → get_or p x unused ≢ unused → get_or p x unused ≡ y
        → PairsUp k todo p o → PairsUp (suc k) (couple x y ∷ todo) p o
    clash : {k x y : ℕ} {todo : List Couple} {p : List ℕ} → get_or p x unused ≢ unused → get_or p x unused ≢ y
        → PairsUp (suc k) (couple x y ∷ todo) p none

  pub pair_up_steps : (k : ℕ) (todo : List Couple) (p : List ℕ) → PairsUp k todo p (pair_up t ws k todo p)
  unfolding pair_up
  pair_up_steps zero todo p = spent
  pair_up_steps (suc k) [] p = done
  pair_up_steps (suc k) (couple x y ∷ todo) p =
      let rec = pair_up_steps k in
      test (eqb (get_or p x unused) unused)
      (λ e. rw (e, pair_up) (fresh (eqb-true _ _ e) (rec (couple_steps t ws x y ++ todo) (set p x y))))
      (λ e. test (eqb (get_or p x unused) y)
      (λ q. rw (e, q, pair_up) (known (eqb-false _ _ e) (eqb-true _ _ q) (rec todo p)))
      (λ q. rw (e, q, pair_up) (clash (eqb-false _ _ e) (eqb-false _ _ q))))

  -- R holds of the couples, or of the partners
  abbrev Couples : (ℕ → ℕ → Type 0) → List Couple → Type 0
  Couples R todo = (a b : ℕ) → In (couple a b) todo → R a b

  abbrev Partners : (ℕ → ℕ → Type 0) → List ℕ → Type 0
  Partners R p = (a b : ℕ) → Partner p a b → R a b

  module _ (R : ℕ → ℕ → Type 0) (goes : (x y : ℕ) (w : List ℕ) → R x y → In w ws → R (walk t w x) (walk t w y)) where
    next_couples : {x y : ℕ} {todo : List Couple} → Couples R (couple x y ∷ todo) → Couples R (couple_steps t ws x y ++ todo)
    next_couples {x} {y} h a b i = ⊎_elim
        (λ j. let r = couple_of t ws x y (couple a b) j in at_couple R (goes x y r.0 (h x y (here refl)) r.1) r.2)
        (λ j. h a b (there j)) (in-append (couple_steps t ws x y) i)

    next_partners : {x y : ℕ} {p : List ℕ} → R x y → Partners R p → Partners R (set p x y)
    next_partners {x} {y} {p} r h a b k = ⊎_elim (λ e. subst₂ R (sym e.0) (sym e.1) r) (λ m. h a b m) (set_only p x y a b k)

    -- a relation that holds of the couples to do and of the partners, and goes with the words, holds of all partners found
    pub pair_up_within : {k : ℕ} {todo : List Couple} {p r : List ℕ} → PairsUp k todo p (some r)
        → Couples R todo → Partners R p → Partners R r
    pair_up_within spent ht hp = hp
    pair_up_within done ht hp = hp
    pair_up_within (fresh e w) ht hp = pair_up_within w (next_couples ht) (next_partners (ht _ _ (here refl)) hp)
    pair_up_within (known e q w) ht hp = pair_up_within w (λ a b i. ht a b (there i)) hp

    -- where the walk fails, such a relation gives a dart two partners
    pub pair_up_finds : ((x y z : ℕ) → R x y → R x z → y ≡ z) → {k : ℕ} {todo : List Couple} {p : List ℕ}
        → PairsUp k todo p none → Couples R todo → Partners R p → ⊥
    pair_up_finds one (fresh e w) ht hp = pair_up_finds one w (next_couples ht) (next_partners (ht _ _ (here refl)) hp)
    pair_up_finds one (known e q w) ht hp = pair_up_finds one w (λ a b i. ht a b (there i)) hp
    pair_up_finds one (clash e q) ht hp = q (one _ _ _ (hp _ _ (record { is = refl; real = e })) (ht _ _ (here refl)))

  -- ---- what a walk leaves: the partners that were there, the couples to do, and they go with the words

  pub record Complete (todo : List Couple) (p r : List ℕ) : Type 0 where
    pub keeps : Partners (Partner r) p
    pub holds : Couples (Partner r) todo
    pub goes : (a b : ℕ) (w : List ℕ) → Partner r a b → In w ws → Partner r (walk t w a) (walk t w b)

  -- the partners go with the words, but for couples to do
  abbrev Upto : List Couple → List ℕ → Type 0
  Upto todo p = (a b : ℕ) (w : List ℕ) → Partner p a b → In w ws
      → Partner p (walk t w a) (walk t w b) ⊎ In (couple (walk t w a) (walk t w b)) todo

  stop_complete : {p : List ℕ} → Upto [] p → Complete [] p p
  stop_complete up = record {
    keeps = λ a b h. h;
    holds = λ a b i. absurd (not-nil i);
    goes = λ a b w h i. ⊎_elim (λ k. k) (λ j. absurd (not-nil j)) (up a b w h i);
  }

  module _ (x y : ℕ) (todo : List Couple) (p : List ℕ) where
    module _ (h : Partner p x y) where
      known_upto : Upto (couple x y ∷ todo) p → Upto todo p
      known_upto up a b w k i = ⊎_elim inl (λ j. ⊎_elim (λ e. inl (at_couple (Partner p) h e)) inr (in-cons j)) (up a b w k i)

      known_complete : (r : List ℕ) → Complete todo p r → Complete (couple x y ∷ todo) p r
      known_complete r c = record {
        keeps = c.keeps;
        holds = λ a b i. ⊎_elim (λ e. at_couple (Partner r) (c.keeps x y h) e) (c.holds a b) (in-cons i);
        goes = c.goes;
      }

    module _ (l : x < length p) (real : y ≢ unused) (e : get_or p x unused ≡ unused) where
      abbrev after : List Couple
      after = couple_steps t ws x y ++ todo

      fresh_upto : Upto (couple x y ∷ todo) p → Upto after (set p x y)
      fresh_upto up a b w k i = ⊎_elim first (λ m. ⊎_elim (λ h. inl (set_keeps p x y e _ _ h)) later (up a b w m i))
          (set_only p x y a b k)
        where
          Goal : Type 0
          Goal = Partner (set p x y) (walk t w a) (walk t w b) ⊎ In (couple (walk t w a) (walk t w b)) after

          first : (a ≡ x) × (b ≡ y) → Goal
          first q = inr (in_left todo (in-cast (rw (q.0, q.1)) (couple_in t ws x y w i)))

          later : In (couple (walk t w a) (walk t w b)) (couple x y ∷ todo) → Goal
          later j = ⊎_elim (λ q. inl (at_couple (Partner (set p x y)) (set_partner p x y l real) q))
              (λ m. inr (in_right (couple_steps t ws x y) m)) (in-cons j)

      fresh_complete : (r : List ℕ) → Complete after (set p x y) r → Complete (couple x y ∷ todo) p r
      fresh_complete r c = record {
        keeps = λ a b h. c.keeps a b (set_keeps p x y e a b h);
        holds = λ a b i. ⊎_elim (λ q. at_couple (Partner r) (c.keeps x y (set_partner p x y l real)) q)
            (λ j. c.holds a b (in_right (couple_steps t ws x y) j)) (in-cons i);
        goes = c.goes;
      }

      -- each couple that is set costs its steps, and there are fewer left to set
      fresh_fuel : (k : ℕ) → length (couple x y ∷ todo) + length ws * count unused p ≤ suc k
          → length after + length ws * count unused (set p x y) ≤ k
      fresh_fuel k fuel =
          let left = count unused (set p x y) in
          let fewer = ap (λ (z : ℕ). length ws * z) (count_set unused p x y l e real) ∙ mul-suc (length ws) left in
          let many = couple_many t ws x y in
          rw length-append (omega arith)

  module _ (slots : ℕ) (Fit : ℕ → ℕ → Type 0) (fits : (x y : ℕ) → Fit x y → (x < slots) × (y ≢ unused))
      (goes : (x y : ℕ) (w : List ℕ) → Fit x y → In w ws → Fit (walk t w x) (walk t w y)) where
    pub pair_up_complete : {k : ℕ} {todo : List Couple} {p r : List ℕ} → PairsUp k todo p (some r) → length p ≡ slots
        → length todo + length ws * count unused p ≤ k → Couples Fit todo → Upto todo p → Complete todo p r
    pair_up_complete {todo = []} spent long fuel fit up = stop_complete up
    pair_up_complete {todo = c ∷ cs} spent long fuel fit up = absurd (omega arith)
    pair_up_complete done long fuel fit up = stop_complete up
    pair_up_complete (fresh {k = k} {x = x} {y = y} {todo = todo} {p = p} e w) long fuel fit up =
        let good = fits x y (fit x y (here refl)) in
        let low : x < length p = rw long good.0 in
        let less = fresh_fuel x y todo p low good.1 e k fuel in
        let rest = pair_up_complete w (length-set p x y ∙ long) less (next_couples Fit goes fit) in
        fresh_complete x y todo p low good.1 e _ (rest (fresh_upto x y todo p low good.1 e up))
    pair_up_complete (known {x = x} {y = y} {todo = todo} {p = p} e q w) long fuel fit up =
        let h : Partner p x y = record { is = q; real = (fits x y (fit x y (here refl))).1 } in
        let rest = pair_up_complete w long (omega arith) (λ a b i. fit a b (there i)) in
        known_complete x y todo p h _ (rest (known_upto x y todo p h up))
