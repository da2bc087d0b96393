-- Two maps of a set to itself, each its own inverse, that are walked in turn: `turned`. A walk that is at its start again has met
-- each point that they lead to.
-- `turned_apart`: before that it meets no point twice. `mirror_apart`: where no point is fixed, the points on the way, between a
-- and b, are others. `met_first`, `met_second`: all these are closed under a and b (`met_all`). `open_all`: where one is fixed, the points
-- on the way are no others.
use Prim.Native.Nat.{ℕ, zero, suc, ◌+◌, ◌-◌, ◌<◌}
use mathlib.Core.Path.{◌≡◌, refl, sym, ap, ◌∙◌, subst}
use mathlib.Core.Logic.{◌⊎◌, inl, inr, ◌≢◌, ⊎_elim}
use native.Mathlib.Omega.{arith}
use Rattle.theorems.proofs.Lists.Scan.{if_eq, if_lt}
use Rattle.sides.specs.Turns.{turned}

-- a and b lead from a point of L to a point of L, and back
pub record Turning {A : Type 0} (a b : A → A) (L : A → Type 0) : Type 0 where
  pub goes_first : (x : A) → L x → L (a x)
  pub goes_second : (x : A) → L x → L (b x)
  pub comes_first : (x : A) → L x → a (a x) ≡ x
  pub comes_second : (x : A) → L x → b (b x) ≡ x

module _ {A : Type 0} {a b : A → A} {L : A → Type 0} (T : Turning a b L) (d : A) (own : L d) where
  abbrev at : ℕ → A
  at k = turned a b d k

  pub turned_in : (k : ℕ) → L (turned a b d k)
  unfolding turned
  turned_in zero = own
  turned_in (suc k) = T.goes_second _ (T.goes_first _ (turned_in k))

  -- one turn is one-to-one
  turn_one : (x y : A) → L x → L y → b (a x) ≡ b (a y) → x ≡ y
  turn_one x y hx hy e =
      let same : a x ≡ a y
      = sym (T.comes_second (a x) (T.goes_first x hx)) ∙ ap b e ∙ T.comes_second (a y) (T.goes_first y hy) in
      sym (T.comes_first x hx) ∙ ap a same ∙ T.comes_first y hy

  -- before the walk is at its start again, it is nowhere twice
  pub turned_apart : (m : ℕ) → ((j : ℕ) → 0 < j → j < m → turned a b d j ≢ d)
      → (p q : ℕ) → p < q → q < m → turned a b d p ≡ turned a b d q → ⊥
  unfolding turned
  turned_apart m new zero q h l e = new q h l (sym e)
  turned_apart m new (suc p) zero h l e = absurd (omega arith)
  turned_apart m new (suc p) (suc q) h l e =
      turned_apart m new p q (omega arith) (omega arith) (turn_one _ _ (turned_in p) (turned_in q) e)

  -- where no point that it meets is fixed, the points on the way are others
  module _ (m : ℕ) (shut : (k : ℕ) → k < m → (a (at k) ≢ at k) × (at (suc k) ≢ a (at k))) where
    mirror_from : (g p q : ℕ) → q ≡ p + g → q < m → a (at p) ≡ at q → ⊥
    unfolding turned
    mirror_from zero p q e l h = let same : q ≡ p = omega arith in (shut p (omega arith)).0 (h ∙ ap at same)
    mirror_from (suc zero) p q e l h =
        let same : q ≡ suc p = omega arith in (shut p (omega arith)).1 (sym (h ∙ ap at same))
    mirror_from (suc (suc g)) p zero e l h = absurd (omega arith)
    mirror_from (suc (suc g)) p (suc q) e l h =
        let lq = turned_in q in
        let back : b (a (at p)) ≡ a (at q) = ap b h ∙ T.comes_second _ (T.goes_first _ lq) in
        mirror_from g (suc p) q (omega arith) (omega arith) (ap a back ∙ T.comes_first _ lq)

    pub mirror_apart : (p q : ℕ) → p < m → q < m → a (turned a b d p) ≡ turned a b d q → ⊥
    mirror_apart p q lp lq h = if_lt p q (λ l. mirror_from (q - p) p q (omega arith) lq h)
        (λ l. mirror_from (p - q) q p (omega arith) lp (ap a (sym h) ∙ T.comes_first _ (turned_in p)))

  -- ---- the walk is at its start again

  module _ (m : ℕ) (round : turned a b d (suc m) ≡ d) where
    -- z is where the walk stands after some turns
    pub record Own (z : A) : Type 0 where
      pub turns : ℕ
      pub low : turns < suc m
      pub is : z ≡ turned a b d turns

    -- .. or on the way to the next of these points
    pub record Met (z : A) : Type 0 where
      pub turns : ℕ
      pub low : turns < suc m
      pub is : (z ≡ turned a b d turns) ⊎ (z ≡ a (turned a b d turns))

    turn_on : (k : ℕ) → k < suc m → Own (b (a (at k)))
    unfolding turned
    turn_on k l = if_eq k m (λ e. record { turns = 0; low = omega arith; is = ap (λ (j : ℕ). at (suc j)) e ∙ round })
        (λ e. record { turns = suc k; low = omega arith; is = refl })

    -- the point on the way to at k
    record Before (k : ℕ) : Type 0 where
      turns : ℕ
      low : turns < suc m
      is : b (at k) ≡ a (at turns)

    before : (k : ℕ) → k < suc m → Before k
    unfolding turned
    before zero l = record {
      turns = m;
      low = omega arith;
      is = ap b (sym round) ∙ T.comes_second _ (T.goes_first _ (turned_in m));
    }
    before (suc k) l = record { turns = k; low = omega arith; is = T.comes_second _ (T.goes_first _ (turned_in k)) }

    pub met_start : Met d
    unfolding turned
    met_start = record { turns = 0; low = omega arith; is = inl refl }

    pub met_first : (z : A) → Met z → Met (a z)
    met_first z h = record {
      turns = h.turns;
      low = h.low;
      is = ⊎_elim (λ e. inr (ap a e)) (λ e. inl (ap a e ∙ T.comes_first _ (turned_in h.turns))) h.is;
    }

    pub met_second : (z : A) → Met z → Met (b z)
    met_second z h = ⊎_elim
        (λ e. let k = before h.turns h.low in record { turns = k.turns; low = k.low; is = inr (ap b e ∙ k.is) })
        (λ e. let k = turn_on h.turns h.low in record { turns = k.turns; low = k.low; is = inl (ap b e ∙ k.is) }) h.is

    -- what holds of the start and goes with a and b holds of each point met
    module _ (P : A → Type 0) (first : (z : A) → L z → P z → P (a z)) (second : (z : A) → L z → P z → P (b z)) (base : P d) where
      turned_all : (k : ℕ) → P (at k)
      unfolding turned
      turned_all zero = base
      turned_all (suc k) = second _ (T.goes_first _ (turned_in k)) (first _ (turned_in k) (turned_all k))

      pub met_all : (z : A) → Met z → P z
      met_all z h = ⊎_elim (λ e. subst P (sym e) (turned_all h.turns))
          (λ e. subst P (sym e) (first _ (turned_in h.turns) (turned_all h.turns))) h.is

    -- ---- a fixed point

    fold_on : (k : ℕ) → Own (a (at k)) → Own (a (at (suc k)))
    unfolding turned
    fold_on k h =
        let p = before h.turns h.low in
        record {
          turns = p.turns;
          low = p.low;
          is = ap (λ (z : A). a (b z)) h.is ∙ ap a p.is ∙ T.comes_first _ (turned_in p.turns);
        }

    again : (k q : ℕ) → q ≡ k + suc m → at q ≡ at k
    unfolding turned
    again zero q e = let same : q ≡ suc m = omega arith in ap at same ∙ round
    again (suc k) zero e = absurd (omega arith)
    again (suc k) (suc q) e = let same : q ≡ k + suc m = omega arith in ap (λ (z : A). b (a z)) (again k q same)

    module _ (p : ℕ) (in_round : p < suc m) (fixed : (a (turned a b d p) ≡ turned a b d p)
        ⊎ (turned a b d (suc p) ≡ a (turned a b d p))) where
      fold_here : Own (a (at p))
      unfolding turned
      fold_here = ⊎_elim (λ e. record { turns = p; low = in_round; is = e })
          (λ e. let k = turn_on p in_round in record { turns = k.turns; low = k.low; is = sym e ∙ k.is }) fixed

      fold_from : (j k : ℕ) → k ≡ j + p → Own (a (at k))
      fold_from zero k e = let same : k ≡ p = omega arith in rw same fold_here
      fold_from (suc j) zero e = absurd (omega arith)
      fold_from (suc j) (suc k) e = fold_on k (fold_from j k (omega arith))

      pub open_own : (k : ℕ) → k < suc m → Own (a (turned a b d k))
      open_own k l = if_lt k p
          (λ low.
          let h = fold_from (k + suc m - p) (k + suc m) (omega arith) in
          record { turns = h.turns; low = h.low; is = ap a (sym (again k (k + suc m) refl)) ∙ h.is })
          (λ low. fold_from (k - p) k (omega arith))

      pub open_all : (z : A) → Met z → Own z
      open_all z h = ⊎_elim (λ e. record { turns = h.turns; low = h.low; is = e })
          (λ e. let o = open_own h.turns h.low in record { turns = o.turns; low = o.low; is = e ∙ o.is }) h.is
