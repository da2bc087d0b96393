-- Two layers of a block map that have no cell in common, removed one after the other, leave what the removal of both at once leaves
-- (`removes_joined`): a walk through the second, in the table that the first left, is a walk through both in the old one. A table
-- that remove leaves is one only (`removes_one`), so the order does not matter (`layers_order`).
use Prim.Native.Nat.{ℕ, ◌*◌, ◌≤◌, ◌<◌}
use mathlib.Core.Path.{◌≡◌, refl, sym, ap, ap₂, ◌∙◌}
use mathlib.Core.Logic.{◌⊎◌, inl, inr, ⊎_elim, ◌↔◌}
use mathlib.Core.Bool.{Bool, true, false, ◌||◌}
use mathlib.Core.List.{List, [], ◌∷◌}
use native.Mathlib.Omega.{arith}
use lib.ListN.{length, get_or-eq_default}
use Rattle.model.specs.Table.{unused, slots, link, walk}
use Rattle.model.specs.Remove.{opposite, cell_mark, marked}
use Rattle.model.specs.Meaning.Maps.{BlockTable}
use Rattle.model.specs.Meaning.Walks.{Layer, hop, Reaches, arrived, onward, FirstOutside, Removes}
use Rattle.theorems.proofs.Lists.Scan.{test, if_eq, if_lt, clash, or_cases, or_i, length_tab, get_or_tab}
use Rattle.theorems.proofs.Maps.Rules.{live_in}
use Rattle.theorems.proofs.Cells.Rows.{small, small_cases}
use Rattle.theorems.proofs.Operations.Relink.{table_same}
use Rattle.theorems.proofs.Layers.Walk.{opposite_small, reaches_on, outside_unique, facing_marked}
use Rattle.theorems.proofs.Layers.Remove.{layer_walk}
use Rattle.several_layers.specs.Removals.{Disjoint, join}

-- ---- a walk by a word of a cell's links, where the darts on it keep those links

walk_same : (n : ℕ) (t u : List ℕ) (P : ℕ → Type 0) → ((x j : ℕ) → j < n → P x → P (link t j x))
    → ((x j : ℕ) → j < n → P x → link u j x ≡ link t j x)
    → (w : List ℕ) → small n w ≡ true → (x : ℕ) → P x → walk u w x ≡ walk t w x
unfolding walk
walk_same n t u P goes same [] h x p = refl
walk_same n t u P goes same (j ∷ w) h x p =
    let (low, rest) = small_cases n j w h in
    ap (walk u w) (same x j low p) ∙ walk_same n t u P goes same w rest (link t j x) (goes x j low p)

-- ---- marks of both

-- m has a mark 1 or 2 where a or b has one
record Joined (a b m : List ℕ) : Type 0 where
  exactly : (x : ℕ) → (marked m x ≡ true) ↔ ((marked a x ≡ true) ⊎ (marked b x ≡ true))

pub unmarked_past : (m : List ℕ) (x : ℕ) → length m ≤ x → marked m x ≡ false
unfolding marked cell_mark
unmarked_past m x h = rw (get_or-eq_default m 0 h)

bit_marked : (c : Bool) → cell_mark (elim c as (λ _. ℕ) [ true ↦ 1 | false ↦ 0 ]) ≡ c
unfolding cell_mark
bit_marked true = refl
bit_marked false = refl

module _ (a b : List ℕ) (long : length b ≡ length a) where
  join_at : (x : ℕ) → marked (join a b) x ≡ (marked a x || marked b x)
  unfolding join marked
  join_at x = if_lt x (length a)
      (λ h. ap cell_mark (get_or_tab bit (length a) x 0 h) ∙ bit_marked (marked a x || marked b x))
      (λ h. unmarked_past (join a b) x (let l = length_tab bit (length a) in omega arith)
      ∙ sym (ap₂ ◌||◌ (unmarked_past a x h) (unmarked_past b x (omega arith))))
    where
      bit : ℕ → ℕ
      bit x = elim (marked a x || marked b x) [ true ↦ 1 | false ↦ 0 ]

  join_joined : Joined a b (join a b)
  join_joined = record {
    exactly = λ x. (
      λ h. or_cases (marked a x) (marked b x) (sym (join_at x) ∙ h),
      λ h. join_at x ∙ or_i (marked a x) (marked b x) h,
    );
  }

joined_turn : {a b m : List ℕ} → Joined a b m → Joined b a m
joined_turn G = record { exactly = λ x. (λ h. ⊎_elim inr inl ((G.exactly x).0 h), λ h. (G.exactly x).1 (⊎_elim inr inl h)) }

-- ---- the second layer in what the first leaves

module _ {n : ℕ} {t a b u : List ℕ} (A : Layer n t a) (B : Layer n t b) (apart : Disjoint a b) (R : Removes n t a u) where
  abbrev table : BlockTable n t
  table = A.table

  low : n < 4
  low = let dim = table.dim in omega arith

  pub other_out : (x : ℕ) → marked b x ≡ true → marked a x ≡ false
  other_out x h = test (marked a x) (λ e. absurd (apart x e h)) (λ e. e)

  -- its darts keep the links of their cells
  pub other_stays : (x j : ℕ) → j < n → marked b x ≡ true → link u j x ≡ link t j x
  other_stays x j b h = let four = low in R.stays x j (omega arith) (λ q. omega arith) (other_out x h)

  pub other_walk : (w : List ℕ) → small n w ≡ true → (x : ℕ) → marked b x ≡ true → walk u w x ≡ walk t w x
  other_walk = walk_same n t u (λ x. marked b x ≡ true) (λ x j. B.closed x j) other_stays

  -- where a hop from one of its darts leads then: to the first dart outside the first layer
  hop_first : (y : ℕ) → marked b y ≡ true → FirstOutside n t a (hop n u y) (hop n t y)
  unfolding hop
  hop_first y h =
      let across = facing_marked B y h in
      rw (other_walk (opposite n) (opposite_small n table.dim) y h)
      (layer_walk A R (walk t (opposite n) y) (other_out _ across))

  -- ---- the walk through both: c are the marks of the second layer in u, with 1 and 2 at the slots of b

  module _ {c v m : List ℕ} (C : Layer n u c) (same : (x : ℕ) → marked c x ≡ marked b x) (S : Removes n u c v)
      (G : Joined a b m) where
    -- the walk through the second layer does not come into the first
    stays_out : {z y : ℕ} → Reaches n u c z y → marked a y ≡ false → marked a z ≡ false
    stays_out (arrived e) o = rw (← e) o
    stays_out {z} {y} (onward r p) o = stays_out p (hop_first y (sym (same y) ∙ r)).outside

    first_joined : {z y : ℕ} → Reaches n t a z y → Reaches n t m z y
    first_joined (arrived e) = arrived e
    first_joined {z} {y} (onward r p) = onward ((G.exactly y).1 (inl r)) (first_joined p)

    -- a hop through the second layer, in the table that the first left, is a walk through both
    then_joined : {z y : ℕ} → Reaches n u c z y → Reaches n t m z y
    then_joined (arrived e) = arrived e
    then_joined {z} {y} (onward r p) =
        let is = sym (same y) ∙ r in
        onward ((G.exactly y).1 (inr is)) (reaches_on (first_joined (hop_first y is).reached) (then_joined p))

    out_both : (x : ℕ) → marked a x ≡ false → marked b x ≡ false → marked m x ≡ false
    out_both x oa ob = test (marked m x) (λ h. ⊎_elim (λ e. absurd (clash e oa)) (λ e. absurd (clash e ob)) ((G.exactly x).0 h)) (λ e. e)

    out_first : (x : ℕ) → marked m x ≡ false → marked a x ≡ false
    out_first x o = test (marked a x) (λ e. absurd (clash ((G.exactly x).1 (inl e)) o)) (λ e. e)

    out_then : (x : ℕ) → marked m x ≡ false → marked c x ≡ false
    out_then x o = same x ∙ test (marked b x) (λ e. absurd (clash ((G.exactly x).1 (inr e)) o)) (λ e. e)

    -- the new link n of a dart outside both is the first dart outside both, on the walk of the old table
    walk_joined : (x : ℕ) → marked a x ≡ false → marked c x ≡ false → FirstOutside n t m (link v n x) (link t n x)
    walk_joined x oa oc =
        let first = layer_walk A R x oa in
        let next = layer_walk C S x oc in
        record {
          reached = reaches_on (first_joined first.reached) (then_joined next.reached);
          outside = out_both (link v n x) (stays_out next.reached first.outside) (sym (same _) ∙ next.outside);
        }

    -- a dart of the first layer stays unused
    gone_first : (x j : ℕ) → j < 4 → marked a x ≡ true → link v j x ≡ unused
    gone_first x j l h = if_eq j n
        (λ e. rw e (S.keeps x oc (rw (R.gone x n low h) none) ∙ R.gone x n low h))
        (λ e. S.stays x j l e oc ∙ R.gone x j l h)
      where
        oc : marked c x ≡ false
        oc = same x ∙ test (marked b x) (λ e. absurd (apart x h e)) (λ e. e)

        none : marked c unused ≡ false
        none = test (marked c unused) (λ e.
            let below = live_in u unused C.table.whole (C.lives unused e) in
            let few = C.table.few in
            absurd (omega arith)) (λ e. e)

    -- the two removals are one, of both layers
    removes_joined : Removes n t m v
    removes_joined = record {
      long = S.long ∙ R.long;
      gone = λ x j l h. ⊎_elim (gone_first x j l) (λ e. S.gone x j l (same x ∙ e)) ((G.exactly x).0 h);
      found = λ x o _. walk_joined x (out_first x o) (out_then x o);
      stays = λ x j l ne o. S.stays x j l ne (out_then x o) ∙ R.stays x j l ne (out_first x o);
      keeps = λ x o next.
          let kept = R.keeps x (out_first x o) (out_first (link t n x) next) in
          S.keeps x (out_then x o) (rw kept (out_then (link t n x) next)) ∙ kept;
    }

-- ---- what remove leaves is one table

removes_one : {n : ℕ} {t m u v : List ℕ} → BlockTable n t → Removes n t m u → Removes n t m v → u ≡ v
unfolding slots
removes_one {n} {t} {m} {u} {v} B P Q = table_same v whole u (P.long ∙ sym Q.long) (λ x j _ l. same x j l)
  where
    whole : length v ≡ 4 * slots v
    whole = rw Q.long B.whole

    next : (x : ℕ) → marked m x ≡ false → link u n x ≡ link v n x
    next x o = test (marked m (link t n x)) (λ h. outside_unique (P.found x o h) (Q.found x o h))
        (λ h. P.keeps x o h ∙ sym (Q.keeps x o h))

    same : (x j : ℕ) → j < 4 → link u j x ≡ link v j x
    same x j l = test (marked m x) (λ h. P.gone x j l h ∙ sym (Q.gone x j l h))
        (λ o. if_eq j n (λ e. rw e (next x o)) (λ e. P.stays x j l e o ∙ sym (Q.stays x j l e o)))

-- ---- the order of two layers

-- the layer b is removed from the table u and leaves v, by marks that are 1 and 2 at the same slots
pub record RemovedFrom (n : ℕ) (u b v : List ℕ) : Type 0 where
  pub marks : List ℕ
  pub layer : Layer n u marks
  pub same : (x : ℕ) → marked marks x ≡ marked b x
  pub removes : Removes n u marks v

module _ {n : ℕ} {t a b : List ℕ} (A : Layer n t a) (B : Layer n t b) (apart : Disjoint a b) where
  joins : Joined a b (join a b)
  joins = join_joined a b (B.long ∙ sym A.long)

  -- a, then b
  pub both_removes : {u v : List ℕ} → Removes n t a u → RemovedFrom n u b v → Removes n t (join a b) v
  both_removes R S = removes_joined A B apart R S.layer S.same S.removes joins

  -- b, then a
  turned_removes : {u v : List ℕ} → Removes n t b u → RemovedFrom n u a v → Removes n t (join a b) v
  turned_removes R S = removes_joined B A (λ x h k. apart x k h) R S.layer S.same S.removes (joined_turn joins)

  pub layers_order : {u v w z : List ℕ} → Removes n t a u → RemovedFrom n u b v → Removes n t b w → RemovedFrom n w a z → v ≡ z
  layers_order R S P Q = removes_one A.table (both_removes R S) (turned_removes P Q)
