-- sew (i, d, e): "the side of d is its orbit under the links j <= n with |j-i| >= 2. A pairing is a one-to-one map f of
-- d's side onto e's side with f(d) = e and f(x.j) = f(x).j for those j. Then x.i = f(x) and f(x).i = x for all x."
-- unsew (i, d): "each dart of d's side and its partner become i-free."
use Rattle.std.specs.Prelude.{ℕ, zero, suc, ◌+◌, ◌*◌, Bool, true, false, ◌||◌, List, [], ◌∷◌, ◌++◌, length, get_or, set, replicate, leb, eqb}
use Rattle.std.proofs.Math.Option.{Option, none, some}
use Rattle.model.specs.Table.{unused, slots, link, walk, relink}
use Rattle.model.specs.Reach.{closure, links, in_set}

unfoldable pub side_words : ℕ → ℕ → List (List ℕ)
side_words n i = links n (λ j. leb (i + 2) j || leb (j + 2) i)

unfoldable pub side : ℕ → List ℕ → ℕ → ℕ → List ℕ
side n t i d = closure t (side_words n i) (d ∷ [])

-- ---- sew

-- a dart and its partner
pub data Couple : Type 0 where
  couple : ℕ → ℕ → Couple

unfoldable pub couple_steps : List ℕ → List (List ℕ) → ℕ → ℕ → List Couple
couple_steps t [] x y = []
couple_steps t (w ∷ ws) x y = couple (walk t w x) (walk t w y) ∷ couple_steps t ws x y

-- both sides are walked at once: entry x of p is the partner of x, or `unused`; nothing where a dart meets two partners
unfoldable pub pair_up : List ℕ → List (List ℕ) → ℕ → List Couple → List ℕ → Option (List ℕ)
pair_up t ws zero todo p = some p
pair_up t ws (suc fuel) [] p = some p
pair_up t ws (suc fuel) (couple x y ∷ todo) p =
    elim (eqb (get_or p x unused) unused) [
      | true ↦ pair_up t ws fuel (couple_steps t ws x y ++ todo) (set p x y)
      | false ↦ (elim (eqb (get_or p x unused) y) [ true ↦ pair_up t ws fuel todo p | false ↦ none ])
    ]

-- the partners of d's side, where d's partner is e
unfoldable pub partners : ℕ → List ℕ → ℕ → ℕ → ℕ → Option (List ℕ)
partners n t i d e =
    pair_up t (side_words n i) (1 + length (side_words n i) * slots t) (couple d e ∷ []) (replicate (slots t) unused)

-- a pairing exists: each dart of d's side has one partner, and each dart of e's side
unfoldable pub is_paired : ℕ → List ℕ → ℕ → ℕ → ℕ → Bool
is_paired n t i d e =
    elim (partners n t i d e) [
      | none ↦ false
      | some p ↦ (elim (partners n t i e d) [ none ↦ false | some q ↦ true ])
    ]

-- link i of x, where p are the partners of d's side and q those of e's
unfoldable pub sewn_link : List ℕ → ℕ → List ℕ → List ℕ → ℕ → ℕ
sewn_link t i p q x =
    elim (eqb (get_or p x unused) unused) [
      | true ↦ (elim (eqb (get_or q x unused) unused) [ true ↦ link t i x | false ↦ get_or q x unused ])
      | false ↦ get_or p x unused
    ]

unfoldable pub sewn : List ℕ → ℕ → List ℕ → List ℕ → List ℕ
sewn t i p q = relink t i (sewn_link t i p q)

unfoldable pub sew_table : ℕ → List ℕ → ℕ → ℕ → ℕ → List ℕ
sew_table n t i d e =
    elim (partners n t i d e) [
      | none ↦ t
      | some p ↦ (elim (partners n t i e d) [ none ↦ t | some q ↦ sewn t i p q ])
    ]

-- ---- unsew

-- x or its partner is in the side s
unfoldable pub unsews : List ℕ → ℕ → List ℕ → ℕ → Bool
unsews t i s x = in_set s x || in_set s (link t i x)

unfoldable pub unsewn_link : List ℕ → ℕ → List ℕ → ℕ → ℕ
unsewn_link t i s x = elim (unsews t i s x) [ true ↦ x | false ↦ link t i x ]

unfoldable pub unsewn : List ℕ → ℕ → List ℕ → List ℕ
unsewn t i s = relink t i (unsewn_link t i s)

unfoldable pub unsew_table : ℕ → List ℕ → ℕ → ℕ → List ℕ
unsew_table n t i d = unsewn t i (side n t i d)
