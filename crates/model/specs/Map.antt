-- Map: "At each live slot d: every link is a live slot; d.i.i = d for i = 0..3; going i, j, i, j returns to d
-- for each pair i+2 <= j <= n; for n = 2, d.3 = d."
use Rattle.std.specs.Prelude.{ℕ, suc, ◌+◌, Bool, true, false, not, ◌&&◌, List, [], ◌∷◌, leb, eqb}
use Rattle.model.specs.Lists.{least, all_below}
use Rattle.model.specs.Table.{slots, link, live, walk}

-- going the word returns to d
unfoldable pub returns : List ℕ → List ℕ → ℕ → Bool
returns t w d = eqb (walk t w d) d

-- going i, j, i, j returns to d, where i + 2 <= j
unfoldable pub crossed : List ℕ → ℕ → ℕ → ℕ → Bool
crossed t d i j = elim (leb (i + 2) j) [ true ↦ returns t (i ∷ j ∷ i ∷ j ∷ []) d | false ↦ true ]

-- the rules at a live slot, in their order
pub data MapRule : Type 0 where
  links_live : MapRule  -- every link is a live slot
  links_return : MapRule  -- d.i.i = d
  pairs_commute : MapRule  -- going i, j, i, j returns
  stays_flat : MapRule  -- for n = 2, d.3 = d

-- link i of d keeps the rule; a pair goes by its lower index
unfoldable pub keeps_at : ℕ → List ℕ → ℕ → MapRule → ℕ → Bool
keeps_at n t d links_live i = live t (link t i d)
keeps_at n t d links_return i = returns t (i ∷ i ∷ []) d
keeps_at n t d pairs_commute i = all_below (suc n) (crossed t d i)
keeps_at n t d stays_flat i = elim (eqb n 2 && eqb i 3) [ true ↦ eqb (link t i d) d | false ↦ true ]

unfoldable pub keeps_rule : ℕ → List ℕ → ℕ → MapRule → Bool
keeps_rule n t d r = all_below 4 (keeps_at n t d r)

-- the least link of d that breaks the rule, or 4
unfoldable pub breaking_link : ℕ → List ℕ → ℕ → MapRule → ℕ
breaking_link n t d r = least 4 (λ i. not (keeps_at n t d r i))

unfoldable pub keeps_rules : ℕ → List ℕ → ℕ → Bool
keeps_rules n t d =
    keeps_rule n t d links_live && keeps_rule n t d links_return && keeps_rule n t d pairs_commute && keeps_rule n t d stays_flat

unfoldable pub breaks_rule : ℕ → List ℕ → ℕ → Bool
breaks_rule n t d = elim (live t d) [ true ↦ not (keeps_rules n t d) | false ↦ false ]

-- "least slot that breaks a rule", or the number of slots
unfoldable pub least_breaking : ℕ → List ℕ → ℕ
least_breaking n t = least (slots t) (breaks_rule n t)

unfoldable pub is_map : ℕ → List ℕ → Bool
is_map n t = eqb (least_breaking n t) (slots t)
