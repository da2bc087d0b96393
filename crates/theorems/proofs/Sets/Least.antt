-- Cell, orbit, side and sheet are each the least set that holds its dart and is closed under the links that document 01 names.
-- Main theorems: `least_set_unique` (there is one such set only); `cell_is`, `orbit_is`, `side_is`, `sheet_is`.
use Prim.Native.Nat.{ℕ, suc, ◌+◌, ◌≤◌, ◌<◌}
use mathlib.Core.Path.{◌≡◌, sym, ◌∙◌}
use mathlib.Core.Logic.Iff
use mathlib.Core.Logic.{◌⊎◌, inl, inr, ⊎_elim, ◌↔◌}
use mathlib.Core.Bool.{Bool, true, ◌||◌}
use mathlib.Core.List.Memᴰ.{cases_cons as in-cons}
use mathlib.Core.List.Memᴰ.{eq_of_singleton as sole}
use mathlib.Core.List.{List, [], ◌∷◌, Memᴰ as In}
use mathlib.Core.List.Memᴰ.{cast as in-cast}
use mathlib.Core.List.Memᴰ.{head as here}
use mathlib.Core.List.Memᴰ.{tail as there}
use native.Mathlib.Omega.{arith}
use lib.ListN.{get_or}
use lib.Seq.{ext_get_or}
use lib.Dec.{ltb, leb}
use borrow.Author.Tests.{ltb-true, lt-ltb, leb-true, le-leb}
use Rattle.model.specs.Table.{slots, link, walk}
use Rattle.model.specs.Reach.{steps, closure, links}
use Rattle.model.specs.Cell.{cell_words, cell_of}
use Rattle.model.specs.Orbit.{bit, orbit_words, orbit}
use Rattle.model.specs.Sew.{side_words, side}
use Rattle.model.specs.Sheet.{sheet_words, sheet}
use Rattle.model.specs.Meaning.Sets.{Marked, LeastSet, ByLink, SheetStep, along, across, beside}
use Rattle.model.specs.Meaning.Pairings.{Far}
use Rattle.theorems.proofs.Lists.Scan.{or_cases, or_i}
use Rattle.theorems.proofs.Sets.Closure.{closure_least}
use Rattle.theorems.proofs.Sets.Links.{step_in, step_of}

-- ---- there is one least set only

module _ {n : ℕ} {Seed : ℕ → Type 0} {Step : ℕ → ℕ → Type 0} where
  least_set_within : {r s : List ℕ} → LeastSet n Seed Step r → LeastSet n Seed Step s → (x : ℕ) → Marked r x → Marked s x
  least_set_within {r} {s} p q = p.within (Marked s) q.holds (λ x y _. q.closed x y)

  -- it is one list of marks, whatever has found it
  pub least_set_unique : {r s : List ℕ} → LeastSet n Seed Step r → LeastSet n Seed Step s → r ≡ s
  least_set_unique {r} {s} p q = ext_get_or 0 r s (p.long ∙ sym q.long) (λ i _. same i (p.bits i) (q.bits i))
    where
      same : (i : ℕ) → (get_or r i 0 ≡ 0) ⊎ (get_or r i 0 ≡ 1) → (get_or s i 0 ≡ 0) ⊎ (get_or s i 0 ≡ 1) → get_or r i 0 ≡ get_or s i 0
      same i (inr a) b = a ∙ sym (least_set_within p q i a)
      same i (inl a) (inl b) = a ∙ sym b
      same i (inl a) (inr b) = least_set_within q p i b ∙ sym b

-- a least set stays one under other steps that are the same from its own darts
pub least_kept : {k : ℕ} {Seed : ℕ → Type 0} {Step Next : ℕ → ℕ → Type 0} {s : List ℕ} → LeastSet k Seed Step s
    → ((x y : ℕ) → Marked s x → Next x y ↔ Step x y) → LeastSet k Seed Next s
least_kept {k} {Seed} {Step} {Next} {s} L same = record {
  long = L.long;
  bits = L.bits;
  holds = L.holds;
  closed = λ x y h p. L.closed x y h ((same x y h).0 p);
  within = λ P seed kept x h. (L.within (λ y. Marked s y × P y)
      (λ y q low. (L.holds y q low, seed y q low))
      (λ y z low (m, p) q to. (L.closed y z m q to, kept y z low p ((same y z m).1 q) to)) x h).1;
}

-- steps by links, where these lead from x as they do in another table
pub by_link_same : (t u : List ℕ) (Allowed : ℕ → Type 0) (x : ℕ) → ((j : ℕ) → Allowed j → link u j x ≡ link t j x) → (y : ℕ)
    → ByLink u Allowed x y ↔ ByLink t Allowed x y
by_link_same t u Allowed x same y = (
  λ b. record { by = b.by; allowed = b.allowed; leads = b.leads ∙ same b.by b.allowed },
  λ b. record { by = b.by; allowed = b.allowed; leads = b.leads ∙ sym (same b.by b.allowed) },
)

-- ---- the closure of one dart, with its steps as a property

module _ (t : List ℕ) (ws : List (List ℕ)) (d : ℕ) (Step : ℕ → ℕ → Type 0) where
  closure_is : ((x y : ℕ) → In y (steps t ws x) ↔ Step x y) → LeastSet (slots t) (λ x. x ≡ d) Step (closure t ws (d ∷ []))
  closure_is exact =
      let c = closure_least t ws (d ∷ []) in
      record {
        long = c.long;
        bits = c.bits;
        holds = λ x e. c.holds x (here e);
        closed = λ x y h s. c.closed x y h ((exact x y).1 s);
        within = λ P seed kept. c.within P (λ x i. seed x (sole i)) (λ x y l h i. kept x y l h ((exact x y).0 i));
      }

-- ---- words that are single links

links_exactly : (n : ℕ) (t : List ℕ) (p : ℕ → Bool) (Allowed : ℕ → Type 0) → ((j : ℕ) → ((j ≤ n) × (p j ≡ true)) ↔ Allowed j)
    → (x y : ℕ) → In y (steps t (links n p) x) ↔ ByLink t Allowed x y
unfolding links
links_exactly n t p Allowed exact x y = (to, from)
  where
    to : In y (steps t (links n p) x) → ByLink t Allowed x y
    to i =
        let r = step_of t x p (suc n) 0 y i in
        let l = r.1 in
        record { by = r.0; allowed = (exact r.0).0 (omega arith, r.2); leads = r.3 }

    from : ByLink t Allowed x y → In y (steps t (links n p) x)
    from b =
        let (l, h) = (exact b.by).1 b.allowed in
        in-cast b.leads (step_in t x p (suc n) 0 b.by (omega arith) (omega arith) h)

-- ---- the sets of 01

module _ (n : ℕ) (t : List ℕ) (d : ℕ) where
  -- "all darts reached by links 0..n-1"
  pub cell_is : LeastSet (slots t) (λ x. x ≡ d) (ByLink t (λ j. j < n)) (cell_of n t d)
  unfolding cell_of cell_words
  cell_is = closure_is t (cell_words n) d _ (links_exactly n t (λ j. ltb j n) _ exact)
    where
      exact : (j : ℕ) → ((j ≤ n) × (ltb j n ≡ true)) ↔ (j < n)
      exact j = (λ h. ltb-true j n h.1, λ l. (omega arith, lt-ltb j n l))

  -- "bit i of the mask permits link i"
  pub orbit_is : (mask : ℕ) → LeastSet (slots t) (λ x. x ≡ d) (ByLink t (λ j. (j ≤ n) × (bit mask j ≡ true))) (orbit n t mask d)
  unfolding orbit orbit_words
  orbit_is mask = closure_is t (orbit_words n mask) d _ (links_exactly n t (bit mask) _ (λ j. Iff.rfl))

  -- "its orbit under the links j <= n with |j-i| >= 2"
  pub side_is : (i : ℕ) → LeastSet (slots t) (λ x. x ≡ d) (ByLink t (λ j. (j ≤ n) × Far i j)) (side n t i d)
  unfolding side side_words
  side_is i = closure_is t (side_words n i) d _ (links_exactly n t (λ j. leb (i + 2) j || leb (j + 2) i) _ exact)
    where
      far : (j : ℕ) → ((leb (i + 2) j || leb (j + 2) i) ≡ true) ↔ Far i j
      far j = (
        λ h. ⊎_elim (λ e. inl (leb-true _ _ e)) (λ e. inr (leb-true _ _ e)) (or_cases (leb (i + 2) j) (leb (j + 2) i) h),
        λ h. or_i _ _ (⊎_elim (λ l. inl (le-leb (i + 2) j l)) (λ l. inr (le-leb (j + 2) i l)) h),
      )

      exact : (j : ℕ) → ((j ≤ n) × ((leb (i + 2) j || leb (j + 2) i) ≡ true)) ↔ ((j ≤ n) × Far i j)
      exact j = Iff.and Iff.rfl (far j)

  -- "the least set holding d and closed under link 0, the opposite edge 1.0.1, and links 2..n"
  pub sheet_is : LeastSet (slots t) (λ x. x ≡ d) (SheetStep n t) (sheet n t d)
  unfolding sheet sheet_words steps walk
  sheet_is = closure_is t (sheet_words n) d _ (λ x y. (to x y, from x y))
    where
      exact : (j : ℕ) → ((j ≤ n) × (leb 2 j ≡ true)) ↔ ((j ≤ n) × (2 ≤ j))
      exact j = Iff.and Iff.rfl (leb-true 2 j, le-leb 2 j)

      others : (x y : ℕ) → In y (steps t (links n (λ j. leb 2 j)) x) ↔ ByLink t (λ j. (j ≤ n) × (2 ≤ j)) x y
      others = links_exactly n t (λ j. leb 2 j) _ exact

      to : (x y : ℕ) → In y (steps t (sheet_words n) x) → SheetStep n t x y
      to x y i = ⊎_elim along (λ k. ⊎_elim across (λ l. beside ((others x y).0 l)) (in-cons k)) (in-cons i)

      from : (x y : ℕ) → SheetStep n t x y → In y (steps t (sheet_words n) x)
      from x y (along e) = here e
      from x y (across e) = there (here e)
      from x y (beside b) = there (there ((others x y).1 b))
