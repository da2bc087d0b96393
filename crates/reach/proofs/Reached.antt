-- An orbit is what a flood reaches by the links of its mask: `spread`; what its beginning asks and leaves.
use Prim.Native.Nat.{ℕ, ◌+◌, ◌/◌, ◌%◌, ◌^◌, ◌≤◌, ◌<◌}
use mathlib.Core.Path.{◌≡◌}
use mathlib.Core.Logic.{◌↔◌}
use mathlib.Core.Bool.{true}
use mathlib.Core.List.{List}
use native.Mathlib.Omega.{arith}
use lib.ListN.{length, get_or, set, replicate, length-set}
use lib.Seq.{get_or-set_same}
use borrow.Author.Tests.{eqb-true}
use Rattle.model.specs.Table.{slots, link, live}
use Rattle.model.specs.Orbit.{bit, orbit}
use Rattle.model.specs.Meaning.Maps.{Dim}
use Rattle.model.specs.Meaning.Sets.{ByLink}
use Rattle.theorems.proofs.Lists.Scan.{if_lt}
use Rattle.theorems.proofs.Sets.Least.{orbit_is}
use Rattle.theorems.proofs.Maps.Dim.{two_cases}
use Rattle.theorems.proofs.Maps.Tables.{live_below, rule_at}
use Rattle.reach.specs.Search.{search_of}
use Rattle.reach.specs.Given.{Given}
use Rattle.reach.proofs.Flooding.{Step, Spread, Flooding, begun, least_by}

-- a mask below 2^(n+1) permits links 0..n only
mask_index : (n mask i : ℕ) → Dim n → mask < 2 ^ (n + 1) → i < 4 → bit mask i ≡ true → i ≤ n
unfolding bit
mask_index n mask i dim = two_cases n dim (λ n. mask < 2 ^ (n + 1) → i < 4 → bit mask i ≡ true → i ≤ n)
    (λ low four b. if_lt i 3 (λ l. omega arith) (λ l.
    let e : i ≡ 3 = omega arith in
    let odd : mask / 8 % 2 ≡ 1 = eqb-true (mask / 8 % 2) 1 (rw e at b) in
    omega arith))
    (λ low four b. omega arith)

module _ {n : ℕ} {t m q : List ℕ} {mask d : ℕ} (g : Given n t m q d) (bound : mask < 2 ^ (n + 1)) where
  same : (x y : ℕ) → ByLink t (λ j. (j ≤ n) × (bit mask j ≡ true)) x y ↔ Step (bit mask) (link t) 4 x y
  same x y = (
    λ s.
        let top = g.table.dim.1 in
        let low = s.allowed.0 in
        record { by = s.by; low = omega arith; permitted = s.allowed.1; leads = s.leads },
    λ s. record {
      by = s.by;
      allowed = (mask_index n mask s.by g.table.dim bound s.low s.permitted, s.permitted);
      leads = s.leads;
    },
  )

  pub spread : Spread (slots t) (bit mask) (link t) 4 (λ x. live t x ≡ true) d (orbit n t mask d)
  spread = record {
    below = λ x l. live_below g.table x l;
    goes = λ x i l b _. (rule_at g.table x l).goes i b;
    start = g.start;
    least = least_by (λ x. Unit {0}) (λ x _. tt) (λ x y _ _. tt) (λ x y _. same x y) (orbit_is n t d mask);
  }

  -- what `begin` asks
  pub begin_asks : (d < length m) × (d < 65536) × (0 < length q)
  begin_asks =
      let inside = live_below g.table d g.start in
      let few = g.table.few in
      let room = g.room in
      let long = g.long in
      (omega arith, omega arith, omega arith)

  -- m₁ and q₁ are what `begin` leaves
  pub begins : {m₁ q₁ : List ℕ} → (m₁ ≡ set (replicate (length m) 0) d 1) × (q₁ ≡ set q 0 d)
      → Flooding (slots t) d (orbit n t mask d) (search_of m₁ q₁ 1)
  begins (marks, queue) =
      let first : get_or (set q 0 d) 0 0 ≡ d = get_or-set_same q 0 d 0 begin_asks.2 in
      rw queue (begun spread (rw g.long at marks) first (rw length-set g.room))
