-- Whether no slot is live, by the entries of the table: `entries_fold`, `entries_all`; where none is, the checks of a map pass
-- (`empty_passes`); and what is known where the checks up to 18 pass (`empty_opened`).
use Prim.Native.Nat.{ℕ, zero, suc, ◌+◌, ◌*◌, ◌/◌, ◌%◌, ◌≤◌, ◌<◌}
use mathlib.Core.Path.{◌≡◌, refl, sym, ap, ap₂, ◌∙◌, subst}
use mathlib.Core.Logic.{◌≢◌}
use mathlib.Core.Bool.{Bool, true, not}
use mathlib.Core.List.{List}
use native.Mathlib.Omega.{arith}
use lib.ListN.{length, get_or, take}
use lib.Dec.{eqb}
use lib.Bits.{bit_and, and_le_l, and_le_r, and_self}
use borrow.Author.Tests.{eqb-true, eqb-false, not-true}
use Rattle.std.specs.List.{fold}
use Rattle.std.proofs.Math.Seq.{take-length}
use Rattle.std.proofs.lemmas.List.Sums.{fold_more}
use Rattle.model.specs.Lists.{all_below}
use Rattle.model.specs.Table.{unused, slots, link, live}
use Rattle.model.specs.Map.{MapRule, links_live, links_return, pairs_commute, stays_flat, is_map}
use Rattle.model.specs.Checks.{pass, must, must_at, and_then, in_order, solid_ok, table_ok, journal_ok, rule_ok, map_checks, empty_ok}
use Rattle.theorems.proofs.Lists.Scan.{test, clash, same_test, if_eq, below_at, below_of}
use Rattle.theorems.proofs.Sets.Closure.{get_or_any}
use Rattle.theorems.proofs.Maps.Rules.{of_map, dead_by, dead_link}
use Rattle.theorems.proofs.Calls.Checks.{passed_at}
use Rattle.theorems.proofs.Calls.Pass.{solid_pass}
use Rattle.theorems.proofs.Vtk.Passed.{empty_pass}
use Rattle.call_read_vtk.specs.Formed.{empty_checks}

-- the first e entries, by the bits that they have in common: all are of unused slots, or one is not
pub record Entries (t : List ℕ) (e common : ℕ) : Type 0 where
  low : common ≤ unused
  all : common ≡ unused → (k : ℕ) → k < e → get_or t k 0 ≡ unused
  some : common ≢ unused → (k : ℕ) × (k < e) × (get_or t k 0 ≢ unused)

pub entries_none : (t : List ℕ) → Entries t 0 unused
entries_none t = record { low = omega arith; all = λ h k l. absurd (omega arith); some = λ h. absurd (h refl) }

pub entries_more : {t : List ℕ} {e common : ℕ} → get_or t e 0 ≤ unused → Entries t e common → Entries t (e + 1) (bit_and common (get_or t e 0))
entries_more {t} {e} {common} fits E =
    let next = get_or t e 0 in
    let left = and_le_l common next in
    let right = and_le_r common next in
    let low = E.low in
    record {
      low = omega arith;
      all = λ h k l. if_eq k e (λ q. rw q (omega arith)) (λ q. E.all (omega arith) k (omega arith));
      some = λ h. if_eq common unused
          (λ q. (e, omega arith, λ r. h (ap₂ bit_and q r ∙ and_self unused)))
          (λ q. let (k, l, other) = E.some q in (k, omega arith, other));
    }

entries_upto : {t : List ℕ} → ((k : ℕ) → get_or t k 0 ≤ unused) → (e : ℕ) → e ≤ length t → Entries t e (fold bit_and unused (take e t))
entries_upto {t} fits zero l = entries_none t
entries_upto {t} fits (suc e) l =
    let next : e + 1 ≡ suc e = omega arith in
    subst (λ (n : ℕ). Entries t n (fold bit_and unused (take n t))) next
    (rw (fold_more bit_and unused t e 0 (omega arith)) (entries_more (fits e) (entries_upto fits e (omega arith))))

pub entries_fold : (t : List ℕ) → ((k : ℕ) → get_or t k 0 ≤ unused) → Entries t (length t) (fold bit_and unused t)
entries_fold t fits =
    rw (take-length t) at (entries_upto fits (length t) (omega arith))

pub entries_all : (t : List ℕ) → length t ≡ 4 * slots t → {common : ℕ} → Entries t (length t) common
    → eqb common unused ≡ all_below (slots t) (λ d. not (live t d))
unfolding link
entries_all t whole {common} E = same_test dead alive
  where
    entry : (k : ℕ) → k < length t → get_or t k unused ≡ get_or t k 0
    entry k low = get_or_any t k unused 0 low

    dead : eqb common unused ≡ true → all_below (slots t) (λ d. not (live t d)) ≡ true
    dead h = below_of (λ d. not (live t d)) (slots t) (λ d low.
        let at : (i : ℕ) → i < 4 → link t i d ≡ unused = λ i l. entry (4 * d + i) (omega arith) ∙ E.all (eqb-true _ _ h) (4 * d + i) (omega arith) in
        ap not (dead_by t d (at 0 (omega arith)) (at 1 (omega arith)) (at 2 (omega arith)) (at 3 (omega arith))))

    alive : all_below (slots t) (λ d. not (live t d)) ≡ true → eqb common unused ≡ true
    alive h = test (eqb common unused) (λ q. q) (λ q.
        let (k, low, other) = E.some (eqb-false _ _ q) in
        let none = not-true _ (below_at (λ d. not (live t d)) (slots t) h (k / 4) (omega arith)) in
        let place : 4 * (k / 4) + k % 4 ≡ k = omega arith in
        absurd (other (sym (entry k low) ∙ ap (λ (x : ℕ). get_or t x unused) (sym place) ∙ dead_link t (k / 4) none (k % 4) (omega arith))))

-- ---- the tests of 1 and 18

pub solid_test : (n : ℕ) → must (eqb n 3) 1 ≡ solid_ok n
unfolding solid_ok
solid_test n = refl

pub empty_test : (t : List ℕ) {b : Bool} → b ≡ all_below (slots t) (λ d. not (live t d)) → must b 18 ≡ empty_ok t
unfolding empty_ok
empty_test t e = ap (λ b. must b 18) e

pub empty_taken : (t : List ℕ) {b : Bool} → b ≡ all_below (slots t) (λ d. not (live t d)) → b ≡ true → empty_ok t ≡ pass
unfolding must
empty_taken t e h = sym (empty_test t e) ∙ ap (λ b. must b 18) h

-- ---- a table with no live slot is a map

module _ (t : List ℕ) (whole : length t ≡ 4 * slots t) (passed : empty_ok t ≡ pass) where
  empty_map : is_map 3 t ≡ true
  empty_map = of_map 3 t (record { rule = λ d _ lives. absurd (clash lives (empty_pass t whole passed d)) })

  empty_rule : (r : MapRule) → rule_ok 3 t r ≡ pass
  unfolding rule_ok must_at
  empty_rule r = rw empty_map

  pub empty_passes : (n : ℕ) → n ≡ 3 → (j : List ℕ) → table_ok t ≡ pass → journal_ok j ≡ pass → in_order (empty_checks n t j) ≡ pass
  unfolding empty_checks map_checks in_order and_then solid_ok must
  empty_passes n three j fits rule =
      rw (
        three,
        fits,
        rule,
        empty_rule links_live,
        empty_rule links_return,
        empty_rule pairs_commute,
        empty_rule stays_flat,
        passed,
      )

-- ---- what is known where the checks up to 18 pass

pub empty_opened : (n : ℕ) (t j : List ℕ) → in_order (empty_checks n t j) ≡ pass → (n ≡ 3) × (table_ok t ≡ pass)
unfolding empty_checks map_checks
empty_opened n t j h = (solid_pass n (passed_at _ h 0), passed_at _ h 1)
