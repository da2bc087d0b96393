-- When a test fails, and when it holds, as properties of what it tests.
use Prim.Native.Nat.{ℕ, ◌≤◌, ◌<◌}
use mathlib.Core.Path.{◌≡◌, refl}
use mathlib.Core.Logic.{◌⊎◌, inl, inr, ◌≢◌, ◌↔◌, ⊎_elim}
use mathlib.Core.Bool.{Bool, true, false, not, ◌&&◌, ◌||◌}
use lib.Dec.{leb, ltb, eqb}
use borrow.Author.Tests.{eqb-true, eqb-false, eq-eqb, ne_eqb, leb-false, lt-leb, ltb-false, le-ltb}
use Rattle.theorems.proofs.Lists.Scan.{clash, test}

pub not_fails : (b : Bool) → (not b ≡ false) ↔ (b ≡ true)
not_fails true = (λ h. refl, λ h. refl)
not_fails false = (λ h. absurd (clash refl h), λ h. absurd (clash h refl))

pub and_fails : (a b : Bool) → ((a && b) ≡ false) ↔ ((a ≡ false) ⊎ (b ≡ false))
and_fails true b = (inr, ⊎_elim (λ q. absurd (clash refl q)) (λ q. q))
and_fails false b = (inl, λ h. refl)

pub or_fails : (a b : Bool) → ((a || b) ≡ false) ↔ ((a ≡ false) × (b ≡ false))
or_fails true b = (λ h. absurd (clash refl h), λ r. r.0)
or_fails false b = (λ h. (refl, h), λ r. r.1)

pub or_holds : (a b : Bool) → ((a || b) ≡ true) ↔ ((a ≡ true) ⊎ (b ≡ true))
or_holds true b = (λ h. inl refl, λ h. refl)
or_holds false b = (inr, ⊎_elim (λ q. absurd (clash q refl)) (λ q. q))

pub leb_fails : (a b : ℕ) → (leb a b ≡ false) ↔ (b < a)
leb_fails a b = (leb-false a b, lt-leb a b)

pub ltb_fails : (a b : ℕ) → (ltb a b ≡ false) ↔ (b ≤ a)
ltb_fails a b = (ltb-false a b, le-ltb a b)

pub eqb_fails : (a b : ℕ) → (eqb a b ≡ false) ↔ (a ≢ b)
eqb_fails a b = (eqb-false a b, ne_eqb a b)

pub eqb_holds : (a b : ℕ) → (eqb a b ≡ true) ↔ (a ≡ b)
eqb_holds a b = (eqb-true a b, eq-eqb a b)

-- a test fails exactly if what it tests does not hold
pub test_fails : {P : Type 0} (b : Bool) → (b ≡ true) ↔ P → (b ≡ false) ↔ (P → ⊥)
test_fails b f = (λ h p. clash (f.1 p) h, λ h. test b (λ e. absurd (h (f.0 e))) (λ e. e))

pub one_of : {A B C D : Type 0} → A ↔ C → B ↔ D → (A ⊎ B) ↔ (C ⊎ D)
one_of f g = (⊎_elim (λ a. inl (f.0 a)) (λ b. inr (g.0 b)), ⊎_elim (λ c. inl (f.1 c)) (λ d. inr (g.1 d)))
