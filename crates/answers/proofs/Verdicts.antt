-- What a branch of the code says of a check, whether it is left (the check passes) or taken (it refuses): `passes`, `refuses`,
-- `clear_passes`, `clear_refuses` for a test that is a Boolean, `equal_passes`, `equal_refuses`, `differ_passes`, `differ_refuses` for two numbers,
-- `least_passes`, `least_refuses` for a search for the least slot, `rule_passes`, `rule_refuses` for a rule of a map.
-- `dart_test` and the like say by which test a check goes.
use Prim.Native.Nat.{ℕ, ◌≤◌, ◌<◌}
use mathlib.Core.Path.{◌≡◌, refl, sym, ap, ◌∙◌}
use mathlib.Core.Logic.{◌≢◌}
use mathlib.Core.Bool.{Bool, true, false, not}
use mathlib.Core.List.{List}
use native.Mathlib.Omega.{arith}
use lib.ListN.{get_or}
use lib.Dec.{eqb}
use borrow.Author.Tests.{eq-eqb, ne_eqb, le-leb, lt-leb, not-true, not-false}
use Rattle.std.specs.Prelude.{Some, None}
use Rattle.model.specs.Table.{slots, live}
use Rattle.model.specs.Map.{MapRule, keeps_rule, breaking_link, least_breaking, is_map}
use Rattle.model.specs.Cell.{least_wrong}
use Rattle.model.specs.Journal.{cursor, end}
use Rattle.model.specs.Checks.{Check, pass, refuse, must, must_at, rule_number, rule_ok, index_ok, dart_ok, block_ok}
use Rattle.model.specs.Checks.{undo_ok, redo_ok}
use Rattle.theorems.proofs.Lists.Scan.{test}
use Rattle.theorems.proofs.Maps.Broken.{link_below, link_found}
use Rattle.reading.specs.Found.{found_below}
use Rattle.reading.proofs.Found.{found_is, none_is}

-- ---- branches; z is the number of the check c

-- `if !b`
pub passes : (b : Bool) (z : ℕ) {c : Check} → must b z ≡ c → not b ≡ false → c ≡ pass
unfolding must
passes b z e h = sym e ∙ ap (λ b. must b z) (not-false b h)

pub refuses : (b : Bool) (z : ℕ) {c : Check} → must b z ≡ c → not b ≡ true → c ≡ refuse z 0 0
unfolding must
refuses b z e h = sym e ∙ ap (λ b. must b z) (not-true b h)

-- `if b`
pub clear_passes : (b : Bool) (z : ℕ) {c : Check} → must (not b) z ≡ c → b ≡ false → c ≡ pass
unfolding must
clear_passes b z e h = sym e ∙ ap (λ b. must (not b) z) h

pub clear_refuses : (b : Bool) (z : ℕ) {c : Check} → must (not b) z ≡ c → b ≡ true → c ≡ refuse z 0 0
unfolding must
clear_refuses b z e h = sym e ∙ ap (λ b. must (not b) z) h

-- `if x != y`
pub equal_passes : (x y z : ℕ) {c : Check} → must (eqb x y) z ≡ c → x ≡ y → c ≡ pass
unfolding must
equal_passes x y z e h = sym e ∙ rw (eq-eqb x y h)

pub equal_refuses : (x y z : ℕ) {c : Check} → must (eqb x y) z ≡ c → x ≢ y → c ≡ refuse z 0 0
unfolding must
equal_refuses x y z e h = sym e ∙ rw (ne_eqb x y h)

-- `if x == y`
pub differ_passes : (x y z : ℕ) {c : Check} → must (not (eqb x y)) z ≡ c → x ≢ y → c ≡ pass
unfolding must
differ_passes x y z e h = sym e ∙ rw (ne_eqb x y h)

pub differ_refuses : (x y z : ℕ) {c : Check} → must (not (eqb x y)) z ≡ c → x ≡ y → c ≡ refuse z 0 0
unfolding must
differ_refuses x y z e h = sym e ∙ rw (eq-eqb x y h)

-- `None` and `Some a`, where x is the least slot that is wrong, or the number of slots y
pub least_passes : (x y z : ℕ) {c : Check} → must_at (eqb x y) z x 0 ≡ c → x ≤ y → None ≡ found_below y x → c ≡ pass
unfolding must_at
least_passes x y z e high none = let least = none_is y x none in sym e ∙ rw (eq-eqb x y (omega arith))

pub least_refuses : (x y z : ℕ) {c : Check} (a : ℕ) → must_at (eqb x y) z x 0 ≡ c → Some a ≡ found_below y x → c ≡ refuse z a 0
unfolding must_at
least_refuses x y z a e some =
    let (is, low) = found_is y x a some in
    sym e ∙ rw (ne_eqb x y (λ i. omega arith), is)

-- `None` and `Some i`, where i is the least link that breaks the rule r at the least slot d that breaks one
module _ (n : ℕ) (t : List ℕ) (r : MapRule) (d : ℕ) (least : d ≡ least_breaking n t) where
  pub rule_passes : None ≡ found_below 4 (breaking_link n t d r) → rule_ok n t r ≡ pass
  rule_passes none = unfold rule_ok must_at in test (is_map n t) (λ e. rw e) (λ e. rw (e, ← least, kept))
    where
      kept : keeps_rule n t d r ≡ true
      kept =
          test (keeps_rule n t d r) (λ e. e) (λ e.
          let below = link_below n t d r e in
          let above = none_is 4 (breaking_link n t d r) none in
          absurd (omega arith))

  pub rule_refuses : (i : ℕ) → is_map n t ≡ false → Some i ≡ found_below 4 (breaking_link n t d r)
      → rule_ok n t r ≡ refuse (rule_number r) d i
  unfolding rule_ok must_at
  rule_refuses i e some =
      let (is, low) = found_is 4 (breaking_link n t d r) i some in
      rw (e, ← least, link_found n t d r low, is)

-- `if i > n`
pub index_passes : (n i : ℕ) → i ≤ n → index_ok n i ≡ pass
unfolding index_ok must
index_passes n i h = rw (le-leb i n h)

pub index_refuses : (n i : ℕ) → n < i → index_ok n i ≡ refuse 6 0 0
unfolding index_ok must
index_refuses n i h = rw (lt-leb i n h)

-- ---- the tests of the checks

pub dart_test : (t : List ℕ) (d : ℕ) {b : Bool} → b ≡ live t d → must b 7 ≡ dart_ok t d
unfolding dart_ok
dart_test t d e = ap (λ b. must b 7) e

pub block_test : (n : ℕ) (t : List ℕ) → must_at (eqb (least_wrong n t) (slots t)) 8 (least_wrong n t) 0 ≡ block_ok n t
unfolding block_ok
block_test n t = refl

pub undo_test : (j : List ℕ) → must (not (eqb (get_or j 0 0) 2)) 16 ≡ undo_ok j
unfolding undo_ok cursor
undo_test j = refl

pub redo_test : (j : List ℕ) → must (not (eqb (get_or j 0 0) (get_or j 1 0))) 16 ≡ redo_ok j
unfolding redo_ok cursor end
redo_test j = refl
