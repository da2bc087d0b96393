-- Marks that are 0: none between a slot and itself (`clear_none`), one more (`clear_more`), those behind (`clear_on`); an OR that is 0; a mark of a slice (`slice_at`, `slice_long`).
-- A pass that goes on (`skips_on`), also over one mark (`skips_one`), a block (`skips_block`) or groups (`skips_groups`).
use Prim.Native.Nat.{ℕ, ◌+◌, ◌*◌, ◌/◌, ◌%◌, ◌≤◌, ◌<◌}
use mathlib.Core.Path.{◌≡◌, ◌∙◌}
use mathlib.Core.List.{List}
use native.Mathlib.Omega.{arith}
use lib.Bits.{bit_or, or_add_and, and_le_l, and_le_r}
use lib.ListN.{length, get_or, take, drop, length-take, length-drop}
use lib.Seq.{get_or-take, get_or-drop, length-take-le}
use Rattle.theorems.proofs.Lists.Scan.{if_eq, if_lt}
use Rattle.scans.specs.Clear.{Clear, Skips, Grouped}

pub or_clear : (a b : ℕ) → bit_or a b ≡ 0 → (a ≡ 0) × (b ≡ 0)
or_clear a b e =
    let sum = or_add_and a b in
    let left = and_le_l a b in
    let right = and_le_r a b in
    (omega arith, omega arith)

-- a mark of a slice of j marks from x on
pub slice_at : (m : List ℕ) (x j k : ℕ) → k < length (take j (drop x m)) → get_or (take j (drop x m)) k 0 ≡ get_or m (x + k) 0
slice_at m x j k low =
    let long = length-take j (drop x m) in
    get_or-take j (drop x m) k 0 (omega arith) ∙ get_or-drop x m k 0

-- of which there are j
pub slice_long : (m : List ℕ) (x j : ℕ) → x + j ≤ length m → length (take j (drop x m)) ≡ j
slice_long m x j room =
    let left = length-drop x m in
    length-take-le j (drop x m) (omega arith)

pub clear_none : (m : List ℕ) (x : ℕ) → Clear m x x
clear_none m x z low high = absurd (omega arith)

pub clear_more : (m : List ℕ) (x y : ℕ) → Clear m x y → get_or m y 0 ≡ 0 → Clear m x (y + 1)
clear_more m x y before here z low high = if_eq z y (λ e. rw e here) (λ e. before z low (omega arith))

pub clear_on : (m : List ℕ) (x y z : ℕ) → Clear m x y → Clear m y z → Clear m x z
clear_on m x y z before behind w low high = if_lt w y (λ h. before w low h) (λ h. behind w h high)

pub skips_none : (m : List ℕ) (x : ℕ) → x ≤ length m → Skips m x x
skips_none m x h = record { onward = omega arith; within = h; clear = clear_none m x }

pub skips_on : {m : List ℕ} {x y z : ℕ} → Skips m x y → Skips m y z → Skips m x z
skips_on {m} {x} {y} {z} A B =
    let a = A.onward in
    let b = B.onward in
    record { onward = omega arith; within = B.within; clear = clear_on m x y z A.clear B.clear }

pub skips_one : (m : List ℕ) (x : ℕ) → x < length m → get_or m x 0 ≡ 0 → Skips m x (x + 1)
skips_one m x low h =
    record { onward = omega arith; within = omega arith; clear = clear_more m x x (clear_none m x) h }

pub skips_block : (m : List ℕ) (x k : ℕ) → x + k ≤ length m → Clear m x (x + k) → Skips m x (x + k)
skips_block m x k low clear = record { onward = omega arith; within = low; clear = clear }

-- groups that are passed over, from the one that begins at x, are marks that are
pub skips_groups : {m gs : List ℕ} {x h : ℕ} → Grouped m gs → x % 256 ≡ 0 → Skips gs (x / 256) h → Skips m x (256 * h)
skips_groups {m} {gs} {x} {h} G begins S =
    let on = S.onward in
    let within = S.within in
    let long = G.long in
    record {
      onward = omega arith;
      within = omega arith;
      clear = λ z low high. G.clear (z / 256) (S.clear (z / 256) (omega arith) (omega arith)) z (omega arith) (omega arith);
    }
