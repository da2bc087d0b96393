-- `new_darts::find_slots` meets its contract.
use Prim.Native.Nat.{ℕ, ◌+◌, ◌≤◌}
use mathlib.Core.Path.{refl, sym, ap, ◌∙◌}
use mathlib.Core.List.{List}
use native.Mathlib.Omega.{arith}
use lib.ListN.{take}
use lib.Dec.{eqb}
use borrow.Author.Tests.{eqb-true, eqb-false}
use Rattle.model.specs.Table.{slots, unused_slots}
use Rattle.theorems.proofs.Lists.Scan.{clash}
use Rattle.reading.proofs.Passed.{table_short}
use Rattle.scans.specs.Lowest.{Lists}
use Rattle.new_darts.specs.Slots.{SlotsFound}
use Rattle.new_darts.proofs.find_slots.Goals as goal

-- no more than all slots are asked for, and r are listed
found : {t : List ℕ} {new live r : ℕ} {words₀ words : List ℕ} → new + live ≤ slots t → Lists (take new (unused_slots t)) r words₀ words
    → SlotsFound t new live words₀ words (eqb r new)
found {t} {new} {live} {r} {words₀} {words} within L = record {
  long = L.long;
  within = λ h. within;
  listed = λ h. ap (λ (k : ℕ). take k words) (sym (eqb-true r new h)) ∙ L.front;
  enough = λ h. sym L.size ∙ eqb-true r new h;
  few = λ h _ all. eqb-false r new h (L.size ∙ all);
}

pub slots-requires : goal.slots-requires
slots-requires c = table_short _ c.requires.0

pub returns-then-new-live : goal.returns-then-new-live
returns-then-new-live c =
    let is = c.slots.ensures in
    let more = c.if-new-live.true in
    record {
      long = refl;
      within = λ e. absurd (clash e refl);
      listed = λ e. absurd (clash e refl);
      enough = λ e. absurd (clash e refl);
      few = λ e h. absurd (omega arith);
    }

pub list_unused-requires : goal.list_unused-requires
list_unused-requires c =
    let is = c.slots.ensures in
    let p = c.requires in
    let low = c.if-new-live.false in
    let room = p.3 (omega arith) in
    record { table_value = (p.0, p.1); table_in_bounds = omega arith }

pub returns : goal.returns
returns c =
    let is = c.slots.ensures in
    let low = c.if-new-live.false in
    found (omega arith) c.list_unused.ensures
