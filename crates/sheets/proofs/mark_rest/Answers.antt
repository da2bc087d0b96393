use Prim.Native.Nat.{ℕ, ◌+◌, ◌<◌}
use mathlib.Core.Path.{◌≡◌, ◌∙◌}
use mathlib.Core.Logic.{⊎_elim}
use mathlib.Core.Bool.{true}
use native.Mathlib.Omega.{arith}
use lib.ListN.{length, get_or}
use Rattle.model.specs.Table.{slots, link, live}
use Rattle.model.specs.Cell.{cell_size}
use Rattle.theorems.proofs.Maps.Tables.{live_below, rule_at}
use Rattle.cells.proofs.Listing.{link_there}
use Rattle.sheets.specs.Spread.{Other}
use Rattle.sheets.proofs.Marks.{later, later_length, later_at, marked_on, rest_new, rest_old}
use Rattle.sheets.proofs.mark_rest.Goals as goal
use Rattle.sheets.proofs.mark_rest.Goals.{In-loop-x}

-- the dart listed
abbrev at : In-loop-x → ℕ
at c = c.args.from + c.loop-x.x-index

abbrev dart : In-loop-x → ℕ
dart c = get_or c.args.cell.now (at c) 0

low : (c : In-loop-x) → at c < length c.args.cell.now
low c =
    let long = later_length c.args.cell.now c.args.from in
    let inside = c.loop-x-test.true in
    omega arith

-- it is the loop's
is_dart : (c : In-loop-x) → get_or (later c.args.cell.now c.args.from) c.loop-x.x-index 0 ≡ dart c
is_dart c = later_at c.args.cell.now c.args.from c.loop-x.x-index (low c)

place_low : (c : In-loop-x) → at c < cell_size c.args.n
place_low c =
    let long = c.requires.0.long in
    let inside = low c in
    omega arith

-- it is live, and so is the dart that link n leads to: they have marks
lives : (c : In-loop-x) → live c.args.table.now (dart c) ≡ true
lives c = c.requires.0.lives _ (place_low c)

all_marks : (c : In-loop-x) → length c.loop-x.marks ≡ slots c.args.table.now
all_marks c = c.loop-x.invariant.1.long ∙ c.requires.1

inside : (c : In-loop-x) → dart c < length c.loop-x.marks
inside c = let low = live_below c.requires.0.table _ (lives c) in let all = all_marks c in omega arith

led_inside : (c : In-loop-x) →
    let a = c.args in
    link a.table.now a.n (dart c) < length c.loop-x.marks
led_inside c =
    let T = c.requires.0.table in
    let low = live_below T _ ((rule_at T _ (lives c)).goes c.args.n (omega arith)) in
    let all = all_marks c in
    omega arith

pub mark_other-requires : goal.mark_other-requires
mark_other-requires c =
    let i = (goal.at.mark_other-requires c).In-loop-x in
    rw (is_dart i) (link_there c.requires.0 c.args.n _ (omega arith) (place_low i), inside i, led_inside i)

pub loop-x-preserved : goal.loop-x-preserved
loop-x-preserved c =
    let i = (goal.at.loop-x-preserved c).In-loop-x in
    let R = c.loop-x.invariant.1 in
    let next : c.args.from + (c.loop-x.x-index + 1) ≡ at i + 1 = omega arith in
    let other : Other c.args.n c.args.table.now c.loop-x.marks (dart i) c.mark_other.new.marks
    = rw (is_dart i) at c.mark_other.ensures in
    let below = low i in (
      omega arith,
      rw next (⊎_elim (λ (one, e). rw e (rest_old R one))
          (λ (new, to). rest_new R new (marked_on c.loop-x.marks (dart i) _ (inside i) (led_inside i) new _ to))
          other),
    )

pub returns : goal.returns
returns c =
    let long = later_length c.args.cell.now c.args.from in
    let end : c.args.from + c.loop-x.x-index ≡ length c.args.cell.now = omega arith in
    rw end at c.loop-x.invariant.1
