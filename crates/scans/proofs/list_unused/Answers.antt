use Prim.Native.Nat.{◌+◌, ◌≤◌, ◌<◌}
use mathlib.Core.Path.{◌≡◌, sym, ◌∙◌}
use mathlib.Core.Logic.{inl, inr}
use native.Mathlib.Omega.{arith}
use lib.ListN.{set}
use Rattle.model.specs.Table.{unused, slots, link, unused_slots}
use Rattle.reading.proofs.Passed.{table_passed, table_short}
use Rattle.scans.proofs.Lowest.{Listing, listing_none, listing_more, listing_past, listing_first, unused_marks, unused_long, unused_mark}
use Rattle.scans.proofs.list_unused.Goals as goal
use Rattle.scans.proofs.list_unused.Goals.{In-loop-x, then-link_in+else-r-want, else-link_in}

pub slots-end-requires : goal.slots-end-requires
slots-end-requires c = table_short _ c.requires.table_value.0

pub loop-x-init : goal.loop-x-init
loop-x-init c = (listing_none (unused_marks c.args.table.now) c.args.words.now, omega arith)

-- a slot that is passed: how many slots there are
inside : (c : In-loop-x) → (c.loop-x.x < slots c.args.table.now) × (slots c.args.table.now ≤ 65536)
inside c =
    let low = c.loop-x-test.true in
    let end = c.slots-end.ensures in
    (omega arith, (table_passed c.args.table.now c.requires.table_value.0).few)

pub link_in-requires : goal.link_in-requires
link_in-requires c =
    let t = inside (goal.at.link_in-requires c).In-loop-x in
    let fits = (table_passed _ c.requires.table_value.0).fits in
    omega arith

pub overflow_cast-words : goal.overflow_cast-words
overflow_cast-words c = let t = inside (goal.at.overflow_cast-words c).In-loop-x in omega arith

-- an unused slot is listed
listed : (c : In-loop-x) → link c.args.table.now 0 c.loop-x.x ≡ unused
    → Listing (unused_marks c.args.table.now) (c.loop-x.x + 1) (c.loop-x.r + 1) c.args.words.now (set c.loop-x.words c.loop-x.r c.loop-x.x)
listed c free =
    let t = inside c in
    let u = c.args.table.now in
    let long = unused_long u in
    let g = c.loop-x.invariant.0 in
    let few = g.few in
    let words = g.lists.long in
    let wanted = c.loop-x.invariant.1 in
    let held = c.requires.table_in_bounds in
    listing_more g (omega arith) ((unused_mark u c.requires.table_value.1 c.loop-x.x t.0).0 free) (omega arith)

pub loop-x-preserved : goal.loop-x-preserved
loop-x-preserved c =
    let p = (goal.at.loop-x-preserved c).In-loop-x in
    let t = inside p in
    let (g, more) = c.loop-x.invariant in
    let u = c.args.table.now in
    let long = unused_long u in
    elim c.if-link_in.branch [
      | then-link_in+else-r-want w ↦
          let wanted = w.if-r-want.false in
          rw (w.words-is, w.r-is) (listed p (sym c.link_in.ensures ∙ w.if-link_in.true), omega arith)
      | else-link_in w ↦
          let is = unused_mark u c.requires.table_value.1 c.loop-x.x t.0 in
          rw (w.words-is, w.r-is) (listing_past g (omega arith) (λ q. w.if-link_in.false (c.link_in.ensures ∙ is.1 q)), more)
    ]

pub returns-then-want-eq0 : goal.returns-then-want-eq0
unfolding unused_slots
returns-then-want-eq0 c = listing_first (listing_none (unused_marks c.args.table.now) c.args.words.now) c.args.want (omega arith) (inr (omega (arith, c.if-want-eq0.true)))

pub returns-after-loop-x : goal.returns-after-loop-x
unfolding unused_slots
returns-after-loop-x c =
    let end = c.slots-end.ensures ∙ sym (unused_long c.args.table.now) in
    let stop = c.loop-x-test.false in
    let more = c.loop-x.invariant.1 in
    listing_first c.loop-x.invariant.0 c.args.want (omega arith) (inl (omega arith))

pub returns-then-r-want : goal.returns-then-r-want
unfolding unused_slots
returns-then-r-want c =
    let p = (goal.at.returns-then-r-want c).In-loop-x in
    let full = c.if-r-want.true in
    listing_first (listed p (sym c.link_in.ensures ∙ c.if-link_in.true)) c.args.want (omega arith) (inr (omega arith))
