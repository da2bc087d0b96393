use Prim.Native.Nat.{◌<◌}
use lib.ListN.{length}
use native.Mathlib.Omega.{arith}
use Rattle.scans.proofs.Lowest.{listing_none, listing_more, listing_past, listing_over, listing_all}
use Rattle.scans.proofs.list_ones.Goals as goal
use Rattle.scans.proofs.list_ones.Goals.{then-marks-x-eq1, else-marks-x-eq1, After-skip_clear-x}

pub loop-x-init : goal.loop-x-init
loop-x-init c =
    let s = c.args in
    let S = c.skip_blocks-x.ensures in
    (listing_over (listing_none s.marks.now s.words.now) S, S.within)

-- a word is left for x
room : (c : After-skip_clear-x) → c.loop-x.r < length c.loop-x.words
room c =
    let G = c.loop-x.invariant.0 in
    let few = G.few in
    let long = G.lists.long in
    let low = c.loop-x-test.true in
    omega arith

pub loop-x-preserved : goal.loop-x-preserved
loop-x-preserved c =
    let G = c.loop-x.invariant.0 in
    let low = c.loop-x-test.true in
    let S = c.skip_clear-x.ensures in
    elim c.if-marks-x-eq1.branch [
      | then-marks-x-eq1 w ↦ rw (w.words-is, w.r-is) (listing_over (listing_more G low w.if-marks-x-eq1.true (room c)) S, S.within)
      | else-marks-x-eq1 w ↦ rw (w.words-is, w.r-is) (listing_over (listing_past G low w.if-marks-x-eq1.false) S, S.within)
    ]

pub returns : goal.returns
returns c = listing_all c.loop-x.invariant.0 c.loop-x-test.false
