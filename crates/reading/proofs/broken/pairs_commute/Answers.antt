use Prim.Native.Nat.{suc}
use mathlib.Core.Path.{sym, ◌∙◌}
use native.Mathlib.Omega.{arith}
use borrow.Author.Count.{below_more}
use Rattle.model.specs.Lists.{all_below}
use Rattle.model.specs.Map.{crossed}
use Rattle.theorems.proofs.Lists.Scan.{test, clash, below_at, below_of}
use Rattle.theorems.proofs.Maps.Rules.{crossed_near}
use Rattle.theorems.proofs.Calls.Pass.{dim_pass}
use Rattle.reading.proofs.broken.pairs_commute.Goals as goal

pub loop-j-init : goal.loop-j-init
loop-j-init c =
    let a = c.args in
    λ k l. crossed_near a.n a.table.now a.d a.i k l

pub crossed-requires : goal.crossed-requires
crossed-requires c =
    let dim = dim_pass _ c.requires.0 in
    (omega arith, omega arith)

pub returns-then-not-crossed : goal.returns-then-not-crossed
returns-then-not-crossed c =
    let a = c.args in
    let fails = sym c.crossed.ensures ∙ c.if-not-crossed.true in
    sym (test (all_below (suc a.n) (crossed a.table.now a.d a.i))
    (λ e. absurd (clash (below_at _ _ e c.loop-j.j (omega arith)) fails)) (λ e. e))

pub loop-j-preserved : goal.loop-j-preserved
loop-j-preserved c =
    let commutes = sym c.crossed.ensures ∙ c.if-not-crossed.false in
    below_more _ _ c.loop-j.invariant commutes

pub returns : goal.returns
returns c =
    let a = c.args in
    sym (below_of (crossed a.table.now a.d a.i) (suc a.n) (λ k h. c.loop-j.invariant k (omega arith)))
