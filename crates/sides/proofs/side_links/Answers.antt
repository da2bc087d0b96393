-- `sides::side_links` meets its contract.
use Prim.Native.Nat.{◌≤◌}
use borrow.Author.Rules.{rules}
use Rattle.sides.proofs.SideTests.{links_zero, links_one, links_more}
use Rattle.sides.proofs.side_links.Goals as goal

pub returns-then-i-eq0 : goal.returns-then-i-eq0
returns-then-i-eq0 c = links_zero c.args.n c.args.i c.requires.0 c.if-i-eq0.true

pub returns-then-i-eq1 : goal.returns-then-i-eq1
returns-then-i-eq1 c = links_one c.args.n c.args.i c.requires.0 c.if-i-eq1.true

pub returns : goal.returns
returns c =
    let two : 2 ≤ c.args.i = search rules in
    links_more c.args.n c.args.i c.requires.0 two c.requires.1
