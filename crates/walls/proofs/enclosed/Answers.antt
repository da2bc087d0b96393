-- `walls::enclosed` meets its contract.
use Rattle.std.proofs.Common.{rules}
use mathlib.Core.Path.{◌≡◌, ◌∙◌, sym, ap, subst}
use mathlib.Core.List.{Memᴰ as In}
use Rattle.model.specs.Meaning.Sets.{Marked}
use Rattle.theorems.proofs.Lists.Ones.{get_or_in}
use mathlib.Core.Bool.{true, false}
use native.Mathlib.Omega.{arith}
use borrow.Author.Tests.{tests}
use Rattle.std.proofs.lemmas.Iterator.{cases_from_all, YieldsList-from_slice}
use Rattle.std.proofs.lemmas.Iterator.Adapters.{serves_from_places}
use lib.ListN.{length}
use Prim.Native.Nat.{◌<◌}
use Rattle.model.specs.Lists.{ones, all_of}
use Rattle.model.specs.Wall.{closed_at}
use Rattle.walls.proofs.Drawings.{enclosed_none, enclosed_some}
use Rattle.walls.proofs.Passing.{tested, listed_marked}
use Rattle.walls.proofs.enclosed.Goals as goal

pub returns-then-is_empty : goal.returns-then-is_empty
returns-then-is_empty c =
    let empty : length c.args.hs.now ≡ 0 = search (rules, tests, c.is_empty.ensures, c.if-is_empty.true) in
    sym (enclosed_none c.args.n c.args.table.now c.args.marks.now (sym (ap length c.requires.1) ∙ empty))

pub all-requires-clause-callable : goal.all-requires-clause-callable
all-requires-clause-callable c =
    let a = c.args in
    serves_from_places (YieldsList-from_slice a.hs.now cc) (λ x q k. search rules) (λ x k low e.
    let marked : Marked a.marks.now x.now = listed_marked a.marks.now a.hs.now c.requires.1 x.now (subst (λ y. In y a.hs.now) (sym e) (get_or_in a.hs.now k x.now low)) in
    search (rules, marked, c.requires.0))

pub returns : goal.returns
returns c =
    let a = c.args in
    let a_list = c.requires.1 in
    let long = ap length a_list in
    let some : 0 < length (ones a.marks.now) = grind (arith, tests, a_list, long, c.if-is_empty.ensures) in
    tested (closed_at a.n a.table.now a.marks.now) a.hs.now _ (cases_from_all _ _ _ (λ h. closed_at a.n a.table.now a.marks.now h ≡ true) (λ h. closed_at a.n a.table.now a.marks.now h ≡ false) c.all.ensures.ran
    (YieldsList-from_slice a.hs.now cc) (λ x q k. search (rules, tests)) (λ x q k. search (rules, tests)))
    ∙ ap (all_of (closed_at a.n a.table.now a.marks.now)) a_list ∙ sym (enclosed_some a.n a.table.now a.marks.now some)
