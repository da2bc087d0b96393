-- `walls::turns` meets its contract.
use Rattle.std.proofs.Common.{rules}
use mathlib.Core.Path.{◌≡◌, ◌∙◌, sym, ap, subst}
use mathlib.Core.Bool.{true, false}
use mathlib.Core.List.{Memᴰ as In}
use borrow.Author.Tests.{tests}
use Rattle.std.proofs.lemmas.Iterator.{cases_from_all, YieldsList-from_slice}
use Rattle.std.proofs.lemmas.Iterator.Adapters.{serves_from_places}
use Rattle.model.specs.Lists.{all_of}
use Rattle.model.specs.Wall.{turns_well}
use Rattle.model.specs.Meaning.Sets.{Marked}
use Rattle.theorems.proofs.Lists.Ones.{get_or_in}
use Rattle.walls.specs.Given.{SomeNext}
use Rattle.walls.proofs.Passing.{tested_on, listed_marked}
use Rattle.walls.proofs.turns.Goals as goal

pub all-requires-clause-callable : goal.all-requires-clause-callable
all-requires-clause-callable c =
    let a = c.args in
    let p = c.requires in
    serves_from_places (YieldsList-from_slice a.hs.now cc) (λ x q k. search rules) (λ x k low e.
    let marked : Marked p.m x.now = listed_marked p.m a.hs.now p.listed x.now (subst (λ y. In y a.hs.now) (sym e) (get_or_in a.hs.now k x.now low)) in
    let asked : SomeNext a.n a.table.now a.next.now x.now = record { m = p.m; nexts = p.nexts; dart = marked } in
    search (rules, asked))

pub returns : goal.returns
returns c m N L =
    let a = c.args in
    tested_on (turns_well a.n a.table.now m) a.hs.now (listed_marked m a.hs.now L) _ (cases_from_all _ _ _ (λ h. Marked m h → turns_well a.n a.table.now m h ≡ true) (λ h. Marked m h → turns_well a.n a.table.now m h ≡ false) c.all.ensures.ran
    (YieldsList-from_slice a.hs.now cc) (λ x q k. search (rules, tests, N)) (λ x q k. search (rules, tests, N)))
    ∙ ap (all_of (turns_well a.n a.table.now m)) L
