use Prim.Native.Nat.{ℕ, ◌*◌, ◌≤◌, ◌<◌}
use mathlib.Core.Path.{refl}
use mathlib.Core.List.{List}
use native.Mathlib.Omega.{arith}
use lib.ListN.{get_or}
use Rattle.drafts.specs.Passes.{OneLink}
use Rattle.drafts.proofs.Passes.{pass_word, pass_length}
use Rattle.new_darts.specs.News.{Made}
use Rattle.new_darts.specs.Sources.{DraftsTo}
use Rattle.new_darts.proofs.News.{new_asked, new_found}
use Rattle.new_darts.proofs.Lists.{spreads, dart_in, dart_inside, news, dart_link}
use Rattle.new_darts.proofs.Passing.{draft_dart, draft_dart_more, darts_met, darts_all}
use Rattle.new_darts.proofs.write_darts.Given.{Over}
use Rattle.new_darts.proofs.write_darts.Goals as goal
use Rattle.new_darts.proofs.write_darts.Goals.{After-new_dart, At-loop-k, Else-g-x}

draft : (g : Over) (l : At-loop-k g) →
    let a = l.args in
    DraftsTo a.sources.now g.O.Operation.insert l.requires.made l.requires.nexts
    l.requires.j l.loop-k.k l.requires.q l.loop-k.v l.loop-k.journal
draft g l = let to = l.requires in l.loop-k.invariant.2 to.nexts to.made to.q to.j to.draft to.next

pub loop-k-init : goal.loop-k-init
loop-k-init g c = (omega arith, omega arith, λ nexts M q j D next. D)

pub bounds-sources-k : goal.bounds-sources-k
bounds-sources-k g c =
    let long = (draft g (goal.at.bounds-sources-k g c).At-loop-k).writing.listed.long in
    omega arith

pub overflow_cast-g-in-loop-k : goal.overflow_cast-g-in-loop-k
overflow_cast-g-in-loop-k g c =
    let W = (draft g (goal.at.overflow_cast-g-in-loop-k g c).At-loop-k).writing in
    let inside = dart_inside W.makes W.listed c.loop-k.k c.loop-k-test.true in
    let few = (spreads W.makes W.listed).table.few in
    omega arith

pub returns-then-g-x : goal.returns-then-g-x
returns-then-g-x g c = λ nexts M q j D next.
    let taken = c.if-g-x.true in
    darts_met (c.loop-k.invariant.2 nexts M q j D next) _ _ _ c.loop-k.invariant.0 c.loop-k.invariant.1 (λ _. taken)

pub link_in-requires : goal.link_in-requires
link_in-requires g c =
    let W = (draft g (goal.at.link_in-requires g c).At-loop-k).writing in
    let S = spreads W.makes W.listed in
    let inside = dart_inside W.makes W.listed c.loop-k.k c.loop-k-test.true in
    let whole = S.table.whole in
    let index = S.index in
    let is = c.changed_link-i.ensures in
    omega arith

pub new_dart-requires : goal.new_dart-requires
new_dart-requires g c =
    let W = (draft g (goal.at.new_dart-requires g c).At-loop-k).writing in
    let dim = (spreads W.makes W.listed).table.dim in
    let low = c.loop-k-test.true in
    new_asked (news W.makes W.listed) (dart_in W.makes W.listed c.loop-k.k low) dim.1
    (dart_inside W.makes W.listed c.loop-k.k low) _ (omega arith)

-- the change of the k-th dart, in any pass that comes to it
one : (g : Over) (c : After-new_dart g) →
    let a = c.args in
    (nexts : List ℕ) (M : Made) (q : ℕ) (j : List ℕ)
    → DraftsTo a.sources.now g.O.Operation.insert M nexts j c.loop-k.k q
    c.loop-k.v c.loop-k.journal
    → OneLink a.sources.now.table.now M.table (get_or a.sources.now.darts.now c.loop-k.k 0) c.changed_link-i.result
    c.link_in.result c.new_dart.result
one g c nexts M q j D =
    let W = D.writing in
    let two = (spreads W.makes W.listed).table.dim.0 in
    let low = c.loop-k-test.true in
    dart_link W.makes W.listed c.loop-k.k low c.changed_link-i.ensures c.link_in.ensures
    (new_found (news W.makes W.listed) (dart_in W.makes W.listed c.loop-k.k low) _ (omega arith) c.new_dart.ensures refl)

-- which comes to no new dart before
before : (g : Over) (e : Else-g-x g) →
    let a = e.args in
    (q : ℕ) → ((k : ℕ) → q ≤ k → k < a.sources.now.n * a.sources.now.size → a.x ≤ get_or a.sources.now.fresh.now k 0)
    → (k : ℕ) → q ≤ k → k < a.sources.now.n * a.sources.now.size → get_or a.sources.now.darts.now e.loop-k.k 0 ≤ get_or a.sources.now.fresh.now k 0
before g e q next k on few = let below = e.if-g-x.false in let least = next k on few in omega arith

pub write_link-requires : goal.write_link-requires
write_link-requires g c =
    let to = c.requires in
    let D = draft g (goal.at.write_link-requires g c).At-loop-k in
    record {
      t = _;
      u = _;
      j = _;
      pass = draft_dart D c.loop-k-test.true (before g (goal.at.write_link-requires g c).Else-g-x to.q to.next);
      one = one g c to.nexts to.made to.q to.j D;
    }

pub overflow_add-v : goal.overflow_add-v
overflow_add-v g c =
    let to = c.requires in
    let D = draft g (goal.at.overflow_add-v g c).At-loop-k in
    let W = D.writing in
    let inside = dart_inside W.makes W.listed c.loop-k.k c.loop-k-test.true in
    let P = c.write_link.ensures _ _ _ (draft_dart D c.loop-k-test.true (before g (goal.at.overflow_add-v g c).Else-g-x to.q to.next))
    (one g (goal.at.overflow_add-v g c).After-new_dart to.nexts to.made to.q to.j D) in
    let word = pass_word P (omega arith) in
    let long = pass_length P (omega arith) in
    let few = D.writing.rule.few in
    omega arith

pub loop-k-preserved : goal.loop-k-preserved
loop-k-preserved g c =
    let on = c.loop-k.invariant.0 in
    let word = c.loop-k.invariant.1 in (
      omega arith,
      omega arith,
      λ nexts M q j D₀ next.
          let D = c.loop-k.invariant.2 nexts M q j D₀ next in
          draft_dart_more D c.loop-k-test.true (before g (goal.at.loop-k-preserved g c).Else-g-x q next) _ _
          (c.write_link.ensures _ _ _ (draft_dart D c.loop-k-test.true (before g (goal.at.loop-k-preserved g c).Else-g-x q next)) (one g (goal.at.loop-k-preserved g c).After-new_dart nexts M q j D)),
    )

pub returns : goal.returns
returns g c = λ nexts M q j D next.
    darts_all (c.loop-k.invariant.2 nexts M q j D next) _ _ _ c.loop-k.invariant.0 c.loop-k.invariant.1 c.loop-k-test.false
