use Prim.Native.Nat.{ℕ, ◌+◌, ◌*◌, ◌-◌, ◌≤◌}
use mathlib.Core.Path.{◌≡◌, ap}
use native.Mathlib.Omega.{arith}
use Rattle.model.specs.Journal.{cursor}
use Rattle.theorems.proofs.Lists.Scan.{if_lt}
use Rattle.drafts.proofs.Passes.{pass_word}
use Rattle.new_darts.specs.News.{Made}
use Rattle.new_darts.specs.Sources.{Drafts, DraftsTo, MetDarts, MetNew}
use Rattle.new_darts.proofs.Lists.{spreads, dart_inside, new_next_dart}
use Rattle.new_darts.proofs.Passing.{draft_none, draft_length, draft_same, draft_all}
use Rattle.new_darts.proofs.write.Given.{Over}
use Rattle.new_darts.proofs.write.Goals as goal
use Rattle.new_darts.proofs.write.Goals.{After-loop-i, After-write_darts, After-write_new-behind, At-loop-role}

draft : (g : Over) (l : At-loop-role g) →
    let a = l.args in
    DraftsTo a.sources.now g.O.Operation.insert l.requires.made a.sources.now.nexts.now a.journal.now
    l.loop-role.p (a.sources.now.n * l.loop-i.i + l.loop-role.role) l.loop-role.w l.loop-role.journal
draft g l = let some = l.requires in l.loop-role.invariant some.made some.is

pub bounds-journal-0 : goal.bounds-journal-0
bounds-journal-0 g c = let long = c.requires.is.rule.long in omega arith

pub loop-i-init : goal.loop-i-init
unfolding cursor
loop-i-init g c = λ M W. draft_same (draft_none W) _ (omega arith)

pub loop-role-init : goal.loop-role-init
loop-role-init g c = λ M W. draft_same (c.loop-i.invariant M W) _ (omega arith)

pub write_new-behind-requires : goal.write_new-behind-requires
write_new-behind-requires g c =
    record { made = _; j = _; draft = draft g (goal.at.write_new-behind-requires g c).At-loop-role; dart = c.loop-i-test.true; role = c.loop-role-test.true }

met : (g : Over) (c : After-write_new-behind g) →
    let a = c.args in
    (M : Made) → Drafts a.sources.now g.O.Operation.insert M a.journal.now
    → MetNew a.sources.now g.O.Operation.insert M a.journal.now c.loop-role.p
    (a.sources.now.n * c.loop-i.i + c.loop-role.role) c.loop-role.w c.write_new-behind.result c.write_new-behind.new.journal
met g c M W = c.write_new-behind.ensures M _ (c.loop-role.invariant M W)

-- the words are few
few : (g : Over) (c : After-write_new-behind g) →
    (c.loop-role.p ≤ c.write_new-behind.result) × (c.loop-role.w + (3 * (c.write_new-behind.result - c.loop-role.p) + 12) ≤ 1048576)
few g c =
    let N = met g c c.requires.made c.requires.is in
    let D = N.draft in
    let word = pass_word D.pass D.inside in
    let long = draft_length D in
    let few = D.writing.rule.few in
    (N.on, omega arith)

pub overflow_sub-w : goal.overflow_sub-w
overflow_sub-w g c = let few = few g (goal.at.overflow_sub-w g c).After-write_new-behind in omega arith

pub overflow_mul-w : goal.overflow_mul-w
overflow_mul-w g c = let few = few g (goal.at.overflow_mul-w g c).After-write_new-behind in omega arith

pub overflow_add-w-in-loop-role : goal.overflow_add-w-in-loop-role
overflow_add-w-in-loop-role g c = let few = few g (goal.at.overflow_add-w-in-loop-role g c).After-write_new-behind in omega arith

pub overflow_add-w-in-loop-role-2 : goal.overflow_add-w-in-loop-role-2
overflow_add-w-in-loop-role-2 g c = let few = few g (goal.at.overflow_add-w-in-loop-role-2 g c).After-write_new-behind in omega arith

pub loop-role-preserved : goal.loop-role-preserved
loop-role-preserved g c = λ M W. draft_same (met g (goal.at.loop-role-preserved g c).After-write_new-behind M W).draft _ (omega arith)

pub loop-i-preserved : goal.loop-i-preserved
loop-i-preserved g c = λ M W.
    draft_same (c.loop-role.invariant M W) _ (new_next_dart W.makes W.listed c.loop-i.i c.loop-role.role (omega arith))

-- all new darts are behind the pass
all : (g : Over) (c : After-loop-i g) →
    let a = c.args in
    a.sources.now.n * a.sources.now.size ≤ a.sources.now.n * c.loop-i.i
all g c =
    let a = c.args in
    let left = c.loop-i-test.false in
    let is : c.loop-i.i ≡ a.sources.now.size = omega arith in
    let same = ap (λ (k : ℕ). a.sources.now.n * k) is in
    omega arith

pub write_darts-requires : goal.write_darts-requires
write_darts-requires g c =
    let all = all g (goal.at.write_darts-requires g c).After-loop-i in
    record { made = _; nexts = _; j = _; q = _; draft = c.loop-i.invariant _ c.requires.is; next = λ k on few. absurd (omega arith) }

-- and so are the old ones
done : (g : Over) (c : After-write_darts g) →
    let a = c.args in
    (M : Made) → Drafts a.sources.now g.O.Operation.insert M a.journal.now
    → MetDarts a.sources.now g.O.Operation.insert M a.sources.now.nexts.now a.journal.now c.loop-i.p
    (a.sources.now.n * c.loop-i.i) c.loop-i.w 4294967295 c.write_darts.result c.write_darts.new.journal
done g c M W =
    let all = all g (goal.at.After-write_darts g c).After-loop-i in
    c.write_darts.ensures _ _ _ _ (c.loop-i.invariant M W) (λ k on few. absurd (omega arith))

pub returns : goal.returns
returns g c = λ M W.
    let a = c.args in
    let N = done g (goal.at.returns g c).After-write_darts M W in
    let most = (spreads W.makes W.listed).table.few in
    draft_all N.draft
    (if_lt c.write_darts.result a.sources.now.size
    (λ low. let next = N.next low in let inside = dart_inside W.makes W.listed _ low in absurd (omega arith)) (λ h. h)) (all g (goal.at.returns g c).After-loop-i)
