-- `new_darts::write_new` meets its contract.
use Prim.Native.Nat.{ℕ, ◌+◌, ◌*◌, ◌-◌, ◌≤◌, ◌<◌}
use mathlib.Core.List.{List}
use native.Mathlib.Omega.{arith}
use lib.ListN.{get_or, replicate}
use Rattle.model.specs.Table.{unused}
use Rattle.drafts.specs.Passes.{Pass, FourLinks}
use Rattle.drafts.proofs.Passes.{pass_word}
use Rattle.new_darts.specs.News.{Made}
use Rattle.new_darts.specs.Sources.{DraftsTo, MetDarts}
use Rattle.new_darts.proofs.Lists.{spreads, dart_inside, new_inside, new_few, role_at, new_links_change}
use Rattle.new_darts.proofs.Passing.{draft_length, new_next, draft_new, new_met}
use Rattle.new_darts.proofs.write_new.Given.{Over}
use Rattle.new_darts.proofs.write_new.Goals as goal
use Rattle.new_darts.proofs.write_new.Goals.{After-links-links, After-write_darts-behind, After-write_slot, Start}

few : (g : Over) (s : Start g) → let a = s.args in (a.sources.now.n * a.i + a.role < a.sources.now.n * a.sources.now.size) × (a.sources.now.n * a.sources.now.size ≤ 196608)
few g s = new_few s.requires.draft.writing.makes s.requires.draft.writing.listed s.args.i s.args.role s.requires.dart s.requires.role

pub overflow_mul-x : goal.overflow_mul-x
overflow_mul-x g c = let few = few g (goal.at.overflow_mul-x g c).Start in omega arith

pub overflow_add-x : goal.overflow_add-x
overflow_add-x g c = let few = few g (goal.at.overflow_add-x g c).Start in omega arith

pub overflow_cast-x : goal.overflow_cast-x
overflow_cast-x g c = let few = few g (goal.at.overflow_cast-x g c).Start in omega arith

pub offset_bounds-sources-sources : goal.offset_bounds-sources-sources
offset_bounds-sources-sources g c = let few = few g (goal.at.offset_bounds-sources-sources g c).Start in omega arith

pub bounds-sources-sources : goal.bounds-sources-sources
bounds-sources-sources g c =
    let few = few g (goal.at.bounds-sources-sources g c).Start in
    let room = c.requires.draft.writing.listed.room in
    omega arith

pub overflow_cast-x-2 : goal.overflow_cast-x-2
overflow_cast-x-2 g c =
    let W = c.requires.draft.writing in
    let inside = new_inside W.makes W.listed (c.args.sources.now.n * c.args.i + c.args.role) (few g (goal.at.overflow_cast-x-2 g c).Start).0 in
    let few = (spreads W.makes W.listed).table.few in
    omega arith

pub write_darts-behind-requires : goal.write_darts-behind-requires
write_darts-behind-requires g c =
    let to = c.requires in
    record { made = _; nexts = _; j = _; q = _; draft = to.draft; next = new_next to.draft (few g (goal.at.write_darts-behind-requires g c).Start).0 }

-- the darts before the new one are met
met : (g : Over) (c : After-write_darts-behind g) →
    let a = c.args in
    let q = a.sources.now.n * a.i + a.role in
    (M : Made) (j : List ℕ)
    → DraftsTo a.sources.now g.O.Operation.insert M a.sources.now.nexts.now j a.p q a.w
    a.journal.now
    → MetDarts a.sources.now g.O.Operation.insert M a.sources.now.nexts.now j a.p q a.w
    (get_or a.sources.now.fresh.now q 0) c.write_darts-behind.result c.write_darts-behind.new.journal
met g c M j D = c.write_darts-behind.ensures _ _ _ _ D (new_next D (few g (goal.at.After-write_darts-behind g c).Start).0)

pub overflow_sub-at : goal.overflow_sub-at
overflow_sub-at g c = let on = (met g (goal.at.overflow_sub-at g c).After-write_darts-behind c.requires.made c.requires.j c.requires.draft).on in omega arith

pub overflow_add-at : goal.overflow_add-at
overflow_add-at g c =
    let D = (met g (goal.at.overflow_add-at g c).After-write_darts-behind c.requires.made c.requires.j c.requires.draft).draft in
    let word = pass_word D.pass D.inside in
    let long = draft_length D in
    let few = D.writing.rule.few in
    omega arith

pub bounds-sources-i : goal.bounds-sources-i
bounds-sources-i g c =
    let long = c.requires.draft.writing.listed.long in
    let low = c.requires.dart in
    omega arith

pub overflow_cast-g-2 : goal.overflow_cast-g-2
overflow_cast-g-2 g c =
    let W = c.requires.draft.writing in
    let inside = dart_inside W.makes W.listed c.args.i c.requires.dart in
    let few = (spreads W.makes W.listed).table.few in
    omega arith

pub links-links-requires : goal.links-links-requires
links-links-requires g c =
    record { made = _; is = role_at c.requires.draft.writing.makes c.requires.draft.writing.listed c.args.i c.args.role c.requires.dart c.requires.role }

-- the links of the new dart, in any pass that comes to it
four : (g : Over) (c : After-links-links g) →
    let a = c.args in
    let q = a.sources.now.n * a.i + a.role in
    (M : Made) (j : List ℕ)
    → DraftsTo a.sources.now g.O.Operation.insert M a.sources.now.nexts.now j a.p q a.w
    a.journal.now
    → FourLinks a.sources.now.table.now M.table (get_or a.sources.now.fresh.now q 0) (replicate 4 unused) c.links-links.result
four g c M j D =
    let W = D.writing in
    new_links_change W.makes W.listed c.args.i c.args.role c.requires.dart c.requires.role _
    (c.links-links.ensures M (role_at W.makes W.listed c.args.i c.args.role c.requires.dart c.requires.role))

pub write_slot-requires : goal.write_slot-requires
write_slot-requires g c =
    let N = met g (goal.at.write_slot-requires g c).After-write_darts-behind c.requires.made c.requires.j c.requires.draft in
    record {
      t = _;
      u = _;
      j = _;
      pass = draft_new N.draft (few g (goal.at.write_slot-requires g c).Start).0 N.next;
      four = four g (goal.at.write_slot-requires g c).After-links-links c.requires.made c.requires.j c.requires.draft;
    }

-- the new dart is met
wrote : (g : Over) (c : After-write_slot g) →
    let a = c.args in
    let q = a.sources.now.n * a.i + a.role in
    (M : Made) (j : List ℕ)
    → DraftsTo a.sources.now g.O.Operation.insert M a.sources.now.nexts.now j a.p q a.w
    a.journal.now
    → Pass a.sources.now.table.now M.table j (get_or a.sources.now.fresh.now q 0 + 1)
    (a.w + 3 * (c.write_darts-behind.result - a.p) + 12) c.write_slot.new.journal
wrote g c M j D =
    let N = met g (goal.at.After-write_slot g c).After-write_darts-behind M j D in
    c.write_slot.ensures _ _ _ (draft_new N.draft (few g (goal.at.After-write_slot g c).Start).0 N.next) (four g (goal.at.After-write_slot g c).After-links-links M j D)

pub returns : goal.returns
returns g c = λ M j D.
    let N = met g (goal.at.returns g c).After-write_darts-behind M j D in
    new_met N.draft (few g (goal.at.returns g c).Start).0 N.next _ _ N.on _ _ (wrote g (goal.at.returns g c).After-write_slot M j D) (omega arith)
