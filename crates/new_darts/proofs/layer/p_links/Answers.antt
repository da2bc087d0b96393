-- `new_darts::layer::p_links` meets its contract.
use Prim.Native.Nat.{◌≤◌}
use mathlib.Core.Path.{◌≡◌, refl, sym, ◌∙◌}
use native.Mathlib.Omega.{arith}
use Rattle.new_darts.proofs.News.{four_links_lem}
use Rattle.new_darts.proofs.LayerRoles.{link_asked, along, wall_asked, wall_found, links, p_back}
use Rattle.new_darts.proofs.layer.p_links.Goals as goal
use Rattle.new_darts.proofs.layer.p_links.Goals.{Start}

two : (s : Start) → 2 ≤ s.args.sources.now.n
two s = s.requires.is.inserts.table.dim.0

pub link_in-requires : goal.link_in-requires
link_in-requires c = link_asked c.requires.is 0 (omega arith)

pub new_dart-along-requires : goal.new_dart-along-requires
new_dart-along-requires c =
    let two = two (goal.at.new_dart-along-requires c).Start in
    wall_asked c.requires.is c.link_in.ensures (along c.requires.is 0 two) _ (omega arith)

pub new_dart-q-requires : goal.new_dart-q-requires
new_dart-q-requires c =
    let two = two (goal.at.new_dart-q-requires c).Start in
    wall_asked c.requires.is refl c.requires.is.dart _ (omega arith)

pub link_in-requires-then-sources-eq3 : goal.link_in-requires-then-sources-eq3
link_in-requires-then-sources-eq3 c = link_asked c.requires.is 1 (omega arith)

pub new_dart-requires : goal.new_dart-requires
new_dart-requires c =
    let three = c.if-sources-eq3.true in
    wall_asked c.requires.is c.link_in-then-sources-eq3.ensures (along c.requires.is 1 (omega arith)) _ (omega arith)

pub returns-then-sources-eq3 : goal.returns-then-sources-eq3
returns-then-sources-eq3 c = λ m R.
    let three = c.if-sources-eq3.true in
    let two = R.inserts.table.dim.0 in
    four_links_lem _ _
    (wall_found R c.link_in.ensures (along R 0 two) _ (omega arith) c.new_dart-along.ensures ∙ sym (links R).p_0)
    (wall_found R c.link_in-then-sources-eq3.ensures (along R 1 (omega arith)) _ (omega arith) c.new_dart.ensures ∙ sym ((links R).p_1 three))
    (wall_found R refl R.dart _ (omega arith) c.new_dart-q.ensures ∙ sym ((links R).p_2 three))
    (p_back R 3 three)

pub new_dart-requires-else-sources-eq3 : goal.new_dart-requires-else-sources-eq3
new_dart-requires-else-sources-eq3 c =
    let two = two (goal.at.new_dart-requires-else-sources-eq3 c).Start in
    wall_asked c.requires.is refl c.requires.is.dart _ (omega arith)

pub returns-else-sources-eq3 : goal.returns-else-sources-eq3
returns-else-sources-eq3 c = λ m R.
    let dim = R.inserts.table.dim in
    let other = c.if-sources-eq3.false in
    let flat : c.args.sources.now.n ≡ 2 = omega arith in
    four_links_lem _ _
    (wall_found R c.link_in.ensures (along R 0 dim.0) _ (omega arith) c.new_dart-along.ensures ∙ sym (links R).p_0)
    (wall_found R refl R.dart _ (omega arith) c.new_dart-q.ensures ∙ sym ((links R).plane_p_1 flat))
    (p_back R 2 flat)
    (wall_found R refl R.dart _ (omega arith) c.new_dart-else-sources-eq3.ensures ∙ sym ((links R).plane_p_3 flat))
