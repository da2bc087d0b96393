-- `new_darts::layer::q_links` meets its contract.
use mathlib.Core.Path.{◌≡◌, refl, sym, ◌∙◌}
use native.Mathlib.Omega.{arith}
use Rattle.new_darts.proofs.News.{four_links_lem}
use Rattle.new_darts.proofs.LayerRoles.{link_asked, next_asked, along, over, after, next_is, wall_asked, wall_found, links}
use Rattle.new_darts.proofs.layer.q_links.Goals as goal

pub new_dart-p-requires : goal.new_dart-p-requires
new_dart-p-requires c =
    let R = c.requires.is in
    let two = R.inserts.table.dim.0 in
    wall_asked R refl R.dart _ (omega arith)

pub bounds-sources-h : goal.bounds-sources-h
bounds-sources-h c = next_asked c.requires.is

pub new_dart-on-requires : goal.new_dart-on-requires
new_dart-on-requires c =
    let R = c.requires.is in
    let two = R.inserts.table.dim.0 in
    wall_asked R (next_is R) (after R) _ (omega arith)

pub link_in-requires : goal.link_in-requires
link_in-requires c = link_asked c.requires.is 0 (omega arith)

pub new_dart-requires : goal.new_dart-requires
new_dart-requires c =
    let R = c.requires.is in
    let two = R.inserts.table.dim.0 in
    wall_asked R c.link_in.ensures (along R 0 two) _ (omega arith)

pub new_dart-requires-then-sources-eq3 : goal.new_dart-requires-then-sources-eq3
new_dart-requires-then-sources-eq3 c =
    let R = c.requires.is in
    let three = c.if-sources-eq3.true in
    wall_asked R refl R.dart _ (omega arith)

pub link_in-requires-else-sources-eq3 : goal.link_in-requires-else-sources-eq3
link_in-requires-else-sources-eq3 c = link_asked c.requires.is 2 (omega arith)

pub new_dart-requires-else-sources-eq3 : goal.new_dart-requires-else-sources-eq3
new_dart-requires-else-sources-eq3 c =
    let R = c.requires.is in
    let dim = R.inserts.table.dim in
    let other = c.if-sources-eq3.false in
    wall_asked R c.link_in-else-sources-eq3.ensures (over R 2 (omega arith)) _ (omega arith)

pub new_dart-requires-else-sources-eq3-2 : goal.new_dart-requires-else-sources-eq3-2
new_dart-requires-else-sources-eq3-2 c =
    let R = c.requires.is in
    let two = R.inserts.table.dim.0 in
    wall_asked R refl R.dart _ (omega arith)

pub returns-then-sources-eq3 : goal.returns-then-sources-eq3
returns-then-sources-eq3 c = λ m R.
    let three = c.if-sources-eq3.true in
    four_links_lem _ _
    (wall_found R c.link_in.ensures (along R 0 (omega arith)) _ (omega arith) c.new_dart.ensures
    ∙ sym ((links R).q_0 three))
    (wall_found R refl R.dart _ (omega arith) c.new_dart-then-sources-eq3.ensures ∙ sym ((links R).q_1 three))
    (wall_found R refl R.dart _ (omega arith) c.new_dart-p.ensures ∙ sym ((links R).q_2 three))
    (wall_found R (next_is R) (after R) _ (omega arith) c.new_dart-on.ensures ∙ sym ((links R).q_3 three))

pub returns-else-sources-eq3 : goal.returns-else-sources-eq3
returns-else-sources-eq3 c = λ m R.
    let dim = R.inserts.table.dim in
    let other = c.if-sources-eq3.false in
    let flat : c.args.sources.now.n ≡ 2 = omega arith in
    four_links_lem _ _
    (wall_found R c.link_in-else-sources-eq3.ensures (over R 2 flat) _ (omega arith) c.new_dart-else-sources-eq3.ensures
    ∙ sym ((links R).plane_q_0 flat))
    (wall_found R refl R.dart _ (omega arith) c.new_dart-p.ensures ∙ sym ((links R).plane_q_1 flat))
    (wall_found R (next_is R) (after R) _ (omega arith) c.new_dart-on.ensures ∙ sym ((links R).plane_q_2 flat))
    (wall_found R refl R.dart _ (omega arith) c.new_dart-else-sources-eq3-2.ensures ∙ sym ((links R).plane_q_3 flat))
