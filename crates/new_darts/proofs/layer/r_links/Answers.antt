-- `new_darts::layer::r_links` meets its contract.
use mathlib.Core.Path.{refl, sym, ◌∙◌}
use native.Mathlib.Omega.{arith}
use Rattle.new_darts.proofs.News.{four_links_lem}
use Rattle.new_darts.proofs.LayerRoles.{link_asked, next_asked, along, over, after, next_is, wall_asked, wall_found, links}
use Rattle.new_darts.proofs.layer.r_links.Goals as goal

pub link_in-requires : goal.link_in-requires
link_in-requires c = link_asked c.requires.is 3 (omega arith)

pub new_dart-requires : goal.new_dart-requires
new_dart-requires c =
    let R = c.requires.is in
    let low = R.low in
    let dim = R.inserts.table.dim in
    wall_asked R c.link_in.ensures (over R 3 (omega arith)) _ low

pub new_dart-requires-2 : goal.new_dart-requires-2
new_dart-requires-2 c =
    let R = c.requires.is in
    let low = R.low in
    wall_asked R refl R.dart _ (omega arith)

pub link_in-requires-2 : goal.link_in-requires-2
link_in-requires-2 c = link_asked c.requires.is 1 (omega arith)

pub new_dart-requires-3 : goal.new_dart-requires-3
new_dart-requires-3 c =
    let R = c.requires.is in
    let low = R.low in
    wall_asked R c.link_in-2.ensures (along R 1 low) _ low

pub bounds-sources-h : goal.bounds-sources-h
bounds-sources-h c = next_asked c.requires.is

pub new_dart-requires-4 : goal.new_dart-requires-4
new_dart-requires-4 c =
    let R = c.requires.is in
    let low = R.low in
    wall_asked R (next_is R) (after R) _ low

pub returns : goal.returns
returns c = λ m R.
    let low = R.low in
    let dim = R.inserts.table.dim in
    four_links_lem _ _
    (wall_found R c.link_in.ensures (over R 3 (omega arith)) _ low c.new_dart.ensures
    ∙ sym ((links R).r_0 (omega arith)))
    (wall_found R refl R.dart _ (omega arith) c.new_dart-2.ensures ∙ sym ((links R).r_1 (omega arith)))
    (wall_found R c.link_in-2.ensures (along R 1 low) _ low c.new_dart-3.ensures ∙ sym ((links R).r_2 (omega arith)))
    (wall_found R (next_is R) (after R) _ low c.new_dart-4.ensures ∙ sym ((links R).r_3 (omega arith)))
