-- `new_darts::split::b_links` meets its contract.
use mathlib.Core.Path.{refl, sym, ◌∙◌}
use mathlib.Core.List.{[], ◌∷◌}
use native.Mathlib.Omega.{arith}
use Rattle.model.specs.Table.{walk}
use Rattle.theorems.proofs.Layers.SplitRole.{keeps_sheet}
use Rattle.new_darts.proofs.News.{four_links_lem}
use Rattle.new_darts.proofs.SplitRoles.{link_asked, dart_asked, dart_found, links, b_over}
use Rattle.new_darts.proofs.split.b_links.Goals as goal

pub new_dart-requires : goal.new_dart-requires
unfolding walk keeps_sheet
new_dart-requires c =
    let R = c.requires.is in
    let low = R.low in
    dart_asked R (1 ∷ 0 ∷ 1 ∷ []) refl c.opposite_edge.ensures _ (omega arith)

pub new_dart-requires-2 : goal.new_dart-requires-2
unfolding walk keeps_sheet
new_dart-requires-2 c =
    let R = c.requires.is in
    let low = R.low in
    dart_asked R [] refl refl _ (omega arith)

pub link_in-requires : goal.link_in-requires
link_in-requires c = link_asked c.requires.is 3 (omega arith)

pub new_dart-requires-3 : goal.new_dart-requires-3
unfolding walk keeps_sheet
new_dart-requires-3 c =
    let R = c.requires.is in
    dart_asked R (3 ∷ []) refl c.link_in.ensures _ R.low

pub returns : goal.returns
unfolding walk keeps_sheet
returns c = λ d R.
    let low = R.low in
    four_links_lem _ _
    (dart_found R (1 ∷ 0 ∷ 1 ∷ []) refl c.opposite_edge.ensures _ (omega arith) c.new_dart.ensures
    ∙ sym (links R).b_0)
    (dart_found R [] refl refl _ (omega arith) c.new_dart-2.ensures ∙ sym (links R).b_1)
    (c.b_across.ensures d R)
    (dart_found R (3 ∷ []) refl c.link_in.ensures _ low c.new_dart-3.ensures ∙ sym (b_over R))
