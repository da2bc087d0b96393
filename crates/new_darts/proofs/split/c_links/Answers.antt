-- `new_darts::split::c_links` meets its contract.
use mathlib.Core.Path.{refl, sym, ◌∙◌}
use mathlib.Core.List.{[], ◌∷◌}
use native.Mathlib.Omega.{arith}
use Rattle.model.specs.Table.{walk}
use Rattle.theorems.proofs.Layers.SplitRole.{keeps_sheet}
use Rattle.new_darts.proofs.News.{four_links_lem}
use Rattle.new_darts.proofs.SplitRoles.{link_asked, dart_asked, dart_found, links}
use Rattle.new_darts.proofs.split.c_links.Goals as goal

pub new_dart-requires : goal.new_dart-requires
unfolding walk keeps_sheet
new_dart-requires c =
    let R = c.requires.is in
    dart_asked R (1 ∷ 0 ∷ 1 ∷ []) refl c.opposite_edge.ensures _ R.low

pub link_in-requires : goal.link_in-requires
link_in-requires c = link_asked c.requires.is 2 (omega arith)

pub new_dart-requires-2 : goal.new_dart-requires-2
unfolding walk keeps_sheet
new_dart-requires-2 c =
    let R = c.requires.is in
    dart_asked R (2 ∷ []) refl c.link_in.ensures _ R.low

pub new_dart-requires-3 : goal.new_dart-requires-3
unfolding walk keeps_sheet
new_dart-requires-3 c =
    let R = c.requires.is in
    let low = R.low in
    dart_asked R [] refl refl _ (omega arith)

pub link_in-requires-2 : goal.link_in-requires-2
link_in-requires-2 c = link_asked c.requires.is 0 (omega arith)

pub new_dart-requires-4 : goal.new_dart-requires-4
unfolding walk keeps_sheet
new_dart-requires-4 c =
    let R = c.requires.is in
    dart_asked R (0 ∷ []) refl c.link_in-2.ensures _ R.low

pub returns : goal.returns
unfolding walk keeps_sheet
returns c = λ d R.
    let low = R.low in
    let dim = R.splits.dart.table.dim in
    four_links_lem _ _
    (dart_found R (1 ∷ 0 ∷ 1 ∷ []) refl c.opposite_edge.ensures _ low c.new_dart.ensures
    ∙ sym ((links R).c_0 (omega arith)))
    (dart_found R (2 ∷ []) refl c.link_in.ensures _ low c.new_dart-2.ensures ∙ sym ((links R).c_1 (omega arith)))
    (dart_found R [] refl refl _ (omega arith) c.new_dart-3.ensures ∙ sym ((links R).c_2 (omega arith)))
    (dart_found R (0 ∷ []) refl c.link_in-2.ensures _ low c.new_dart-4.ensures ∙ sym ((links R).c_3 (omega arith)))
