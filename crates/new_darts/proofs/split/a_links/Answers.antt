-- `new_darts::split::a_links` meets its contract.
use Prim.Native.Nat.{◌≤◌}
use mathlib.Core.Path.{refl, sym, ◌∙◌}
use mathlib.Core.List.{[], ◌∷◌}
use native.Mathlib.Omega.{arith}
use Rattle.model.specs.Table.{walk}
use Rattle.theorems.proofs.Layers.SplitRole.{keeps_sheet}
use Rattle.new_darts.proofs.News.{four_links_lem}
use Rattle.new_darts.proofs.SplitRoles.{link_asked, dart_asked, dart_found, links, a_over}
use Rattle.new_darts.proofs.split.a_links.Goals as goal
use Rattle.new_darts.proofs.split.a_links.Goals.{Start}

-- g has a(g) and b(g)
two : (s : Start) → 2 ≤ s.args.sources.now.n
two s = s.requires.is.splits.dart.table.dim.0

pub new_dart-requires : goal.new_dart-requires
unfolding walk keeps_sheet
new_dart-requires c =
    let two = two (goal.at.new_dart-requires c).Start in
    dart_asked c.requires.is [] refl refl _ (omega arith)

pub link_in-requires : goal.link_in-requires
link_in-requires c = link_asked c.requires.is 2 (omega arith)

pub new_dart-requires-2 : goal.new_dart-requires-2
unfolding walk keeps_sheet
new_dart-requires-2 c = let R = c.requires.is in dart_asked R (2 ∷ []) refl c.link_in.ensures _ R.low

pub link_in-requires-2 : goal.link_in-requires-2
link_in-requires-2 c = link_asked c.requires.is 3 (omega arith)

pub new_dart-requires-3 : goal.new_dart-requires-3
unfolding walk keeps_sheet
new_dart-requires-3 c =
    let R = c.requires.is in
    dart_asked R (3 ∷ []) refl c.link_in-2.ensures _ R.low

pub returns : goal.returns
unfolding walk keeps_sheet
returns c = λ d R.
    let two = two (goal.at.returns c).Start in
    four_links_lem _ _ (sym (links R).a_0)
    (dart_found R [] refl refl _ (omega arith) c.new_dart.ensures ∙ sym (links R).a_1)
    (dart_found R (2 ∷ []) refl c.link_in.ensures _ R.low c.new_dart-2.ensures ∙ sym (links R).a_2)
    (dart_found R (3 ∷ []) refl c.link_in-2.ensures _ R.low c.new_dart-3.ensures ∙ sym (a_over R))
