-- `new_darts::split::b_across` meets its contract.
use mathlib.Core.Path.{refl, sym, ◌∙◌}
use mathlib.Core.List.{[], ◌∷◌}
use native.Mathlib.Omega.{arith}
use Rattle.model.specs.Table.{walk}
use Rattle.theorems.proofs.Layers.SplitRole.{keeps_sheet}
use Rattle.new_darts.proofs.SplitRoles.{link_asked, dart_asked, dart_found, links}
use Rattle.new_darts.proofs.split.b_across.Goals as goal

pub new_dart-requires : goal.new_dart-requires
unfolding walk keeps_sheet
new_dart-requires c =
    let three = c.if-sources-eq3.true in
    dart_asked c.requires.is [] refl refl _ (omega arith)

pub link_in-requires : goal.link_in-requires
link_in-requires c = link_asked c.requires.is 0 (omega arith)

pub new_dart-requires-else-sources-eq3 : goal.new_dart-requires-else-sources-eq3
unfolding walk keeps_sheet
new_dart-requires-else-sources-eq3 c =
    let R = c.requires.is in
    dart_asked R (0 ∷ []) refl c.link_in.ensures _ R.low

pub returns-then-sources-eq3 : goal.returns-then-sources-eq3
unfolding walk keeps_sheet
returns-then-sources-eq3 c = λ d R.
    let three = c.if-sources-eq3.true in
    dart_found R [] refl refl _ (omega arith) c.new_dart.ensures ∙ sym ((links R).b_2 three)

pub returns-else-sources-eq3 : goal.returns-else-sources-eq3
unfolding walk keeps_sheet
returns-else-sources-eq3 c = λ d R.
    let other = c.if-sources-eq3.false in
    let dim = R.splits.dart.table.dim in
    dart_found R (0 ∷ []) refl c.link_in.ensures _ R.low c.new_dart-else-sources-eq3.ensures ∙ sym ((links R).plane_b_2 (omega arith))
