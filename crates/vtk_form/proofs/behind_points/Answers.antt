-- `vtk_form::behind_points` meets its contract.
use Prim.Native.Nat.{ℕ}
use mathlib.Core.Path.{ap, ◌∙◌}
use mathlib.Core.List.{List}
use mathlib.Core.Option.{some}
use native.Mathlib.Omega.{arith}
use lib.ListN.{drop, length-drop}
use Rattle.theorems.proofs.Vtk.Streaming.{words_few}
use Rattle.vtk_words.proofs.Told.{number_told, number_unfit}
use Rattle.vtk_form.proofs.Skipping.{points_keys_lem, points_counted, points_large, skipped}
use Rattle.vtk_form.proofs.behind_points.Goals as goal

pub returns-in_err-behind : goal.returns-in_err-behind
returns-in_err-behind c = rw c.from_residual.ensures (λ p h _ _. points_keys_lem _ c.in_err-behind.ensures p h)

pub returns-in_err-count : goal.returns-in_err-count
returns-in_err-count c =
    let text = c.args.text.now in
    let behind = c.in_ok-behind.behind in
    rw c.from_residual-in_err-count.ensures (points_large _ _ c.in_ok-behind.ensures.1 (λ x e.
    let high = number_unfit _ _ c.number_at.result c.ok.ensures.value c.in_err-count.was c.number_at.ensures x e in
    let few = words_few (drop behind text) in
    let less = length-drop behind text in
    omega (arith, c.well_formed)))

pub returns : goal.returns
returns c =
    let m = c.in_ok-count.field-0.value in
    let (_, is, low) = number_told _ _ c.number_at.result c.ok.ensures.value c.in_ok-count.was c.number_at.ensures in
    let behind = skipped m _ _ _ _ _ c.skip_words-first.ensures.same c.skip_words-second.ensures.same
    c.skip_words-third.ensures.same c.skip_words-end.ensures.same in (
      c.skip_words-end.ensures.high,
      points_counted _ _ c.in_ok-behind.ensures.1 _ is
          ∙ ap (λ (ws : List (List ℕ)). some (record { value = m; rest = ws })) behind,
      low,
    )
