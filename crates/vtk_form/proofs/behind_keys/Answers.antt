-- `vtk_form::behind_keys` meets its contract, one keyword after the other.
use mathlib.Core.Path.{sym, ◌∙◌, subst}
use mathlib.Core.List.{List}
use mathlib.Core.Option.{Option}
use Prim.Native.Nat.{ℕ}
use Rattle.vtk_words.specs.Words.{PlaceOf}
use Rattle.vtk_form.proofs.Keys.{keys_more, keys_none}
use Rattle.vtk_form.proofs.behind_keys.Goals as goal

pub returns-in_err-dataset : goal.returns-in_err-dataset
returns-in_err-dataset c = rw c.from_residual.ensures (keys_none _ _ _ c.in_err-dataset.ensures)

pub returns-in_err-kind : goal.returns-in_err-kind
returns-in_err-kind c =
    rw c.from_residual-in_err-kind.ensures (keys_more _ _ _ _ c.in_ok-dataset.ensures.1 ∙ keys_none _ _ _ c.in_err-kind.ensures)

pub returns-in_err-points : goal.returns-in_err-points
returns-in_err-points c =
    rw c.from_residual-in_err-points.ensures
    (keys_more _ _ _ _ c.in_ok-dataset.ensures.1 ∙ keys_more _ _ _ _ c.in_ok-kind.ensures.1 ∙ keys_none _ _ _ c.in_err-points.ensures)

pub returns : goal.returns
returns c =
    let same =
    keys_more _ _ _ _ c.in_ok-dataset.ensures.1 ∙ keys_more _ _ _ _ c.in_ok-kind.ensures.1
    ∙ keys_more _ _ _ _ c.in_ok-points.ensures.1 in
    subst (λ (o : Option (List (List ℕ))). PlaceOf c.args.text.now o c.behind_word-4.result) (sym same) c.behind_word-4.ensures
