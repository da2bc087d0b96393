-- `vtk_form::behind_count` meets its contract.
use native.Mathlib.Omega.{arith}
use Rattle.vtk_words.proofs.Counting.{same_value}
use Rattle.vtk_words.proofs.Told.{number_told, number_unfit}
use Rattle.vtk_form.proofs.Typing.{types_key, types_other, types_same}
use Rattle.vtk_form.proofs.behind_count.Goals as goal

pub returns-in_err-count : goal.returns-in_err-count
returns-in_err-count c = rw c.from_residual.ensures (types_key _ _ c.in_err-count.ensures)

pub returns-in_err-m : goal.returns-in_err-m
returns-in_err-m c =
    rw c.from_residual-in_err-m.ensures
    (types_other _ _ _ c.in_ok-count.ensures.1
    (λ x e q. let high = number_unfit _ _ c.number_at.result c.ok.ensures.value c.in_err-m.was c.number_at.ensures x e in omega (arith, c.requires.1)))

pub returns-then-m-n : goal.returns-then-m-n
returns-then-m-n c =
    types_other _ _ _ c.in_ok-count.ensures.1
    (λ x e q. let value = same_value e (number_told _ _ c.number_at.result c.ok.ensures.value c.in_ok-m.was c.number_at.ensures).1 in omega arith)

pub returns : goal.returns
returns c =
    let (high, is, _) = number_told _ _ c.number_at.result c.ok.ensures.value c.in_ok-m.was c.number_at.ensures in
    (high, types_same _ _ _ c.in_ok-count.ensures.1 _ is (omega arith))
