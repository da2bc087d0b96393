-- What a read knows of its text behind 18: refused by 19 (`form_refuses`), else that it is of the form (`form_passes`); whether 20 passes
-- (`types_test`), and what is known then (`formed`).
use Prim.Native.Nat.{ℕ}
use mathlib.Core.Path.{◌≡◌, ap, ◌∙◌, subst}
use mathlib.Core.Bool.{Bool, true}
use mathlib.Core.List.{List, []}
use mathlib.Core.Option.{Option, none, some}
use lib.ListN.{take}
use lib.Dec.{eqb}
use Rattle.model.specs.Lists.{all_of}
use Rattle.model.specs.Vtk.{Grid, grid_of, types_in}
use Rattle.model.specs.Checks.{pass, refuse, must, in_order, form_ok, types_ok, vtk_checks}
use Rattle.model.specs.Calls.{refused, vtk_call}
use Rattle.vtk_form.specs.Form.{Gives}
use Rattle.vtk_form.specs.declared.Form.{Form}
use Rattle.std.specs.Prelude.{Err}
use Rattle.answers.specs.Answers.{Refused, outcome}
use Rattle.answers.specs.Openings.{refusing}
use Rattle.call_read_vtk.specs.Formed.{Formed}

pub vtk_ends : (n : ℕ) (t j : List ℕ) (tag : ℕ) (text : List ℕ) (e : Refused) → in_order (vtk_checks n t j (grid_of text)) ≡ refusing e
    → outcome (Err e) t [] j ≡ vtk_call n t j tag text
unfolding vtk_call refused
vtk_ends n t j tag text e h = rw (h, vtk_call)

pub form_refuses : (o : Option Grid) → o ≡ none → form_ok o ≡ refuse 19 0 0
unfolding form_ok
form_refuses o e = ap form_ok e

module _ (o : Option Grid) (g : Grid) (is : o ≡ some g) where
  pub form_passes : form_ok o ≡ pass
  unfolding form_ok
  form_passes = ap form_ok is

  pub types_test : {b : Bool} → b ≡ all_of (λ x. eqb x 12) g.types → must b 20 ≡ types_ok (types_in o)
  unfolding types_ok types_in
  types_test e = ap (λ b. must b 20) e ∙ rw is

pub formed : (t j text buffer : List ℕ) (f : Form) (G : Gives text buffer f true) → in_order (take 10 (vtk_checks 3 t j (grid_of text))) ≡ pass
    → Formed t j text buffer f.at f.cells
formed t j text buffer f G passed = record {
  grid = G.grid;
  is = G.is;
  passed = subst (λ (o : Option Grid). in_order (take 10 (vtk_checks 3 t j o)) ≡ pass) G.is passed;
  stand = G.rows;
  number = G.cells;
  kept = G.kept;
}
