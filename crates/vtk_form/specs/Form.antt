-- Whether a text is of the form of 02, R-1, where its rows stand, and which of them a buffer has.
use Rattle.std.specs.Prelude.{ℕ, ◌≡◌, Bool, true, false, List, length, eqb, Option, Some, None, Result, Ok, Err}
use Rattle.std.proofs.Math.Option.{none, some}
use Rattle.model.specs.Lists.{all_of}
use Rattle.model.specs.Vtk.{Grid, grid_of}
use Rattle.model.specs.Meaning.Vtk.{RowsAt}
use Rattle.vtk_form.specs.Parts.{Keeps}
use Rattle.vtk_form.specs.declared.Form.{Form}
use Rattle.vtk_form.specs.declared.Grid.{Grid as Read}
use Rattle.vtk_form.specs.declared.NoForm.{NoForm}
use Rattle.vtk_form.specs.declared.NoForm.TheVariants.{WrongForm, OtherType}

-- the grid that a text of the form gives: how many cells, whether all are of type 12, and where their rows stand; and the buffer has these
-- where they have eight numbers, as far as it goes
pub record Gives (text buffer : List ℕ) (f : Form) (twelve : Bool) : Type 0 where
  pub grid : Grid
  pub is : grid_of text ≡ some grid
  pub cells : f.cells ≡ length grid.rows
  pub twelves : twelve ≡ all_of (λ x. eqb x 12) grid.types
  pub rows : RowsAt text f.at grid.rows
  pub kept : Keeps buffer grid.rows

abbrev pub GridOf : List ℕ → List ℕ → Option Read → Type 0
GridOf text buffer (Some g) = Gives text buffer g.form g.twelve
GridOf text buffer None = grid_of text ≡ none

-- the form of a text whose cells are all of type 12, or why it has none: where a cell is of another type, with its form
abbrev pub FormOf : List ℕ → List ℕ → Result Form NoForm → Type 0
FormOf text buffer (Ok f) = Gives text buffer f true
FormOf text buffer (Err WrongForm) = grid_of text ≡ none
FormOf text buffer (Err (OtherType f)) = Gives text buffer f false
