-- What is known of a text where a part of its form is not there. (The lemmas that docs/PORT.md names, over Option.)
use Prim.Native.Nat.{ℕ}
use mathlib.Core.Path.{◌≡◌}
use mathlib.Core.Bool.{Bool, true}
use mathlib.Core.List.{List}
use mathlib.Core.Option.{Option, none, some}
use lib.ListN.{drop}
use Rattle.std.specs.Prelude.{Option as Option_of_std, None}
use Rattle.model.specs.Lists.{all_of}
use Rattle.model.specs.Vtk.{words, Counted, numbers, Rows as RowsRead, points_of, cells_of}
use Rattle.model.specs.Meaning.Vtk.{rows_from}
use Rattle.vtk_form.specs.Parts.{LineOf, PointsOf, all_named, RowOf, RowsOf, CellsOf, CountOf, TypeOf, TypesOf}
use Rattle.vtk_form.specs.declared.Points.{Points}
use Rattle.vtk_form.specs.declared.Rows.{Rows}
use Rattle.vtk_form.specs.declared.Cells.{Cells}
use Rattle.vtk_form.specs.declared.CellType.{CellType}

module _ (text : List ℕ) (o : Option (List ℕ)) where
  pub line_unfit : (r : Option_of_std ℕ) → r ≡ None → LineOf text o r → o ≡ none
  line_unfit r e h = rw e at h

  pub count_unfit : (n : ℕ) (r : Option_of_std ℕ) → r ≡ None → CountOf text n o r → o ≡ none
  count_unfit n r e h = rw e at h

module _ (text : List ℕ) (at : ℕ) where
  pub points_unfit : (r : Option_of_std Points) → r ≡ None → PointsOf text at r
      → (p : Counted) → points_of (words (drop at text)) ≡ some p → (c : RowsRead) → cells_of p.rest ≡ some c → ⊥
  points_unfit r e h = rw e at h

module _ (text : List ℕ) (at k n base room : ℕ) (before after : List ℕ) where
  pub row_unfit : (r : Option_of_std ℕ) → r ≡ None → RowOf text at k n base room before after r
      → (row : List ℕ) → numbers k (words (drop at text)) ≡ some row → all_named n row ≡ true → ⊥
  row_unfit r e h = rw e at h

module _ (text : List ℕ) (at m size n : ℕ) (buffer : List ℕ) where
  pub rows_unfit : (r : Option_of_std Rows) → r ≡ None → RowsOf text at m size n buffer r
      → (rows : List (List ℕ)) → rows_from m size (words (drop at text)) ≡ some rows → all_of (all_named n) rows ≡ true → ⊥
  rows_unfit r e h = rw e at h

module _ (text : List ℕ) (at n : ℕ) (buffer : List ℕ) where
  pub cells_unfit : (r : Option_of_std Cells) → r ≡ None → CellsOf text at n buffer r
      → (c : RowsRead) → cells_of (words (drop at text)) ≡ some c → all_of (all_named n) c.rows ≡ true → ⊥
  cells_unfit r e h = rw e at h

module _ (text : List ℕ) (o : Option Counted) where
  pub type_unfit : (r : Option_of_std CellType) → r ≡ None → TypeOf text o r → o ≡ none
  type_unfit r e h = rw e at h

module _ (o : Option (List ℕ)) where
  pub types_unfit : (r : Option_of_std Bool) → r ≡ None → TypesOf o r → o ≡ none
  types_unfit r e h = rw e at h
