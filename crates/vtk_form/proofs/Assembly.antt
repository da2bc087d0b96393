-- The grid of a text from its parts. Each part that does not fit makes the form fail: `no_title`, `no_points`, `no_cells`, `no_rows`,
-- `no_types`, `no_eights`; where all fit the grid is theirs: `grid_is`, and its rows stand in the text: `grid_rows`.
use Prim.Native.Nat.{ℕ, ◌<◌}
use mathlib.Core.Path.{◌≡◌, refl, sym, ap, ◌∙◌}
use mathlib.Core.Logic.{◌≢◌}
use mathlib.Core.Bool.{Bool, true, false, ◌&&◌}
use mathlib.Core.List.{List}
use mathlib.Core.Option.{Option, none, some}
use native.Mathlib.Omega.{arith}
use lib.ListN.{length, drop}
use lib.Dec.{ltb}
use borrow.Author.Tests.{lt-ltb, ltb-true}
use Rattle.model.specs.Lists.{all_of}
use Rattle.model.specs.Vtk.{◌≫◌, words, behind_title, Counted, Rows, Grid, points_of, cells_of, types_of, sections_of, eights, fits, grid_of}
use Rattle.model.specs.Meaning.Vtk.{RowsAt}
use Rattle.theorems.proofs.Lists.Scan.{test, clash, and_l, and_r, and_i}
use Rattle.theorems.proofs.Vtk.Form.{then_some}
use Rattle.theorems.proofs.Lists.Ones.{each_at}
use Rattle.vtk_words.specs.Words.{number_at}
use Rattle.vtk_words.proofs.Counting.{none_some, refuted}
use Rattle.vtk_form.specs.Parts.{all_named, CellsFit}
use Rattle.vtk_form.proofs.Skipping.{points_low}
use Rattle.vtk_form.proofs.Sections.{words_in}

-- ---- what fits

-- a grid that fits
unfoldable kept : Grid → Option Grid
kept g = elim (fits g) [ true ↦ some g | false ↦ none ]

kept_fits : (g h : Grid) → kept g ≡ some h → fits g ≡ true
unfolding kept
kept_fits g h e = test (fits g) (λ q. q) (λ q. absurd (none_some refl (let z : none ≡ some h = rw (kept, q) at e in z)))

kept_is : (g : Grid) → fits g ≡ true → kept g ≡ some g
unfolding kept
kept_is g e = rw (kept, e)

module _ (g : Grid) where
  some_rows : Bool
  some_rows = ltb 0 (length g.rows)

  all_rows_named : Bool
  all_rows_named = all_of (all_named g.points) g.rows

  fits_some : fits g ≡ true → 0 < length g.rows
  unfolding fits some_rows all_rows_named
  fits_some h = ltb-true 0 (length g.rows) (and_l some_rows all_rows_named (and_l (some_rows && all_rows_named) (eights g.rows g.types) h))

  fits_named : fits g ≡ true → all_of (all_named g.points) g.rows ≡ true
  unfolding fits some_rows all_rows_named
  fits_named h = and_r some_rows all_rows_named (and_l (some_rows && all_rows_named) (eights g.rows g.types) h)

  fits_eights : fits g ≡ true → eights g.rows g.types ≡ true
  unfolding fits some_rows all_rows_named
  fits_eights h = and_r (some_rows && all_rows_named) (eights g.rows g.types) h

  fits_all : 0 < length g.rows → all_of (all_named g.points) g.rows ≡ true → eights g.rows g.types ≡ true → fits g ≡ true
  unfolding fits some_rows all_rows_named
  fits_all a b c = and_i (and_i (lt-ltb 0 (length g.rows) a) b) c

-- ---- the parts

-- the grid of these
abbrev grid_by : ℕ → List (List ℕ) → List ℕ → Grid
grid_by n rows ts = record { points = n; rows = rows; types = ts }

module _ (text : List ℕ) where
  pub no_title : behind_title text ≡ none → grid_of text ≡ none
  unfolding grid_of
  no_title e = rw e

  module _ (body : ℕ) (title : behind_title text ≡ some (drop body text)) where
    ws : List (List ℕ)
    ws = words (drop body text)

    by_sections : grid_of text ≡ (sections_of ws ≫ kept)
    unfolding grid_of kept ws
    by_sections = rw title

    pub no_points : ((p : Counted) → points_of (words (drop body text)) ≡ some p → (c : Rows) → cells_of p.rest ≡ some c → ⊥)
        → grid_of text ≡ none
    unfolding sections_of ws
    no_points h = refuted (grid_of text) (λ g e.
        let (g', f, _) = then_some (sections_of ws) kept g (sym by_sections ∙ e) in
        let (p, points, f₁) = then_some {A = Counted} (points_of ws) _ g' f in
        let (c, cells, _) = then_some {A = Rows} (cells_of p.rest) _ g' f₁ in
        h p points c cells)

    module _ (n cells : ℕ) (points : points_of (words (drop body text)) ≡ some (number_at text n cells)) where
      -- what stands behind the rows
      behind_rows : Rows → Option Grid
      behind_rows c = types_of (length c.rows) c.rest ≫ λ ts. some (grid_by n c.rows ts)

      by_cells : sections_of ws ≡ (cells_of (words (drop cells text)) ≫ behind_rows)
      unfolding sections_of ws behind_rows
      by_cells = rw points

      pub no_cells : ((c : Rows) → cells_of (words (drop cells text)) ≡ some c → all_of (all_named n) c.rows ≡ true → ⊥)
          → grid_of text ≡ none
      unfolding behind_rows
      no_cells h = refuted (grid_of text) (λ g e.
          let (g', f, k) = then_some (sections_of ws) kept g (sym by_sections ∙ e) in
          let (c, read, f₁) = then_some (cells_of (words (drop cells text))) behind_rows g' (sym by_cells ∙ f) in
          let (ts, _, f₂) = then_some (types_of (length c.rows) c.rest) (λ ts. some (grid_by n c.rows ts)) g' f₁ in
          let same : g' ≡ grid_by n c.rows ts = cc in
          h c read (fits_named (grid_by n c.rows ts) (ap fits (sym same) ∙ kept_fits g' g k)))

      module _ (buffer : List ℕ) (m at : ℕ) (eight : Bool) (end : ℕ) (f : CellsFit text cells n buffer m at eight end) where
        rows : List (List ℕ)
        rows = f.fit.rows

        by_types : grid_of text ≡ (types_of m (words (drop end text)) ≫ λ ts. kept (grid_by n rows ts))
        unfolding behind_rows rows
        by_types =
            by_sections ∙ ap (λ (o : Option Grid). o ≫ kept) (by_cells ∙ ap (λ (o : Option Rows). o ≫ behind_rows) f.read)
            ∙ ap (λ (k : ℕ). (types_of k (words (drop end text)) ≫ λ ts. some (grid_by n f.fit.rows ts)) ≫ kept) f.fit.long
            ∙ joined (types_of m (words (drop end text)))
          where
            joined : (o : Option (List ℕ)) → ((o ≫ λ ts. some (grid_by n f.fit.rows ts)) ≫ kept) ≡ (o ≫ λ ts. kept (grid_by n f.fit.rows ts))
            joined none = refl
            joined (some ts) = refl

        -- "one or more"
        pub no_rows : m ≡ 0 → grid_of text ≡ none
        unfolding rows
        no_rows e = refuted (grid_of text) (λ g h.
            let (ts, _, k) = then_some (types_of m (words (drop end text))) (λ ts. kept (grid_by n rows ts)) g (sym by_types ∙ h) in
            let one = fits_some (grid_by n rows ts) (kept_fits (grid_by n rows ts) g k) in
            let long = f.fit.long in
            absurd (omega arith))

        pub no_types : types_of m (words (drop end text)) ≡ none → grid_of text ≡ none
        no_types e = by_types ∙ ap (λ (o : Option (List ℕ)). o ≫ λ ts. kept (grid_by n rows ts)) e

        module _ (ts : List ℕ) (types : types_of m (words (drop end text)) ≡ some ts) where
          by_all : grid_of text ≡ kept (grid_by n rows ts)
          by_all = by_types ∙ ap (λ (o : Option (List ℕ)). o ≫ λ ts. kept (grid_by n rows ts)) types

          pub no_eights : eights f.fit.rows ts ≡ false → grid_of text ≡ none
          unfolding rows
          no_eights e = refuted (grid_of text) (λ g h.
              clash (fits_eights (grid_by n rows ts) (kept_fits (grid_by n rows ts) g (sym by_all ∙ h))) e)

          pub grid_is : m ≢ 0 → eights f.fit.rows ts ≡ true → grid_of text ≡ some (record { points = n; rows = f.fit.rows; types = ts })
          unfolding rows
          grid_is one e =
              let long = f.fit.long in
              by_all ∙ kept_is (grid_by n rows ts) (fits_all (grid_by n rows ts) (omega (arith, one)) f.fit.named e)

        pub grid_rows : RowsAt text at f.fit.rows
        grid_rows =
            let read = f.fit.read in
            let few = points_low (words (drop body text)) (number_at text n cells) _ points f.read in
            let all = words_in text body in
            record {
              low = f.low;
              size = f.size;
              read = rw f.fit.long read;
              few = λ row i x j.
                  let low = ltb-true x n (each_at (λ x. ltb x n) row (each_at (all_named n) f.fit.rows f.fit.named row i) x j) in
                  omega arith;
            }
