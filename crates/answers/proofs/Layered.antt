-- What the passed checks of a layer say, as the crates below ask it: `layered`, `marks_long`, `sized`, `sheet_given`; and `Sheeted`, where the sheet
-- has been marked.
use Prim.Native.Nat.{ℕ, ◌≤◌, ◌<◌}
use mathlib.Core.Path.{◌≡◌}
use mathlib.Core.Bool.{◌&&◌}
use mathlib.Core.List.{List}
use native.Mathlib.Omega.{arith}
use lib.ListN.{length, get_or}
use Rattle.model.specs.Lists.{index_of}
use Rattle.model.specs.Table.{slots, link, live}
use Rattle.model.specs.Reach.{in_set}
use Rattle.model.specs.Sheet.{sheet, mark_of, mark_at, sheet_marks}
use Rattle.model.specs.Checks.{pass, in_order, sheet_checks, layer_checks, dim_ok, table_ok, marks_ok, map_checks, dart_ok}
use Rattle.model.specs.Runs.{Op}
use Rattle.model.specs.Meaning.Ends.{op_numbers}
use Rattle.model.specs.Meaning.Numbers.{JournalRule}
use Rattle.model.specs.Meaning.Sheets.{BlockDart, marks_of}
use Rattle.model.specs.Meaning.Walks.{Layer}
use Rattle.theorems.proofs.Lists.Scan.{test, get_or_tab}
use Rattle.theorems.proofs.Calls.Checks.{passed_number}
use Rattle.theorems.proofs.Layers.Marks.{sheet_layer}
use Rattle.theorems.proofs.Cells.Exact.{block_of}
use Rattle.theorems.proofs.Calls.Pass.{journal_pass, RulesPass, rules_pass, table_of, block_pass, dart_pass, layer_passed}
use Rattle.reading.specs.Sized.{Sized}
use Rattle.reading.proofs.Passed.{table_passed}
use Rattle.answers.proofs.Ladder.{passed_all}
use Rattle.answers.proofs.Given.{rules_given, marks_given}

pub record Layered (n : ℕ) (t m j : List ℕ) (d : ℕ) : Type 0 where
  pub dim : dim_ok n ≡ pass
  pub table : table_ok t ≡ pass
  pub marks : marks_ok t m ≡ pass
  pub rules : RulesPass n t
  pub lives : dart_ok t d ≡ pass
  pub rule : JournalRule j
  pub dart : BlockDart n t d

module _ {n d : ℕ} {t m j : List ℕ} where
  pub layered : in_order (layer_checks n t m j d) ≡ pass → Layered n t m j d
  unfolding layer_checks map_checks index_of
  layered h =
      let q = passed_number (op_numbers (Op.remove d)) (layer_checks n t m j d) h in
      record {
        dim = q 1;
        table = q 2;
        marks = q 3;
        rules = rules_pass n t (q 5) (q 24) (q 25) (q 26);
        lives = q 7;
        rule = journal_pass j (q 4);
        dart = layer_passed n t j m d h;
      }

  pub marks_long : Layered n t m j d → length m ≡ slots t
  marks_long L = marks_given t m L.marks

  pub sized : Layered n t m j d → Sized t
  sized L = table_passed t L.table

-- the same of sheet, which takes no journal, and of pick
pub sheet_given : (n : ℕ) (t m : List ℕ) (d : ℕ) → in_order (sheet_checks n t m d) ≡ pass → BlockDart n t d × (length m ≡ slots t)
unfolding sheet_checks map_checks
sheet_given n t m d h =
    let p = passed_all (sheet_checks n t m d) h in (
      record {
        table = block_of n t (table_of n t (search) (search) (rules_given n t p.1.1.1)) (block_pass n t (search));
        lives = dart_pass t d (search);
      },
      marks_given t m (search),
    )

mark_low : (n : ℕ) (t s c : List ℕ) (x : ℕ) → mark_at n t s c x ≤ 3
unfolding mark_at mark_of
mark_low n t s c x =
    test (in_set s x) (λ e. rw (e, mark_of) (omega arith))
    (λ e. test (in_set c x) (λ f. rw (e, f, mark_of) (omega arith))
    (λ f. test (live t x && in_set c (link t n x)) (λ g. rw (e, f, g, mark_of) (omega arith)) (λ g. rw (e, f, g, mark_of) (omega arith))))

-- ---- the checks up to 8 have passed, and s are the marks of the sheet

pub record Sheeted (n : ℕ) (t m j : List ℕ) (d : ℕ) (s : List ℕ) : Type 0 where
  pub passed : in_order (layer_checks n t m j d) ≡ pass
  pub marked : s ≡ marks_of n t d

module _ {n d : ℕ} {t m j s : List ℕ} (H : Sheeted n t m j d s) where
  pub given : Layered n t m j d
  given = layered H.passed

  pub layer : Layer n t s
  layer = rw H.marked (sheet_layer given.dart)

  pub marks_few : length s ≤ 65536
  marks_few = let long = layer.long in let few = (sized given).few in omega arith

  pub marks_low : (x : ℕ) → x < length s → get_or s x 0 ≤ 3
  unfolding sheet_marks
  marks_low x low =
      let long = layer.long in
      rw (H.marked, get_or_tab (mark_at n t (sheet n t d) _) (slots t) x 0 (omega arith)) (mark_low n t (sheet n t d) _ x)
