-- `remove_numbers`: remove at a live dart of a block map can be refused only for its buffers, by 3 and 4, and by 15 for want of room.
use Prim.Native.Nat.{ℕ, ◌%◌, ◌<◌}
use mathlib.Core.Path.{◌≡◌}
use mathlib.Core.Logic.{◌⊎◌, ◌≢◌, ◌↔◌, ⊎_elim}
use mathlib.Core.List.{List, [], ◌∷◌}
use native.Mathlib.Omega.{arith}
use lib.ListN.{length}
use Rattle.model.specs.Map.{MapRule, links_live, links_return, pairs_commute, stays_flat}
use Rattle.model.specs.Remove.{remove_table}
use Rattle.model.specs.Calls.{remove_call}
use Rattle.model.specs.Runs.{Op, Call, do_call}
use Rattle.model.specs.Meaning.Ends.{lent}
use Rattle.model.specs.Meaning.Maps.{BreaksFirst, BlockTable}
use Rattle.model.specs.Meaning.Numbers.{First, marks_row, journal_row, record_row}
use Rattle.model.specs.Meaning.Sheets.{BlockDart}
use Rattle.theorems.proofs.Lists.Scan.{clash}
use Rattle.theorems.proofs.Maps.Dim.{dim_cases}
use Rattle.theorems.proofs.Maps.Tables.{map_table}
use Rattle.theorems.proofs.Cells.Exact.{block_exactly, of_block}
use Rattle.theorems.proofs.Calls.Rules.{not_map_exactly}
use Rattle.theorems.proofs.Calls.Table.{◌beside◌, also, nothing, narrowed_table}

module _ {n : ℕ} {t : List ℕ} {d : ℕ} (D : BlockDart n t d) (m j : List ℕ) (tag : ℕ) where
  abbrev B : BlockTable n t
  B = D.table

  pub remove_numbers : (z : ℕ) → ((remove_call n t m j tag d).number ≡ z)
      ↔ First (marks_row t m ∷ journal_row j ∷ record_row tag t (remove_table n t d) j ∷ []) z
  unfolding do_call
  remove_numbers =
      let block = (block_exactly (map_table B)).0 (of_block n t B) in
      narrowed_table n (lent t m j) (Call.op tag (Op.remove d))
      (not_dim beside not_long beside also (also
      (keeps links_live beside keeps links_return beside keeps pairs_commute beside keeps stays_flat
      beside clash D.lives beside (λ g. g block) beside also nothing)))
    where
      not_dim : (n ≢ 2) × (n ≢ 3) → ⊥
      not_dim g = ⊎_elim g.0 g.1 (dim_cases n B.dim)

      not_long : (length t % 4 ≢ 0) ⊎ (262144 < length t) → ⊥
      not_long g = let whole = B.whole in let few = B.few in ⊎_elim (λ e. e (omega arith)) (λ e. omega arith) g

      keeps : (r : MapRule) → (x : ℕ) × (i : ℕ) × BreaksFirst n t r x i → ⊥
      keeps r broken = (not_map_exactly n t B.dim.1).1 (r, broken.0, broken.1, broken.2) B.map
