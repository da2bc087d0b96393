-- A table that is filled entry by entry: `placed_none`, `placed_more`, `placed_all`.
use Prim.Native.Nat.{ℕ, ◌+◌, ◌≤◌, ◌<◌}
use mathlib.Core.Path.{◌≡◌, refl, sym, ◌∙◌}
use mathlib.Core.List.{List}
use native.Mathlib.Omega.{arith}
use lib.ListN.{length, get_or, set, length-set}
use lib.Seq.{get_or-set_same, get_or-set_other, ext_get_or}
use Rattle.model.specs.Table.{unused}
use Rattle.theorems.proofs.Lists.Scan.{if_eq, if_lt}
use Rattle.vtk_table.specs.Cells.{Placed}

-- the same, by another word for the same number
pub placed_at : {t u : List ℕ} {e e' : ℕ} {v : List ℕ} → e ≡ e' → Placed t u e v → Placed t u e' v
placed_at p P = rw (← p) P

pub placed_none : (t u : List ℕ) → Placed t u 0 t
placed_none t u = record { long = refl; new = λ y h. absurd (omega arith); stays = λ y h. refl }

pub placed_more : {t u : List ℕ} {e : ℕ} {v : List ℕ} → Placed t u e v → e < length v → (x : ℕ) → x ≡ get_or u e unused
    → Placed t u (e + 1) (set v e x)
placed_more {t} {u} {e} {v} P low x is = record {
  long = length-set v e x ∙ P.long;
  new = λ y h. if_eq y e (λ q. rw q (get_or-set_same v e x unused low ∙ is)) (λ q. get_or-set_other v e y x unused q ∙ P.new y (omega arith));
  stays = λ y h. get_or-set_other v e y x unused (λ q. omega arith) ∙ P.stays y (omega arith);
}

pub placed_all : {t u : List ℕ} {e : ℕ} {v : List ℕ} → Placed t u e v → length t ≡ length u
    → ((y : ℕ) → e ≤ y → y < length t → get_or u y unused ≡ get_or t y unused) → v ≡ u
placed_all {t} {u} {e} {v} P long same = ext_get_or unused v u (P.long ∙ long) (λ y h. if_lt y e (P.new y)
    (λ l. P.stays y l ∙ sym (same y l (let is = P.long in omega arith))))
