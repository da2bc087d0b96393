-- Several sheets of a block map, no two of which share a cell: removed in any order they leave equal tables. `each_order` says so of what
-- remove makes, `remove_calls_any_order` of accepted calls; `remove_calls_numbers`: after the first of them only its buffers can refuse
-- the next.
use Prim.Native.Nat.{ℕ}
use mathlib.Core.Path.{◌≡◌, refl, sym, ap, ap₂, ◌∙◌, subst}
use mathlib.Core.Logic.{◌↔◌, ⊎_elim}
use mathlib.Core.Bool.{true}
use mathlib.Core.List.Memᴰ.{cases_cons as in-cons}
use mathlib.Core.List.Memᴰ.{not-nil}
use mathlib.Core.List.{List, [], ◌∷◌, Memᴰ as In}
use mathlib.Core.List.Memᴰ.{head as here}
use mathlib.Core.List.Memᴰ.{tail as there}
use mathlib.Core.List.Permᴰ.{cons}
use mathlib.Core.List.Permᴰ.{nil}
use mathlib.Core.List.Permᴰ.{swap}
use mathlib.Core.List.{Permᴰ as Permutes}
use mathlib.Core.List.Permᴰ.{symm as turn}
use mathlib.Core.List.Permᴰ.{trans as through}
use Rattle.model.specs.Table.{live}
use Rattle.model.specs.Remove.{remove_table}
use Rattle.model.specs.Calls.{remove_call}
use Rattle.model.specs.Meaning.Maps.{BlockTable}
use Rattle.model.specs.Meaning.Numbers.{First, marks_row, journal_row, record_row}
use Rattle.model.specs.Meaning.Sheets.{BlockDart}
use Rattle.theorems.proofs.Layers.Remove.{remove_block}
use Rattle.theorems.proofs.Calls.Removals.{remove_numbers}
use Rattle.several_layers.specs.Removals.{ShareNoCell, Parted, lone, with, remove_each, RemovedInTurn, finished, accepted}
use Rattle.several_layers.proofs.Apart.{share_turn, in_cells_kept, seed_kept, remove_order}
use Rattle.several_layers.proofs.Calls.{remove_dart, first_dart_lem, turn_leaves}

-- ---- after a removal

-- two sheets that share no cell still share none when a third is removed that shares none with them
pub share_kept : {n : ℕ} {t : List ℕ} {d e f : ℕ} → BlockDart n t d → BlockDart n t e → BlockDart n t f
    → ShareNoCell n t d e → ShareNoCell n t d f → ShareNoCell n t e f → ShareNoCell n (remove_table n t d) e f
share_kept D E F de df ef x h k = ef x ((in_cells_kept D E de x).0 h) ((in_cells_kept D F df x).0 k)

module _ {n : ℕ} {t : List ℕ} (B : BlockTable n t) where
  dart : (x : ℕ) → live t x ≡ true → BlockDart n t x
  dart x l = record { table = B; lives = l }

  pub parted_live : {ds : List ℕ} → Parted n t ds → (x : ℕ) → In x ds → live t x ≡ true
  parted_live lone x i = absurd (not-nil i)
  parted_live (with l o rest) x i = let rec = parted_live rest x in ⊎_elim (λ q. rw q l) rec (in-cons i)

  -- the others are parted still when one is removed
  parted_after : {d : ℕ} {ds : List ℕ} → BlockDart n t d → ((e : ℕ) → In e ds → ShareNoCell n t d e) → Parted n t ds
      → Parted n (remove_table n t d) ds
  parted_after D o lone = lone
  parted_after D o (with {d = e} le oe rest) =
      let rec = parted_after D (λ f i. o f (there i)) rest in
      let E = dart e le in
      let de = o e (here refl) in
      with (seed_kept D E de).lives
      (λ f i. share_kept D E (dart f (parted_live rest f i)) de (o f (there i)) (oe f i)) rec

-- when all but e are removed, e is a live dart of a block map
each_kept : {n : ℕ} {t : List ℕ} {e : ℕ} → BlockTable n t → (ds : List ℕ) → Parted n t (e ∷ ds) → BlockDart n (remove_each n t ds) e
unfolding remove_each
each_kept B [] (with l o rest) = record { table = B; lives = l }
each_kept {n} {t} {e} B (d ∷ ds) (with le oe (with ld od rest)) =
    let D = dart B d ld in
    each_kept {t = remove_table n t d} (remove_block D) ds
    (parted_after B D (λ f i. ⊎_elim (λ q. rw q (share_turn n t e d (oe d (here refl)))) (od f) (in-cons i)) (with le (λ f i. oe f (there i)) rest))

-- ---- another order

perm_in : {ds es : List ℕ} → Permutes ds es → (x : ℕ) → In x ds → In x es
perm_in nil x i = i
perm_in (cons e p) x i = let rec = perm_in p x in ⊎_elim (λ q. here (q ∙ e)) (λ k. there (rec k)) (in-cons i)
perm_in (swap e f) x i =
    ⊎_elim (λ q. there (here (q ∙ e))) (λ k. ⊎_elim (λ q. here (q ∙ f)) (λ l. there (there l)) (in-cons k)) (in-cons i)
perm_in (through p q) x i = perm_in q x (perm_in p x i)

module _ {n : ℕ} {t : List ℕ} where
  parted_order : {ds es : List ℕ} → Permutes ds es → Parted n t ds → Parted n t es
  parted_order nil lone = lone
  parted_order (cons {l₂ = es} e p) (with l o rest) =
      let rec = parted_order p rest in
      subst (λ (z : ℕ). Parted n t (z ∷ es)) e (with l (λ x i. o x (perm_in (turn p) x i)) rec)
  parted_order (swap {a = a} {b = b} {b' = c} {l = ds} e f) (with la oa (with lb ob rest)) =
      subst (λ (z : ℕ). Parted n t (z ∷ c ∷ ds)) f (subst (λ (z : ℕ). Parted n t (b ∷ z ∷ ds)) e
      (with lb (λ x i. ⊎_elim (λ q. rw q (share_turn n t a b (oa b (here refl)))) (ob x) (in-cons i))
      (with la (λ x i. oa x (there i)) rest)))
  parted_order (through p q) h = parted_order q (parted_order p h)

pub each_order : {n : ℕ} {t ds es : List ℕ} → BlockTable n t → Permutes ds es → Parted n t ds → remove_each n t ds ≡ remove_each n t es
unfolding remove_each
each_order B nil lone = refl
each_order {n} {t} B (cons {a = a} {l₂ = es} e p) (with l o rest) =
    each_order {t = remove_table n t a} (remove_block (dart B a l)) p (parted_after B (dart B a l) o rest)
    ∙ ap (λ (z : ℕ). remove_each n (remove_table n t z) es) e
each_order {n} {t} B (swap {a = a} {b = b} {l = ds} e f) (with la oa (with lb ob rest)) =
    ap (λ (u : List ℕ). remove_each n u ds) (remove_order (dart B a la) (dart B b lb) (oa b (here refl)))
    ∙ ap₂ (λ (x y : ℕ). remove_each n (remove_table n (remove_table n t x) y) ds) f e
each_order B (through p q) h = each_order B p h ∙ each_order B q (parted_order p h)

-- ---- the calls

-- any number of sheets, no two of which share a cell, removed in any two orders by accepted calls, leave equal tables
pub remove_calls_any_order : {n : ℕ} {t ds es u v : List ℕ} → Parted n t ds → Permutes ds es
    → RemovedInTurn n t ds u → RemovedInTurn n t es v → u ≡ v
remove_calls_any_order {n} {t} {ds} {es} {u} {v} parted p r s = go r s
  where
    from : BlockTable n t → u ≡ v
    from B = sym (turn_leaves r) ∙ each_order B p parted ∙ turn_leaves s

    go : {ds es : List ℕ} → RemovedInTurn n t ds u → RemovedInTurn n t es v → u ≡ v
    go (finished e) (finished f) = sym e ∙ f
    go (finished e) (accepted {d = d} m j tag h rest) = from (remove_dart n t m j tag d h).table
    go (accepted {d = d} m j tag h rest) s = from (remove_dart n t m j tag d h).table

-- after the first of them, the next, given marks m and a journal j, can be refused only for these, and for want of room
pub remove_calls_numbers : {n : ℕ} {t ds u : List ℕ} {d e : ℕ} → Parted n t (e ∷ d ∷ ds) → RemovedInTurn n t (d ∷ ds) u
    → (m j : List ℕ) (tag z : ℕ) → ((remove_call n u m j tag e).number ≡ z)
    ↔ First (marks_row u m ∷ journal_row j ∷ record_row tag u (remove_table n u e) j ∷ []) z
remove_calls_numbers {n} {t} {ds} {u} {d} {e} parted r m j tag z =
    let E = each_kept (first_dart_lem r).table (d ∷ ds) parted in
    rw (turn_leaves r) at (remove_numbers E m j tag z)
