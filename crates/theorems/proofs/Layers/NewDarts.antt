-- New darts in unused slots, n to each of some darts (`Spread`), as split and insert make them: the new dart r of the i-th dart is in
-- the slot n * i + r. `new_in`, `new_one` and `slot_new`: one new dart in each slot; `new_dart_lem`, `new_role`: whose it is, and which;
-- `Live`: what is live when they are there.
use Prim.Native.Nat.{ℕ, ◌+◌, ◌*◌, ◌/◌, ◌%◌, ◌<◌}
use mathlib.Core.Path.{◌≡◌, sym, ap, ◌∙◌}
use mathlib.Core.Logic.{◌⊎◌, inl, inr}
use mathlib.Core.Bool.{true}
use mathlib.Core.List.Memᴰ.{cast as in-cast}
use mathlib.Core.List.{List, Memᴰ as In}
use native.Mathlib.Omega.{arith}
use lib.ListN.{length, get_or}
use Rattle.model.specs.Lists.{index_of}
use Rattle.model.specs.Table.{unused, live}
use Rattle.model.specs.NewDarts.{new_dart}
use Rattle.model.specs.Meaning.Lists.{Distinct}
use Rattle.model.specs.Meaning.Slots.{Vacant}
use Rattle.model.specs.Meaning.Maps.{Dim}
use Rattle.model.specs.Meaning.Splits.{IsNew}
use Rattle.theorems.proofs.Lists.Scan.{clash}
use Rattle.theorems.proofs.Lists.Ones.{get_or_in, index_get_or, index_in, get_or_index}
use Rattle.theorems.proofs.Maps.Dim.{two_cases}

-- ---- numbers: the new dart r of the i-th dart is in the new slot n * i + r

module _ (n : ℕ) (dim : Dim n) where
  pub slot_low : (i l r : ℕ) → i < l → r < n → n * i + r < n * l
  slot_low = two_cases n dim (λ n. (i l r : ℕ) → i < l → r < n → n * i + r < n * l)
      (λ i l r a b. omega arith) (λ i l r a b. omega arith)

  slot_dart : (i r : ℕ) → r < n → (n * i + r) / n ≡ i
  slot_dart = two_cases n dim (λ n. (i r : ℕ) → r < n → (n * i + r) / n ≡ i) (λ i r b. omega arith) (λ i r b. omega arith)

  slot_role : (i r : ℕ) → r < n → (n * i + r) % n ≡ r
  slot_role = two_cases n dim (λ n. (i r : ℕ) → r < n → (n * i + r) % n ≡ r) (λ i r b. omega arith) (λ i r b. omega arith)

  slot_parts : (k l : ℕ) → k < n * l → (k / n < l) × (k % n < n) × (n * (k / n) + k % n ≡ k)
  slot_parts = two_cases n dim (λ n. (k l : ℕ) → k < n * l → (k / n < l) × (k % n < n) × (n * (k / n) + k % n ≡ k))
      (λ k l h. omega arith) (λ k l h. omega arith)

-- ---- the new darts

-- distinct darts gs, and n unused slots fs for each
pub record Spread (n : ℕ) (t gs fs : List ℕ) : Type 0 where
  pub dim : Dim n
  pub once : Distinct gs
  pub vacant : Vacant t fs
  pub enough : length fs ≡ n * length gs

-- x is live when the new darts are there: it was before, or it is one of them
pub data Live (n : ℕ) (t gs fs : List ℕ) (x : ℕ) : Type 0 where
  old : live t x ≡ true → Live n t gs fs x
  new : IsNew n gs fs x → Live n t gs fs x

module _ {n : ℕ} {t gs fs : List ℕ} (S : Spread n t gs fs) where
  abbrev dim : Dim n
  dim = S.dim

  pub new_slot : (r g : ℕ) → r < n → In g gs → n * index_of g gs + r < length fs
  new_slot r g b i = let a = slot_low n dim (index_of g gs) (length gs) r (index_in gs g i) b in let e = S.enough in omega arith

  pub new_in : (r g : ℕ) → r < n → In g gs → In (new_dart n gs fs r g) fs
  unfolding new_dart
  new_in r g b i = get_or_in fs (n * index_of g gs + r) unused (new_slot r g b i)

  new_index : (r g : ℕ) → r < n → In g gs → index_of (new_dart n gs fs r g) fs ≡ n * index_of g gs + r
  unfolding new_dart
  new_index r g b i = index_get_or fs (n * index_of g gs + r) unused S.vacant.once (new_slot r g b i)

  pub new_dart_lem : (r g : ℕ) → r < n → In g gs → get_or gs (index_of (new_dart n gs fs r g) fs / n) 0 ≡ g
  new_dart_lem r g b i =
      ap (λ (k : ℕ). get_or gs (k / n) 0) (new_index r g b i) ∙ ap (λ (k : ℕ). get_or gs k 0) (slot_dart n dim (index_of g gs) r b)
      ∙ get_or_index gs g 0 i

  pub new_role : (r g : ℕ) → r < n → In g gs → index_of (new_dart n gs fs r g) fs % n ≡ r
  new_role r g b i = ap (λ (k : ℕ). k % n) (new_index r g b i) ∙ slot_role n dim (index_of g gs) r b

  -- a new dart is of one role and of one dart
  pub new_one : (r q g h : ℕ) → r < n → q < n → In g gs → In h gs → new_dart n gs fs r g ≡ new_dart n gs fs q h → (r ≡ q) × (g ≡ h)
  new_one r q g h br bq ig ih e = (
    sym (new_role r g br ig) ∙ ap (λ (x : ℕ). index_of x fs % n) e ∙ new_role q h bq ih,
    sym (new_dart_lem r g br ig) ∙ ap (λ (x : ℕ). get_or gs (index_of x fs / n) 0) e ∙ new_dart_lem q h bq ih,
  )

  -- each of the new slots has a new dart
  pub slot_new : (x : ℕ) → In x fs → IsNew n gs fs x
  unfolding new_dart
  slot_new x i =
      let k = index_of x fs in
      let parts = slot_parts n dim k (length gs) (let a = index_in fs x i in let e = S.enough in omega arith) in
      record {
        role = k % n;
        of = get_or gs (k / n) 0;
        low = parts.1;
        member = get_or_in gs (k / n) 0 parts.0;
        is = sym (
            ap (λ (z : ℕ). get_or fs (n * z + k % n) unused) (index_get_or gs (k / n) 0 S.once parts.0)
            ∙ ap (λ (z : ℕ). get_or fs z unused) parts.2 ∙ get_or_index fs x unused i);
      }

  -- an old dart is none of them
  pub not_new : (x : ℕ) → live t x ≡ true → In x fs → ⊥
  not_new x l i = clash l (S.vacant.dead x i)

  -- a live slot afterwards is a live one before, or a new slot
  pub live_which : (x : ℕ) → Live n t gs fs x → (live t x ≡ true) ⊎ In x fs
  live_which x (old l) = inl l
  live_which x (new w) = inr (in-cast w.is (new_in w.role w.of w.low w.member))
