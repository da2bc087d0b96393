-- A rising list that stands in the first words of a slice (`Front`): its words are in the list (`word_in`), rise (`words_rise`, `words_above`), and are
-- all of it (`word_place`).
use Prim.Native.Nat.{ℕ, zero, suc, ◌≤◌, ◌<◌}
use mathlib.Core.Path.{◌≡◌, sym, ap, ◌∙◌}
use mathlib.Core.List.Memᴰ.{cast as in-cast}
use mathlib.Core.List.{List, Memᴰ as In}
use native.Mathlib.Omega.{arith}
use lib.ListN.{length, get_or, take}
use lib.Seq.{get_or-take, length-take-le}
use Rattle.model.specs.Lists.{index_of}
use Rattle.model.specs.Meaning.Lists.{Rising}
use Rattle.theorems.proofs.Lists.Ones.{get_or_in, get_or_index, index_in}
use Rattle.theorems.proofs.Sets.Closure.{get_or_any}
use Rattle.theorems.proofs.Operations.Slots.{rising_at}

pub record Front (size : ℕ) (words l : List ℕ) : Type 0 where
  pub front : take size words ≡ l
  pub long : size ≤ length words
  pub up : Rising l

module _ {size : ℕ} {words l : List ℕ} (F : Front size words l) where
  pub front_size : length l ≡ size
  front_size = ap length (sym F.front) ∙ length-take-le size words F.long

  pub word_at : (k e : ℕ) → k < size → get_or words k 0 ≡ get_or l k e
  word_at k e low =
      let long = F.long in
      get_or_any words k 0 e (omega arith) ∙ sym (get_or-take size words k e low) ∙ ap (λ (m : List ℕ). get_or m k e) F.front

  pub word_in : (k : ℕ) → k < size → In (get_or words k 0) l
  word_in k low = let size = front_size in in-cast (word_at k 0 low) (get_or_in l k 0 (omega arith))

  pub words_rise : (k j : ℕ) → k < j → j < size → get_or words k 0 < get_or words j 0
  words_rise k j kj low =
      let size = front_size in
      let rises = rising_at F.up k j 0 kj (omega arith) in
      let a = word_at k 0 (omega arith) in
      let b = word_at j 0 low in
      omega arith

  -- before the k-th there are k smaller ones
  pub words_above : (k : ℕ) → k < size → k ≤ get_or words k 0
  words_above zero low = omega arith
  words_above (suc k) low =
      let above = words_above k (omega arith) in
      let rises = words_rise k (suc k) (omega arith) low in
      omega arith

  pub word_place : (x : ℕ) → In x l → (k : ℕ) × (k < size) × (get_or words k 0 ≡ x)
  word_place x i =
      let size = front_size in
      let low = index_in l x i in
      (index_of x l, omega arith, word_at (index_of x l) 0 (omega arith) ∙ get_or_index l x 0 i)
