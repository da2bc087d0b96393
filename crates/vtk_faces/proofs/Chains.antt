-- Chains of faces: a chain is looked through, and a face is put in.
-- Main theorems: `looked_first`, `looked_next`, `looked_found`, `looked_none`; `chains_none`, `chains_more`.
use Prim.Native.Nat.{ℕ, ◌+◌, ◌-◌, ◌≤◌, ◌<◌}
use mathlib.Core.Path.{◌≡◌, sym, ap, ◌∙◌, subst}
use mathlib.Core.Logic.{◌≢◌}
use mathlib.Core.Bool.{true, false}
use mathlib.Core.List.{List}
use native.Mathlib.Omega.{arith}
use lib.ListN.{length, get_or, set, length-set}
use lib.Seq.{get_or-set_same, get_or-set_other}
use Rattle.model.specs.Faces.{same_four}
use Rattle.theorems.proofs.Lists.Scan.{test, if_eq, if_lt}
use Rattle.vtk_faces.specs.Hashes.{hash_of}
use Rattle.vtk_faces.specs.Chains.{Last, Chains, Found}
use Rattle.vtk_faces.proofs.Hashes.{hash_same}

-- ---- a chain is looked through

-- none of the first m faces from the entry e on has the same four vertices as r, and e has the hash h
pub record Looked (F : ℕ → List ℕ) (m h : ℕ) (r : List ℕ) (e : ℕ) : Type 0 where
  pub low : e ≤ m
  pub is : 0 < e → hash_of (F (e - 1)) ≡ h
  pub above : (p : ℕ) → e ≤ p → p < m → same_four (F p) r ≡ false

module _ (F : ℕ → List ℕ) (long : (p : ℕ) → 0 < length (F p)) (r : List ℕ) (some : 0 < length r) where
  -- another hash, other vertices
  hash_apart : (p h : ℕ) → h ≡ hash_of r → hash_of (F p) ≢ h → same_four (F p) r ≡ false
  hash_apart p h e n =
      test (same_four (F p) r) (λ q. absurd (n (hash_same (F p) r (long p) some q ∙ sym e))) (λ q. q)

  module _ (m h : ℕ) (hash : h ≡ hash_of r) where
    last_looked : (e : ℕ) → Last F m h e → Looked F m h r e
    last_looked e l = record {
      low = l.low;
      is = l.is;
      above = λ p a b. hash_apart p h hash (l.above p a b);
    }

    module _ (heads nexts : List ℕ) (C : Chains F m heads nexts) where
      pub looked_first : h < 16384 → Looked F m h r (get_or heads h 0)
      looked_first low = last_looked _ (C.head h low)

      pub looked_next : (e : ℕ) → Looked F m h r e → 0 < e → same_four (F (e - 1)) r ≡ false → Looked F m h r (get_or nexts e 0)
      looked_next e L on here =
          let p = e - 1 in
          let entry : p + 1 ≡ e = omega arith in
          let low = L.low in
          let l = subst (λ (k : ℕ). Last F p (hash_of (F p)) (get_or nexts k 0)) entry (C.next p (omega arith)) in
          let few = l.low in
          record {
            low = omega arith;
            is = λ s. l.is s ∙ L.is on;
            above = λ q a b. if_lt q p (λ s. hash_apart q h hash (λ z. l.above q a s (z ∙ sym (L.is on))))
                (λ s. if_eq q p (λ z. rw z here) (λ z. L.above q (omega arith) b));
          }

      -- the next entry is a lower one
      pub next_less : (e : ℕ) → e ≤ m → 0 < e → get_or nexts e 0 < e
      next_less e few on =
          let entry : e - 1 + 1 ≡ e = omega arith in
          let low = subst (λ (k : ℕ). get_or nexts k 0 ≤ e - 1) entry (C.next (e - 1) (omega arith)).low in
          omega arith

    pub looked_found : (e : ℕ) → Looked F m h r e → same_four (F (e - 1)) r ≡ true → 0 < e → Found F m r e
    looked_found e L s on = record { low = L.low; none = λ z. absurd (omega arith); same = λ _. s }

    pub looked_none : (e : ℕ) → Looked F m h r e → e ≡ 0 → Found F m r 0
    looked_none e L z = record {
      low = omega arith;
      none = λ _ p b. L.above p (omega arith) b;
      same = λ on. absurd (omega arith);
    }

-- ---- a face is put in

module _ (F : ℕ → List ℕ) where
  pub chains_none : (heads nexts : List ℕ) → length heads ≡ 16384 → ((h : ℕ) → h < 16384 → get_or heads h 0 ≡ 0)
      → 0 < length nexts → Chains F 0 heads nexts
  chains_none heads nexts wide clear long = record {
    heads_long = wide;
    nexts_long = long;
    head = λ h low. rw (clear h low) (record {
      low = omega arith;
      is = λ s. absurd (omega arith);
      above = λ p a b. absurd (omega arith);
    });
    next = λ p b. absurd (omega arith);
  }

  module _ (i h : ℕ) (heads nexts : List ℕ) (C : Chains F i heads nexts) (hash : h ≡ hash_of (F i)) (low : h < 16384)
      (room : i + 1 < length nexts) where
    own_last : Last F (i + 1) h (i + 1)
    own_last =
        let same : i + 1 - 1 ≡ i = omega arith in
        record {
          low = omega arith;
          is = λ _. ap (λ (k : ℕ). hash_of (F k)) same ∙ sym hash;
          above = λ p a b. absurd (omega arith);
        }

    other_last : (k e : ℕ) → k ≢ h → Last F i k e → Last F (i + 1) k e
    other_last k e n l =
        let few = l.low in
        record {
          low = omega arith;
          is = l.is;
          above = λ p a b. if_eq p i (λ z q. n (sym q ∙ ap (λ (x : ℕ). hash_of (F x)) z ∙ sym hash)) (λ z. l.above p a (omega arith));
        }

    pub chains_more : Chains F (i + 1) (set heads h (i + 1)) (set nexts (i + 1) (get_or heads h 0))
    chains_more =
        let wide = C.heads_long in
        let same_next = length-set nexts (i + 1) (get_or heads h 0) in
        record {
          heads_long = length-set heads h (i + 1) ∙ C.heads_long;
          nexts_long = omega arith;
          head = λ k b. if_eq k h (λ z. rw (z, get_or-set_same heads h (i + 1) 0 (omega arith)) own_last)
              (λ z. rw (get_or-set_other heads h k (i + 1) 0 z) (other_last k _ z (C.head k b)));
          next = λ p b. if_eq p i
              (λ z. rw (z, get_or-set_same nexts (i + 1) (get_or heads h 0) 0 room)
              (subst (λ (x : ℕ). Last F i x (get_or heads h 0)) hash (C.head h low)))
              (λ z. rw (get_or-set_other nexts (i + 1) (p + 1) (get_or heads h 0) 0 (λ q. z (omega arith))) (C.next p (omega arith)));
        }
