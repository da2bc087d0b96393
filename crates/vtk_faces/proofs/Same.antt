-- What is known of faces holds of others that are equal to them.
-- Main theorem: `ran_same`.
use Prim.Native.Nat.{ℕ, ◌≤◌, ◌<◌}
use mathlib.Core.Path.{◌≡◌, sym, ap₂, ◌∙◌}
use mathlib.Core.List.{List}
use native.Mathlib.Omega.{arith}
use Rattle.model.specs.Faces.{same_four, same_order}
use Rattle.vtk_faces.specs.Judged.{ThreeOf, OtherOf, Mate, Judged, Ordered, State, Ran}

module _ (F G : ℕ → List ℕ) (n : ℕ) (same : (p : ℕ) → p < n → F p ≡ G p) where
  four : (p q : ℕ) → p < n → q < n → same_four (F p) (F q) ≡ same_four (G p) (G q)
  four p q a b = ap₂ same_four (same p a) (same q b)

  order : (p q : ℕ) → p < n → q < n → same_order (F p) (F q) ≡ same_order (G p) (G q)
  order p q a b = ap₂ same_order (same p a) (same q b)

  three_same : ThreeOf F n → ThreeOf G n
  three_same T =
      let low = T.low in
      let ij = T.ij in
      let jk = T.jk in
      record {
        i = T.i;
        j = T.j;
        k = T.k;
        ij = ij;
        jk = jk;
        low = low;
        two = sym (four T.i T.j (omega arith) (omega arith)) ∙ T.two;
        three = sym (four T.i T.k (omega arith) low) ∙ T.three;
      }

  other_same : OtherOf F n → OtherOf G n
  other_same T =
      let low = T.low in
      let ij = T.ij in
      record {
        i = T.i;
        j = T.j;
        ij = ij;
        low = low;
        four = sym (four T.i T.j (omega arith) low) ∙ T.four;
        order = sym (order T.i T.j (omega arith) low) ∙ T.order;
      }

  module _ (m : ℕ) (mates : List ℕ) where
    mate_same : (p word : ℕ) → p < n → Mate F m n p word → Mate G m n p word
    mate_same p word b M =
        let low = M.low in
        record { q = M.q; low = low; other = M.other; same = sym (four p M.q b low) ∙ M.same; which = M.which }

    judged_same : Judged F m n mates → Judged G m n mates
    judged_same J =
        let inside = J.within in
        record {
          within = inside;
          long = J.long;
          alone = λ p b z q l d. sym (four p q (omega arith) l) ∙ J.alone p b z q l d;
          paired = λ p b z. mate_same p _ (omega arith) (J.paired p b z);
          no_three = λ p q r b pq qr rn two three. J.no_three p q r b pq qr rn
              (four p q (omega arith) (omega arith) ∙ two) (four p r (omega arith) rn ∙ three);
        }

    ordered_same : (other : ℕ) → m ≤ n → Ordered F m n other → Ordered G m n other
    ordered_same other inside O = record {
      agree = λ z p q b pq l h.
          sym (order p q (omega arith) l) ∙ O.agree z p q b pq l (four p q (omega arith) l ∙ h);
      differ = λ d. other_same (O.differ d);
    }

    state_same : (other : ℕ) → State F m n mates other → State G m n mates other
    state_same other S = record {
      judged = judged_same S.judged;
      ordered = ordered_same other S.judged.within S.ordered;
      still = S.still;
    }

    pub ran_same : (number : ℕ) → Ran F m n mates number → Ran G m n mates number
    ran_same number R = record {
      three = λ e. three_same (R.three e);
      goes = λ d. state_same number (R.goes d);
    }
