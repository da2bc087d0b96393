-- What is found of the faces by their positions is what 22 and 23 say.
-- Main theorems: `verdict_three`; `upto_none`, `upto_more`, `upto_three`, `upto_verdict`; `block_verdict`.
use Prim.Native.Nat.{ℕ, ◌+◌, ◌*◌, ◌-◌, ◌/◌, ◌%◌, ◌≤◌, ◌<◌}
use mathlib.Core.Path.{◌≡◌, refl, sym, ap, ap₂, ◌∙◌, subst}
use mathlib.Core.Logic.{◌⊎◌, inl, inr, ◌≢◌, ⊎_elim}
use mathlib.Core.Bool.{Bool, true, false}
use mathlib.Core.List.{List}
use native.Mathlib.Omega.{arith}
use lib.ListN.{length, get_or}
use Rattle.model.specs.Faces.{round, same_four, same_order, round_at}
use Rattle.model.specs.Checks.{pass, refuse, must, sharing_ok, order_ok}
use Rattle.model.specs.Meaning.Vtk.{face_at, Three, OtherOrder, Hexahedra}
use Rattle.theorems.proofs.Lists.Scan.{clash, if_eq, if_lt}
use Rattle.theorems.proofs.Vtk.Three.{passes_three, three_passes}
use Rattle.theorems.proofs.Vtk.Other.{passes_other, other_passes}
use Rattle.vtk_faces.specs.Buffers.{MateAt, Mated}
use Rattle.vtk_faces.specs.Faces.{held_row, held_face}
use Rattle.vtk_faces.specs.Walks.{walk_at, walk_dart}
use Rattle.vtk_faces.specs.Turns.{held_round}
use Rattle.vtk_faces.specs.Judged.{Mate, State, Ran}
use Rattle.vtk_faces.specs.Blocks.{CellsIn, Verdict, JudgedCells, Block}
use Rattle.vtk_faces.specs.Texts.{face_from}
use Rattle.vtk_faces.proofs.Walks.{dart_cell, dart_place}
use Rattle.vtk_faces.proofs.Held.{held_face_lem}
use Rattle.vtk_faces.proofs.Same.{ran_same}

-- what does not pass is refused
must_refuses : (b : Bool) (k : ℕ) → (must b k ≡ pass → ⊥) → must b k ≡ refuse k 0 0
unfolding must
must_refuses true k n = absurd (n refl)
must_refuses false k n = refl

module _ (rows : List (List ℕ)) (H : Hexahedra rows) where
  pub verdict_three : Three rows → Verdict rows 22
  unfolding sharing_ok
  verdict_three T = record {
    is = inr (inl refl);
    passes = λ e. absurd (omega arith);
    three = λ _. must_refuses _ 22 (λ p. passes_three rows H.once p T);
    other = λ e. absurd (omega arith);
  }

  module _ (none : Three rows → ⊥) where
    verdict_pass : (OtherOrder rows → ⊥) → Verdict rows 0
    verdict_pass n = record {
      is = inl refl;
      passes = λ _. (three_passes rows H.once none, other_passes rows n);
      three = λ e. absurd (omega arith);
      other = λ e. absurd (omega arith);
    }

    verdict_other : OtherOrder rows → Verdict rows 23
    unfolding order_ok
    verdict_other O = record {
      is = inr (inr refl);
      passes = λ e. absurd (omega arith);
      three = λ e. absurd (omega arith);
      other = λ _. (three_passes rows H.once none, must_refuses _ 23 (λ p. passes_other rows p O));
    }

-- ---- block by block

-- no face of the first d cells stands with two behind it that have the same four vertices; `other` is what is found of their orders
pub record Upto (rows : List (List ℕ)) (d other : ℕ) : Type 0 where
  pub no_three : (i j k : ℕ) → i < 6 * d → i < j → j < k → k < 6 * length rows
      → same_four (face_at rows i) (face_at rows j) ≡ true → same_four (face_at rows i) (face_at rows k) ≡ true → ⊥
  pub agree : other ≡ 0 → (i j : ℕ) → i < 6 * d → i < j → j < 6 * length rows
      → same_four (face_at rows i) (face_at rows j) ≡ true → same_order (face_at rows i) (face_at rows j) ≡ true
  pub differ : other ≢ 0 → OtherOrder rows
  pub still : (other ≡ 0) ⊎ (other ≡ 23)

module _ (rows : List (List ℕ)) where
  pub upto_none : Upto rows 0 0
  upto_none = record {
    no_three = λ i j k b. absurd (omega arith);
    agree = λ _ i j b. absurd (omega arith);
    differ = λ d. absurd (d refl);
    still = inl refl;
  }

  -- the faces from the cell d on, of which those of the first k cells are looked up
  module _ (d k n : ℕ) (whole : 6 * d + n ≡ 6 * length rows) (mates : List ℕ) (number : ℕ)
      (R : Ran (face_from rows d) (6 * k) n mates number) where
    -- the face at the position i
    from : (i : ℕ) → 6 * d ≤ i → face_from rows d (i - 6 * d) ≡ face_at rows i
    unfolding face_from
    from i l = ap (face_at rows) (omega arith)

    four_from : (i j : ℕ) → 6 * d ≤ i → 6 * d ≤ j
        → same_four (face_from rows d (i - 6 * d)) (face_from rows d (j - 6 * d)) ≡ same_four (face_at rows i) (face_at rows j)
    four_from i j a b = ap₂ same_four (from i a) (from j b)

    pub upto_three : number ≡ 22 → Three rows
    unfolding face_from
    upto_three e =
        let T = R.three e in
        let low = T.low in
        let ij = T.ij in
        let jk = T.jk in
        record {
          i = 6 * d + T.i;
          j = 6 * d + T.j;
          k = 6 * d + T.k;
          ij = omega arith;
          jk = omega arith;
          low = omega arith;
          two = T.two;
          three = T.three;
        }

    module _ (going : number ≢ 22) where
      S : State (face_from rows d) (6 * k) n mates number
      S = R.goes going

      other_from : number ≢ 0 → OtherOrder rows
      unfolding face_from
      other_from e =
          let T = S.ordered.differ e in
          let low = T.low in
          let ij = T.ij in
          record {
            i = 6 * d + T.i;
            j = 6 * d + T.j;
            ij = omega arith;
            low = omega arith;
            four = T.four;
            order = T.order;
          }

      pub upto_more : (a b : ℕ) → Upto rows d a → (a ≡ 0 → b ≡ number) × (a ≢ 0 → b ≡ a) → Upto rows (d + k) b
      upto_more a b U (first, else) = record {
        no_three = λ i j l low ij jl h two three. if_lt i (6 * d) (λ s. U.no_three i j l s ij jl h two three)
            (λ s. S.judged.no_three (i - 6 * d) (j - 6 * d) (l - 6 * d) (omega arith) (omega arith) (omega arith) (omega arith)
            (four_from i j s (omega arith) ∙ two) (four_from i l s (omega arith) ∙ three));
        agree = λ z i j low ij h four. if_eq a 0
            (λ e. if_lt i (6 * d) (λ s. U.agree e i j s ij h four)
            (λ s. sym (ap₂ same_order (from i s) (from j (omega arith)))
            ∙ S.ordered.agree (sym (first e) ∙ z) (i - 6 * d) (j - 6 * d) (omega arith) (omega arith) (omega arith)
            (four_from i j s (omega arith) ∙ four)))
            (λ e. absurd (e (sym (else e) ∙ z)));
        differ = λ z. if_eq a 0 (λ e. other_from (λ q. z (first e ∙ q))) (λ e. U.differ e);
        still = if_eq a 0 (λ e. ⊎_elim (λ q. inl (first e ∙ q)) (λ q. inr (first e ∙ q)) S.still)
            (λ e. ⊎_elim (λ q. inl (else e ∙ q)) (λ q. inr (else e ∙ q)) U.still);
      }

  pub upto_verdict : (other : ℕ) → Hexahedra rows → Upto rows (length rows) other → Verdict rows other
  upto_verdict other H U = ⊎_elim (λ z. rw z (verdict_pass rows H none (agrees z))) (λ z. rw z (verdict_other rows H none (U.differ (not_0 z)))) U.still
    where
      none : Three rows → ⊥
      none T =
          let low = T.low in
          let ij = T.ij in
          let jk = T.jk in
          U.no_three T.i T.j T.k (omega arith) ij jk low T.two T.three

      agrees : other ≡ 0 → OtherOrder rows → ⊥
      agrees z T =
          let low = T.low in
          let ij = T.ij in
          clash (U.agree z T.i T.j (omega arith) ij low T.four) T.order

      not_0 : other ≡ 23 → other ≢ 0
      not_0 z e = omega arith

-- ---- one block

module _ (buffer : List ℕ) (cells : ℕ) (rows : List (List ℕ)) (C : CellsIn buffer cells rows) where
  abbrev n : ℕ
  n = 6 * cells

  -- a face of the buffer is one of the rows
  at : (p : ℕ) → p < n → held_face buffer p ≡ face_at rows p
  at p l = let e = C.number in held_face_lem buffer rows C.held p (omega arith)

  -- and what is read there is read from the darts of the cells
  held_round_lem : (x : ℕ) → x < 48 * length rows → held_round buffer x ≡ round_at rows (walk_dart x)
  unfolding held_round held_row round_at
  held_round_lem x low = rw (dart_cell x, dart_place x) (ap (λ (row : List ℕ). round row (walk_at (x % 48))) (C.held.row (x / 48) (omega arith)))

  module _ (heads nexts mates : List ℕ) (number : ℕ) (B : Block buffer n heads nexts mates number) where
    ran_at : Ran (face_at rows) n n mates number
    ran_at = ran_same (held_face buffer) (face_at rows) n at n mates number B.ran

    ran_from : Ran (face_from rows 0) n n mates number
    unfolding face_from
    ran_from = ran_same (face_at rows) (face_from rows 0) n (λ p _. ap (face_at rows) (omega arith)) n mates number ran_at

    verdict : Verdict rows number
    verdict =
        let e = C.number in
        let whole : 6 * 0 + n ≡ 6 * length rows = omega arith in
        if_eq number 22
        (λ z. rw z (verdict_three rows C.hexahedra (upto_three rows 0 cells n whole mates number ran_from z)))
        (λ z. upto_verdict rows number C.hexahedra (subst (λ (d : ℕ). Upto rows d number) (omega arith)
        (upto_more rows 0 cells n whole mates number ran_from z 0 number (upto_none rows) (λ _. refl, λ d. absurd (d refl)))))

    mated : number ≡ 0 → Mated rows mates
    mated z =
        let e = C.number in
        let J = (ran_at.goes (λ d. absurd (omega arith))).judged in
        let long = J.long in
        record {
          long = omega arith;
          alone = λ p l z q k d. J.alone p (omega arith) z q (omega arith) d;
          two = λ p l d. mate p (omega arith) (J.paired p (omega arith) (omega arith));
        }
      where
        mate : (p : ℕ) → p < n → Mate (face_at rows) n n p (get_or mates (p + 1) 0)
            → (x : ℕ) × (get_or mates (p + 1) 0 ≡ x + 8) × MateAt rows p x
        mate p l M =
            let e = C.number in
            let low = M.low in
            ⊎_elim (λ q.
            let x = get_or mates (p + 1) 0 - 8 in
            let word : get_or mates (p + 1) 0 ≡ x + 8 = omega arith in
            let face : x / 8 ≡ M.q = omega arith in (
              x,
              word,
              record {
                low = omega arith;
                other = λ d. M.other (sym face ∙ d);
                four = rw face M.same;
                same = sym (held_round_lem x (omega arith)) ∙ sym (B.turned z p x l word) ∙ at p l;
              },
            )) (λ q. absurd (omega arith)) M.which

    pub block_verdict : JudgedCells rows mates number
    block_verdict = record { verdict = verdict; mated = mated }
