-- One more face is judged: it has the four vertices of none before it, of one, or of two.
-- Main theorems: `met_none`, `steps`.
use Prim.Native.Nat.{ℕ, ◌+◌, ◌-◌, ◌/◌, ◌≤◌, ◌<◌}
use mathlib.Core.Path.{◌≡◌, refl, sym, ap, ◌∙◌, subst}
use mathlib.Core.Logic.{◌⊎◌, inl, inr, ◌≢◌, ⊎_elim}
use mathlib.Core.Bool.{Bool, true, false}
use mathlib.Core.List.{List}
use native.Mathlib.Omega.{arith}
use lib.ListN.{length, get_or}
use lib.Seq.{get_or-set_same, get_or-set_other}
use Rattle.model.specs.Faces.{same_four, same_order}
use Rattle.theorems.proofs.Lists.Scan.{test, clash, if_eq, if_lt}
use Rattle.theorems.proofs.Vtk.Faces.{four_back, four_on}
use Rattle.vtk_faces.specs.Chains.{Found}
use Rattle.vtk_faces.specs.Judged.{ThreeOf, Mate, Judged, order_number, Met, Stepped}

-- no entry meets a face
pub met_none : (agree : Bool) (mark : ℕ) (mates : List ℕ) → Met 0 agree mark mates mates 0
met_none agree mark mates = record {
  long = refl;
  alone = λ _. (refl, refl);
  third = λ on. absurd (omega arith);
  pair = λ on. absurd (omega arith);
}

module _ (F : ℕ → List ℕ) where
  abbrev Same : ℕ → ℕ → Type 0
  Same p q = same_four (F p) (F q) ≡ true

  back : (p q : ℕ) → Same p q → Same q p
  back p q h = four_back (F p) (F q) h

  on : (p q r : ℕ) → Same p q → Same q r → Same p r
  on p q r h k = four_on (F p) (F q) (F r) h k

  not_same : (p q : ℕ) → (Same p q → ⊥) → same_four (F p) (F q) ≡ false
  not_same p q n = test (same_four (F p) (F q)) (λ e. absurd (n e)) (λ e. e)

  -- F i is the next; the first m were in, the first k will be: F i with them, or not
  module _ (m i k : ℕ) (mates after : List ℕ) (J : Judged F m i mates) (more : m ≤ k) (next : k ≤ i + 1) (own : m < k → m ≡ i)
      (room : k < length after) where
    -- the positions that are in: as before, or i
    in_cases : (P : ℕ → Type 0) (p : ℕ) → p < k → (p < m → P p) → (m ≡ i → i < k → P i) → P p
    in_cases P p b f g = if_lt p m f (λ a. subst P (omega (arith, own (omega arith))) (g (own (omega arith)) (omega (arith, own (omega arith)))))

    mate_more : (p word : ℕ) → p < m → Mate F m i p word → Mate F k (i + 1) p word
    mate_more p word b M =
        let low = M.low in
        record {
          q = M.q;
          low = omega arith;
          other = M.other;
          same = M.same;
          which = ⊎_elim (λ e. inl e) (λ e. if_lt M.q k (λ l. absurd (omega (arith, own (omega arith)))) (λ l. inr l)) M.which;
        }

    mate_stays : (p : ℕ) → p < m → get_or after (p + 1) 0 ≡ get_or mates (p + 1) 0 → 0 < get_or after (p + 1) 0
        → Mate F k (i + 1) p (get_or after (p + 1) 0)
    mate_stays p s e z = subst (Mate F k (i + 1) p) (sym e) (mate_more p _ s (J.paired p s (omega arith)))

    -- none that was in has the same four vertices
    module _ (none : (p : ℕ) → p < m → same_four (F p) (F i) ≡ false)
        (stays : (p : ℕ) → p < m → get_or after (p + 1) 0 ≡ get_or mates (p + 1) 0) (zero : i < k → get_or after (i + 1) 0 ≡ 0) where
      lone_goes : Judged F k (i + 1) after
      lone_goes =
          let inside = J.within in
          record {
            within = next;
            long = room;
            alone = λ p b z q l n. in_cases (λ p. get_or after (p + 1) 0 ≡ 0 → q ≢ p → same_four (F p) (F q) ≡ false) p b
                (λ s z n. if_eq q i (λ e. rw e (none p s)) (λ e. J.alone p s (sym (stays p s) ∙ z) q (omega arith) n))
                (λ e ik z n. not_same i q (λ h. clash (back i q h) (none q (omega arith)))) z n;
            paired = λ p b z. in_cases (λ p. 0 < get_or after (p + 1) 0 → Mate F k (i + 1) p (get_or after (p + 1) 0)) p b
                (λ s z. mate_stays p s (stays p s) z)
                (λ e ik z. absurd (let o = zero ik in omega arith)) z;
            no_three = λ p q r b pq qr ri two three. if_lt p m
                (λ s. if_eq r i (λ e. clash (subst (Same p) e three) (none p s)) (λ e. J.no_three p q r s pq qr (omega arith) two three))
                (λ s. absurd (omega (arith, own (omega arith))));
          }

    -- F p has, and had no mate
    module _ (p : ℕ) (b : p < m) (same : Same p i) (was : get_or mates (p + 1) 0 ≡ 0) where
      -- it is the only one
      only : (q : ℕ) → q < i → Same q i → q ≡ p
      only q l h =
          if_eq q p (λ e. e) (λ e. absurd (clash (on p i q same (back q i h)) (J.alone p b was q l e)))

      module _ (mark : 0 < get_or after (p + 1) 0) (which : (get_or after (p + 1) 0 / 8 ≡ i + 1) ⊎ (k ≤ i))
          (stays : (q : ℕ) → q < m → q ≢ p → get_or after (q + 1) 0 ≡ get_or mates (q + 1) 0)
          (mine : i < k → get_or after (i + 1) 0 / 8 ≡ p + 1) where
        abbrev inside : m ≤ i
        inside = J.within

        alone_else : (q : ℕ) → q < m → q ≢ p → get_or after (q + 1) 0 ≡ 0 → (r : ℕ) → r < i + 1 → r ≢ q → same_four (F q) (F r) ≡ false
        alone_else q s n z r l d = if_eq r i (λ e. rw e (not_same q i (λ h. n (only q (omega arith) h))))
            (λ e. J.alone q s (sym (stays q s n) ∙ z) r (omega arith) d)

        pair_goes : Judged F k (i + 1) after
        pair_goes = record {
          within = next;
          long = room;
          alone = λ q l z r h n. in_cases (λ q. get_or after (q + 1) 0 ≡ 0 → r ≢ q → same_four (F q) (F r) ≡ false) q l
              (λ s z n. if_eq q p
              (λ e. absurd (let w : 0 < get_or after (q + 1) 0 = rw e mark in omega arith))
              (λ e. alone_else q s e z r h n)) (λ e ik z n. absurd (let w = mine ik in omega arith)) z n;
          paired = λ q l z. in_cases (λ q. 0 < get_or after (q + 1) 0 → Mate F k (i + 1) q (get_or after (q + 1) 0)) q l
              (λ s z. if_eq q p (λ e. own_mate q e) (λ e. mate_stays q s (stays q s e) z))
              (λ e ik z. new_mate (mine ik)) z;
          no_three = λ q r s l qr rs si two three. if_lt q m
              (λ h. if_eq s i (λ e. third q r h qr (omega arith) two (subst (Same q) e three))
              (λ e. J.no_three q r s h qr rs (omega arith) two three)) (λ h. absurd (omega (arith, own (omega arith))));
        }
          where
            own_mate : (q : ℕ) → q ≡ p → Mate F k (i + 1) q (get_or after (q + 1) 0)
            own_mate q e = record {
              q = i;
              low = omega arith;
              other = λ d. absurd (omega arith);
              same = rw e same;
              which = rw e which;
            }

            new_mate : get_or after (i + 1) 0 / 8 ≡ p + 1 → Mate F k (i + 1) i (get_or after (i + 1) 0)
            new_mate w = record {
              q = p;
              low = omega arith;
              other = λ d. absurd (omega arith);
              same = back p i same;
              which = inl w;
            }

            third : (q r : ℕ) → q < m → q < r → r < i → Same q r → Same q i → ⊥
            third q r h qr ri two three =
                let qp = only q (omega arith) three in
                let rp = only r ri (on r q i (back q r two) three) in
                omega arith

  -- where F p has the same four vertices and had a mate
  third_three : (m i : ℕ) (mates : List ℕ) → Judged F m i mates → (p : ℕ) → p < m → Same p i → 0 < get_or mates (p + 1) 0
      → ThreeOf F (i + 1)
  third_three m i mates J p b same has =
      let inside = J.within in
      let M = J.paired p b has in
      let low = M.low in
      if_lt p M.q
      (λ l. record {
        i = p;
        j = M.q;
        k = i;
        ij = l;
        jk = low;
        low = omega arith;
        two = M.same;
        three = same;
      })
      (λ l. record {
        i = M.q;
        j = p;
        k = i;
        ij = let n = M.other in if_eq M.q p (λ e. absurd (n e)) (λ e. omega arith);
        jk = omega arith;
        low = omega arith;
        two = back p M.q M.same;
        three = on M.q p i (back p M.q M.same) same;
      })

  -- F i is judged: the entry e that is found has met it, and then the mates of the first k are in `after`
  module _ (m i k : ℕ) (mates mid after : List ℕ) (J : Judged F m i mates) (more : m ≤ k) (next : k ≤ i + 1) (own : m < k → m ≡ i)
      (room : k < length after) (e mark number : ℕ) (found : Found F m (F i) e) (agree : Bool)
      (met : Met e agree mark mates mid number) (order : 0 < e → agree ≡ same_order (F (e - 1)) (F i))
      (some : 0 < mark) (marked : (mark / 8 ≡ i + 1) ⊎ (k ≤ i))
      (stays : (p : ℕ) → p < m → get_or after (p + 1) 0 ≡ get_or mid (p + 1) 0)
      (mine : i < k → (e ≡ 0 → get_or after (i + 1) 0 ≡ 0) × (get_or after (i + 1) 0 / 8 ≡ e)) where
    was_in : (p : ℕ) → p < k → p < i → p < m
    was_in p b l = if_lt p m (λ s. s) (λ s. absurd (omega (arith, own (omega arith))))

    -- none has the same four vertices
    step_lone : e ≡ 0 → Stepped F k i after number
    step_lone z =
        let (n, same) = met.alone z in
        record {
          is = inl n;
          third = λ t. absurd (omega arith);
          goes = λ _. lone_goes m i k mates after J more next own room (found.none z)
              (λ p b. stays p b ∙ ap (λ (l : List ℕ). get_or l (p + 1) 0) same) (λ l. (mine l).0 z);
          agree = λ _ p b l h. absurd (clash h (found.none z p (was_in p b l)));
          differ = λ d. absurd (d n);
        }

    module _ (on : 0 < e) where
      abbrev p : ℕ
      p = e - 1

      entry : p + 1 ≡ e
      entry = omega arith

      low : p < m
      low = let l = found.low in omega arith

      -- one has, for the third time
      step_third : 0 < get_or mates e 0 → Stepped F k i after number
      step_third has =
          let n = met.third on has in
          record {
            is = inr (inl n);
            third = λ _. third_three m i mates J p low (found.same on) (rw entry has);
            goes = λ d. absurd (d n);
            agree = λ z. absurd (omega arith);
            differ = λ _ d. absurd (d n);
          }

      -- one has, for the second time
      module _ (free : get_or mates e 0 ≡ 0) where
        was : get_or mates (p + 1) 0 ≡ 0
        was = rw entry free

        wrote : (q : ℕ) → q ≢ p → get_or mid (q + 1) 0 ≡ get_or mates (q + 1) 0
        wrote q d = ap (λ (l : List ℕ). get_or l (q + 1) 0) (met.pair on free).0 ∙ get_or-set_other mates e (q + 1) mark 0 (λ z. d (omega arith))

        first : get_or mid (p + 1) 0 ≡ mark
        first =
            let l = J.long in
            let b = low in
            rw entry (ap (λ (l : List ℕ). get_or l e 0) (met.pair on free).0 ∙ get_or-set_same mates e mark 0 (omega arith))

        goes_on : Judged F k (i + 1) after
        goes_on =
            let word : get_or after (p + 1) 0 ≡ mark = stays p low ∙ first in
            pair_goes m i k mates after J more next own room p low (found.same on) was (omega arith)
            (⊎_elim (λ q. inl (ap (λ (w : ℕ). w / 8) word ∙ q)) inr marked)
            (λ q b d. stays q b ∙ wrote q d) (λ l. (mine l).1 ∙ sym entry)

        number_is : number ≡ order_number (same_order (F p) (F i))
        number_is = (met.pair on free).1 ∙ ap order_number (order on)

        step_pair : Stepped F k i after number
        step_pair =
            test (same_order (F p) (F i))
            (λ q.
            let n : number ≡ 0 = number_is ∙ ap order_number q in
            record {
              is = inl n;
              third = λ t. absurd (omega arith);
              goes = λ _. goes_on;
              agree = λ _ r b l h.
                  rw (only m i k mates after J more next own room p low (found.same on) was r l h) q;
              differ = λ d. absurd (d n);
            })
            (λ q.
            let n : number ≡ 23 = number_is ∙ ap order_number q in
            let inside = J.within in
            let b = low in
            record {
              is = inr (inr n);
              third = λ t. absurd (omega arith);
              goes = λ _. goes_on;
              agree = λ z. absurd (omega arith);
              differ = λ _ _. record {
                i = p;
                j = i;
                ij = omega arith;
                low = omega arith;
                four = found.same on;
                order = q;
              };
            })

    pub steps : Stepped F k i after number
    steps = if_eq e 0 step_lone (λ d. let on : 0 < e = omega arith in
        if_eq (get_or mates e 0) 0 (step_pair on) (λ f. step_third on (omega arith)))
