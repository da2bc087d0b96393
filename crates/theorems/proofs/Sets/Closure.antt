-- The computed closure is the least set that holds the seeds and is closed under the steps.
-- Main theorems: `closure_least`; `marked_in` (what is marked is a slot).
use Prim.Native.Nat.{ℕ, zero, suc, ◌+◌, ◌*◌, ◌≤◌, ◌<◌}
use mathlib.Core.Path.{◌≡◌, refl, sym, ap, ◌∙◌}
use mathlib.Core.Logic.{◌⊎◌, inl, inr, ⊎_elim}
use mathlib.Core.Bool.{false}
use mathlib.Core.List.Memᴰ.{cases_cons as in-cons}
use mathlib.Core.List.Memᴰ.{not-nil}
use mathlib.Core.List.{List, [], ◌∷◌, ◌++◌, Memᴰ as In}
use mathlib.Core.List.Memᴰ.{append_cases as in-append}
use mathlib.Core.List.Memᴰ.{head as here}
use mathlib.Core.List.Memᴰ.{tail as there}
use mathlib.Core.List.Memᴰ.{append_left as in_left}
use mathlib.Core.List.Memᴰ.{append_right as in_right}
use native.Mathlib.Nat.{le_refl, le_of_eq, mul-suc, not-suc-le-zero, le_of_suc-le-suc}
use native.Mathlib.Omega.{arith}
use lib.ListN.{length, get_or, set, replicate, length-set, length-append, length-replicate}
use lib.Seq.{get_or-set_same, get_or-set_other}
use lib.Dec.{eqb}
use borrow.Author.Tests.{eq-eqb, eqb-true, eqb-false}
use Rattle.model.specs.Lists.{count}
use Rattle.model.specs.Table.{slots}
use Rattle.model.specs.Reach.{flood, steps, closure}
use Rattle.model.specs.Meaning.Sets.{Bits, Least, Marked}
use Rattle.theorems.proofs.Lists.Scan.{test, if_eq, count_change}

-- ---- lists of marks

pub marked_in : (m : List ℕ) (x : ℕ) → Marked m x → x < length m
marked_in [] x h = absurd (omega arith)
marked_in (y ∷ ys) zero h = omega arith
marked_in (y ∷ ys) (suc x) h = let r = marked_in ys x h in omega arith

pub get_or_any : (m : List ℕ) (x a b : ℕ) → x < length m → get_or m x a ≡ get_or m x b
get_or_any [] x a b h = absurd (not-suc-le-zero h)
get_or_any (y ∷ ys) zero a b h = refl
get_or_any (y ∷ ys) (suc x) a b h = get_or_any ys x a b (le_of_suc-le-suc h)

-- a dart that is found unmarked is in range
unmarked_in : (m : List ℕ) (x : ℕ) → get_or m x 1 ≡ 0 → x < length m
unmarked_in [] x h = absurd (omega arith)
unmarked_in (y ∷ ys) zero h = omega arith
unmarked_in (y ∷ ys) (suc x) h = let r = unmarked_in ys x h in omega arith

module _ (m : List ℕ) (x : ℕ) (new : get_or m x 1 ≡ 0) where
  set_marks : Marked (set m x 1) x
  set_marks = get_or-set_same m x 1 0 (unmarked_in m x new)

  set_keeps : (y : ℕ) → Marked m y → Marked (set m x 1) y
  set_keeps y p = if_eq y x (λ e. rw e set_marks) (λ e. get_or-set_other m x y 1 0 e ∙ p)

  set_only : (y : ℕ) → Marked (set m x 1) y → (y ≡ x) ⊎ Marked m y
  set_only y p = if_eq y x (λ e. inl e) (λ e. inr (sym (get_or-set_other m x y 1 0 e) ∙ p))

  set_bits : Bits m → Bits (set m x 1)
  set_bits b y = if_eq y x (λ e. inr (rw e set_marks)) (λ e. rw (get_or-set_other m x y 1 0 e) (b y))

-- a dart in range that is not found unmarked is marked
bits_marked : (m : List ℕ) (x : ℕ) → Bits m → (get_or m x 1 ≡ 0 → ⊥) → x < length m → Marked m x
bits_marked m x b old l = ⊎_elim (λ e. absurd (old (get_or_any m x 1 0 l ∙ e))) (λ e. e) (b x)

-- ---- the search

module _ (f : ℕ → List ℕ) where
  flood_new : (k x : ℕ) (todo m : List ℕ) → get_or m x 1 ≡ 0 → flood f (suc k) (x ∷ todo) m ≡ flood f k (f x ++ todo) (set m x 1)
  unfolding flood
  flood_new k x todo m e = rw (eq-eqb _ _ e, flood)

  flood_old : (k x : ℕ) (todo m : List ℕ) → eqb (get_or m x 1) 0 ≡ false → flood f (suc k) (x ∷ todo) m ≡ flood f k todo m
  unfolding flood
  flood_old k x todo m e = rw (e, flood)

  flood_nil : (k : ℕ) (m : List ℕ) → flood f k [] m ≡ m
  unfolding flood
  flood_nil zero m = refl
  flood_nil (suc k) m = refl

  flood_zero : (todo m : List ℕ) → flood f zero todo m ≡ m
  unfolding flood
  flood_zero todo m = refl

  -- whatever holds of the darts to do and of those marked, and is kept by a step from a slot, holds of all that is found
  module _ (n : ℕ) (P : ℕ → Type 0) (kept : (x y : ℕ) → x < n → P x → In y (f x) → P y) where
    abbrev Found : ℕ → Type 0
    Found k = (todo m : List ℕ) → length m ≡ n → ((x : ℕ) → In x todo → P x) → ((x : ℕ) → Marked m x → P x)
        → (x : ℕ) → Marked (flood f k todo m) x → P x

    flood_sound : (k : ℕ) → Found k
    flood_sound zero todo m l ht hm x h = hm x (rw flood_zero at h)
    flood_sound (suc k) [] m l ht hm x h = hm x (rw flood_nil at h)
    flood_sound (suc k) (z ∷ todo) m l ht hm x h =
        let rec = flood_sound k in
        test (eqb (get_or m z 1) 0) (λ e. new rec (eqb-true _ _ e)) (old rec)
      where
        p_z : P z
        p_z = ht z (here refl)

        new : Found k → get_or m z 1 ≡ 0 → P x
        new rec e = rec (f z ++ todo) (set m z 1) (length-set m z 1 ∙ l)
            (λ y i. ⊎_elim (kept z y (rw l at (unmarked_in m z e)) p_z) (λ j. ht y (there j)) (in-append (f z) i))
            (λ y p. ⊎_elim (λ q. rw q p_z) (hm y) (set_only m z e y p)) x (rw (flood_new k z todo m e) at h)

        old : Found k → eqb (get_or m z 1) 0 ≡ false → P x
        old rec e = rec todo m l (λ y i. ht y (there i)) hm x (rw (flood_old k z todo m e) at h)

  -- what a search leaves: as many marks, those that were there, those to do, and they are closed
  record Done (todo m r : List ℕ) : Type 0 where
    long : length r ≡ length m
    bits : Bits r
    keeps : (x : ℕ) → Marked m x → Marked r x
    holds : (x : ℕ) → In x todo → x < length m → Marked r x
    closed : (x y : ℕ) → Marked r x → In y (f x) → y < length m → Marked r y

  -- the marks are closed, up to the darts to do
  abbrev Upto : List ℕ → List ℕ → Type 0
  Upto todo m = (x y : ℕ) → Marked m x → In y (f x) → y < length m → Marked m y ⊎ In y todo

  none_done : (m : List ℕ) → Bits m → Upto [] m → Done [] m m
  none_done m bs up = record {
    long = refl;
    bits = bs;
    keeps = λ x h. h;
    holds = λ x i. absurd (not-nil i);
    closed = λ x y h i l. ⊎_elim (λ p. p) (λ j. absurd (not-nil j)) (up x y h i l);
  }

  module _ (z : ℕ) (todo m : List ℕ) where
    -- z is marked already
    module _ (old : z < length m → Marked m z) where
      old_up : Upto (z ∷ todo) m → Upto todo m
      old_up up x y h i l = ⊎_elim inl (λ j. ⊎_elim (λ e. inl (rw e (old (rw e at l)))) inr (in-cons j)) (up x y h i l)

      old_done : (r : List ℕ) → Done todo m r → Done (z ∷ todo) m r
      old_done r d = record {
        long = d.long;
        bits = d.bits;
        keeps = d.keeps;
        holds = λ x i l. ⊎_elim (λ e. d.keeps x (rw e (old (rw e at l)))) (λ j. d.holds x j l) (in-cons i);
        closed = d.closed;
      }

    -- z is new
    module _ (new : get_or m z 1 ≡ 0) where
      new_up : Upto (z ∷ todo) m → Upto (f z ++ todo) (set m z 1)
      new_up up x y h i l = ⊎_elim (λ e. inr (in_left todo (rw e at i))) other (set_only m z new x h)
        where
          later : In y (z ∷ todo) → Marked (set m z 1) y ⊎ In y (f z ++ todo)
          later j = ⊎_elim (λ e. inl (rw e (set_marks m z new))) (λ k. inr (in_right (f z) k)) (in-cons j)

          other : Marked m x → Marked (set m z 1) y ⊎ In y (f z ++ todo)
          other p = ⊎_elim (λ q. inl (set_keeps m z new y q)) later (up x y p i (rw length-set at l))

      new_done : (r : List ℕ) → Done (f z ++ todo) (set m z 1) r → Done (z ∷ todo) m r
      new_done r d = record {
        long = d.long ∙ length-set m z 1;
        bits = d.bits;
        keeps = λ x h. d.keeps x (set_keeps m z new x h);
        holds = λ x i l.
            let later : In x todo → Marked r x = λ j. d.holds x (in_right (f z) j) (rw length-set l) in
            ⊎_elim (λ e. d.keeps x (rw e (set_marks m z new))) later (in-cons i);
        closed = λ x y h i l. d.closed x y h i (rw length-set l);
      }

  -- the fuel is enough where each dart has at most b steps
  module _ (b : ℕ) (short : (x : ℕ) → length (f x) ≤ b) where
    abbrev Enough : ℕ → List ℕ → List ℕ → Type 0
    Enough k todo m = length todo + b * count 0 m ≤ k

    less : (k z : ℕ) (todo m : List ℕ) → get_or m z 1 ≡ 0 → Enough (suc k) (z ∷ todo) m → Enough k (f z ++ todo) (set m z 1)
    less k z todo m e fuel =
        let c = count_change 0 1 m z 1 (unmarked_in m z e) e (λ (q : ◌≡◌ {A = ℕ} 1 0). omega arith) in
        let s = short z in
        let p : b * count 0 m ≡ b * count 0 (set m z 1) + b = ap (λ (n : ℕ). b * n) c ∙ mul-suc b (count 0 (set m z 1)) in
        rw length-append (omega arith)

    flood_done : (k : ℕ) (todo m : List ℕ) → Enough k todo m → Bits m → Upto todo m → Done todo m (flood f k todo m)
    flood_done zero [] m fuel bs up = rw flood_zero (none_done m bs up)
    flood_done (suc k) [] m fuel bs up = rw flood_nil (none_done m bs up)
    flood_done zero (z ∷ todo) m fuel bs up = absurd (omega arith)
    flood_done (suc k) (z ∷ todo) m fuel bs up =
        let rec = flood_done k in
        test (eqb (get_or m z 1) 0) (λ e. new rec (eqb-true _ _ e)) (old rec)
      where
        After : Type 0
        After = Done (z ∷ todo) m (flood f (suc k) (z ∷ todo) m)

        Rest : Type 0
        Rest = (todo m : List ℕ) → Enough k todo m → Bits m → Upto todo m → Done todo m (flood f k todo m)

        new : Rest → get_or m z 1 ≡ 0 → After
        new rec e =
            let r = rec (f z ++ todo) (set m z 1) (less k z todo m e fuel) (set_bits m z e bs) (new_up z todo m e up) in
            rw (flood_new k z todo m e) (new_done z todo m e _ r)

        old : Rest → eqb (get_or m z 1) 0 ≡ false → After
        old rec e =
            let hz = bits_marked m z bs (eqb-false (get_or m z 1) 0 e) in
            rw (flood_old k z todo m e) (old_done z todo m hz _ (rec todo m (omega arith) bs (old_up z todo m hz up)))

-- ---- the closure

zeros_bits : (n : ℕ) → Bits (replicate n 0)
zeros_bits zero i = inl refl
zeros_bits (suc n) zero = inl refl
zeros_bits (suc n) (suc i) = zeros_bits n i

pub none_marked : (n x : ℕ) → Marked (replicate n 0) x → ⊥
none_marked zero x h = absurd (omega arith)
none_marked (suc n) zero h = absurd (omega arith)
none_marked (suc n) (suc x) h = none_marked n x h

count_zeros : (n : ℕ) → count 0 (replicate n 0) ≡ n
unfolding count
count_zeros zero = refl
count_zeros (suc n) = ap suc (count_zeros n)

length_steps : (t : List ℕ) (ws : List (List ℕ)) (x : ℕ) → length (steps t ws x) ≡ length ws
unfolding steps
length_steps t [] x = refl
length_steps t (w ∷ ws) x = ap suc (length_steps t ws x)

pub closure_least : (t : List ℕ) (ws : List (List ℕ)) (seeds : List ℕ)
    → Least (steps t ws) (slots t) seeds (closure t ws seeds)
unfolding closure
closure_least t ws seeds = record {
  long = long;
  bits = done.bits;
  holds = λ x i h. done.holds x i (rw zeros h);
  closed = λ x y h i l. done.closed x y h i (rw zeros l);
  within = λ P hs kept x h.
      flood_sound (steps t ws) n (λ y. y < n → P y) (λ y z b p i c. kept y z b (p b) i c) fuel seeds empty zeros hs
      (λ y p. absurd (none_marked n y p)) x h (inside x h);
}
  where
    n : ℕ
    n = slots t

    empty : List ℕ
    empty = replicate n 0

    fuel : ℕ
    fuel = length seeds + length ws * n

    zeros : length empty ≡ n
    zeros = length-replicate n 0

    done : Done (steps t ws) seeds empty (flood (steps t ws) fuel seeds empty)
    done = flood_done (steps t ws) (length ws) (λ x. le_of_eq (length_steps t ws x)) fuel seeds empty
        (rw count_zeros (le_refl fuel)) (zeros_bits n) (λ x y h. absurd (none_marked n x h))

    long : length (flood (steps t ws) fuel seeds empty) ≡ n
    long = done.long ∙ zeros

    inside : (x : ℕ) → Marked (flood (steps t ws) fuel seeds empty) x → x < n
    inside x h = rw long at (marked_in (flood (steps t ws) fuel seeds empty) x h)
