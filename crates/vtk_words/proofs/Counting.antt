-- Numbers and rows of words, by what the first word is as a number.
-- `numbers_more`, `rows_more`: what is read where the first word is a number; `numbers_first`, `rows_first`: what was read began with one.
use Prim.Native.Nat.{ℕ, zero, suc, ◌-◌, ◌<◌}
use mathlib.Core.Path.{◌≡◌, refl, sym, ap, ◌∙◌}
use mathlib.Core.Bool.{true}
use mathlib.Core.List.{List, [], ◌∷◌}
use mathlib.Core.Option.{Option, none, some}
use native.Mathlib.Omega.{arith}
use lib.ListN.{length, drop}
use lib.Dec.{ltb}
use borrow.Author.Tests.{ltb-true}
use Rattle.model.specs.Text.{number}
use Rattle.model.specs.Vtk.{◌≫◌, Counted, counted, numbers}
use Rattle.model.specs.Meaning.Vtk.{row_then, rows_from}
use Rattle.theorems.proofs.Lists.Scan.{test}
use Rattle.theorems.proofs.Vtk.Form.{then_some, numbers_long}

-- what is none is not something
pub none_some : {A : Type 0} {o : Option A} {a : A} → o ≡ none → o ≡ some a → ⊥
none_some p q = let z : ◌≡◌ {A = ℕ} 0 1 = cc in omega arith

some_one : {A : Type 0} {o : Option A} {a b : A} → o ≡ some a → o ≡ some b → a ≡ b
some_one p q = cc

-- a count has one value, and one rest
pub same_value : {o : Option Counted} {c d : Counted} → o ≡ some c → o ≡ some d → c.value ≡ d.value
same_value p q = ap (λ (c : Counted). c.value) (some_one p q)

pub same_rest : {o : Option Counted} {c d : Counted} → o ≡ some c → o ≡ some d → c.rest ≡ d.rest
same_rest p q = ap (λ (c : Counted). c.rest) (some_one p q)

-- what cannot be something is none
pub refuted : {A : Type 0} (o : Option A) → ((a : A) → o ≡ some a → ⊥) → o ≡ none
refuted none h = refl
refuted (some a) h = absurd (h a refl)

-- a count is a first word
counted_first : (ws : List (List ℕ)) (c : Counted) → counted ws ≡ some c
    → (w : List ℕ) × (ws ≡ w ∷ c.rest) × (number w ≡ some c.value)
unfolding counted
counted_first [] c h = absurd (none_some refl h)
counted_first (w ∷ ws) c h =
    let (v, e, q) = then_some (number w) (λ v. some (record { value = v; rest = ws })) c h in
    let same : record { value = v; rest = ws } ≡ c = cc in
    (w, ap (λ (c : Counted). w ∷ c.rest) same, e ∙ ap (λ (c : Counted). some c.value) same)

counted_word : (w : List ℕ) (ws : List (List ℕ)) (v : ℕ) → number w ≡ some v
    → counted (w ∷ ws) ≡ some (record { value = v; rest = ws })
unfolding counted
counted_word w ws v e = rw e

pub counted_shorter : (ws : List (List ℕ)) (c : Counted) → counted ws ≡ some c → length ws ≡ suc (length c.rest)
counted_shorter ws c h = let (w, e, _) = counted_first ws c h in ap length e

module _ (ws : List (List ℕ)) (c : Counted) (first : counted ws ≡ some c) where
  pub numbers_more : (k : ℕ) → numbers (suc k) ws ≡ (numbers k c.rest ≫ λ vs. some (c.value ∷ vs))
  unfolding numbers
  numbers_more k = let (w, e, q) = counted_first ws c first in rw (e, numbers, q)

  pub rows_more : (n left : ℕ) → rows_from (suc n) left ws ≡ row_then left c.rest (rows_from n) c.value
  unfolding rows_from
  rows_more n left = let (w, e, q) = counted_first ws c first in rw (e, rows_from, q)

  pub drop_more : (m : ℕ) → drop (suc m) ws ≡ drop m c.rest
  drop_more m = let (w, e, q) = counted_first ws c first in rw e

-- numbers are a first one and the others
pub record FirstNumber (k : ℕ) (ws : List (List ℕ)) (x : ℕ) (xs : List ℕ) : Type 0 where
  pub rest : List (List ℕ)
  pub is : counted ws ≡ some (record { value = x; rest = rest })
  pub read : numbers k rest ≡ some xs

pub numbers_first : (k : ℕ) (ws : List (List ℕ)) (x : ℕ) (xs : List ℕ) → numbers (suc k) ws ≡ some (x ∷ xs) → FirstNumber k ws x xs
unfolding numbers
numbers_first k [] x xs h = absurd (none_some refl h)
numbers_first k (w ∷ ws) x xs h =
    let (v, e, q) = then_some (number w) (λ v. numbers k ws ≫ λ vs. some (v ∷ vs)) (x ∷ xs) h in
    let (vs, f, g) = then_some (numbers k ws) (λ vs. some (v ∷ vs)) (x ∷ xs) q in
    let value : v ≡ x = cc in
    let others : vs ≡ xs = cc in
    record { rest = ws; is = counted_word w ws x (e ∙ ap some value); read = f ∙ ap some others }

-- rows are a first one, behind its length, and the others
pub record FirstRow (n left : ℕ) (ws : List (List ℕ)) (row : List ℕ) (others : List (List ℕ)) : Type 0 where
  pub rest : List (List ℕ)
  pub is : counted ws ≡ some (record { value = length row; rest = rest })
  pub low : length row < left
  pub read : numbers (length row) rest ≡ some row
  pub more : rows_from n (left - suc (length row)) (drop (length row) rest) ≡ some others

rows_taken : (n left : ℕ) (ws rows : List (List ℕ)) → rows_from (suc n) left ws ≡ some rows
    → (row : List ℕ) × ((others : List (List ℕ)) × (rows ≡ row ∷ others) × FirstRow n left ws row others)
unfolding rows_from row_then
rows_taken n left [] rows h = absurd (none_some refl h)
rows_taken n left (w ∷ ws) rows h =
    let (k, e, q) = then_some (number w) (row_then left ws (rows_from n)) rows h in
    test (ltb k left)
    (λ l.
    let (row, f, g) = then_some (numbers k ws) (λ row. rows_from n (left - suc k) (drop k ws) ≫ λ rs. some (row ∷ rs)) rows (rw (row_then, l) at q) in
    let (others, m, p) = then_some (rows_from n (left - suc k) (drop k ws)) (λ rs. some (row ∷ rs)) rows g in
    let same : rows ≡ row ∷ others = cc in
    (row, (others, same, first k row others e l f m (sym (numbers_long k ws row f)))))
    (λ l. absurd (none_some refl (let z : none ≡ some rows = rw (row_then, l) at q in z)))
  where
    first : (k : ℕ) (row : List ℕ) (others : List (List ℕ)) → number w ≡ some k → ltb k left ≡ true → numbers k ws ≡ some row
        → rows_from n (left - suc k) (drop k ws) ≡ some others → k ≡ length row → FirstRow n left (w ∷ ws) row others
    first k row others e l f m long = record {
      rest = ws;
      is = counted_word w ws (length row) (e ∙ ap some long);
      low = rw long at (ltb-true k left l);
      read = rw long at f;
      more = rw long at m;
    }

pub rows_first : (n left : ℕ) (ws : List (List ℕ)) (row : List ℕ) (others : List (List ℕ))
    → rows_from (suc n) left ws ≡ some (row ∷ others) → FirstRow n left ws row others
rows_first n left ws row others h =
    let (r, (rs, same, f)) = rows_taken n left ws (row ∷ others) h in
    let first : r ≡ row = cc in
    let rest : rs ≡ others = cc in
    rw (first, rest) at f

pub rows_long : (n left : ℕ) (ws rows : List (List ℕ)) → rows_from n left ws ≡ some rows → length rows ≡ n
unfolding rows_from
rows_long zero zero ws rows h = ap length (let e : rows ≡ [] = cc in e)
rows_long zero (suc left) ws rows h = absurd (none_some refl h)
rows_long (suc n) left ws rows h =
    let (row, (others, same, f)) = rows_taken n left ws rows h in
    ap length same ∙ ap suc (rows_long n (left - suc (length row)) (drop (length row) f.rest) others f.more)
