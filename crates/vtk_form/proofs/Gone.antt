-- Numbers and rows read one after the other. `Gone`: i of k numbers are read; `gone_start`, `gone_more`, `gone_end`, and `gone_next`,
-- what stands next. `RowsGone`: the same of rows.
use Prim.Native.Nat.{ℕ, suc, ◌+◌, ◌-◌, ◌<◌}
use mathlib.Core.Path.{◌≡◌, refl, sym, ap, ◌∙◌}
use mathlib.Core.Bool.{Bool, true, ◌&&◌}
use mathlib.Core.List.{List, [], ◌∷◌, ◌++◌, append_assoc, append-nil}
use mathlib.Core.Option.{Option, none, some}
use native.Mathlib.Omega.{arith}
use lib.ListN.{drop}
use lib.Seq.{drop-drop}
use borrow.Author.Tests.{lt-ltb}
use Rattle.model.specs.Lists.{all_of}
use Rattle.model.specs.Vtk.{◌≫◌, Counted, counted, numbers}
use Rattle.model.specs.Meaning.Vtk.{row_then, rows_from}
use Rattle.theorems.proofs.Lists.Scan.{test}
use Rattle.theorems.proofs.Vtk.Form.{then_some, numbers_long}
use Rattle.vtk_words.proofs.Counting.{numbers_more, rows_more, drop_more, FirstNumber, numbers_first, FirstRow, rows_first, rows_long}

-- ---- options

-- what was put in front stays there
front_none : {A : Type 0} (o : Option (List A)) → o ≡ (o ≫ λ vs. some ([] ++ vs))
front_none none = refl
front_none (some vs) = refl

front_more : {A : Type 0} (done : List A) (x : A) (o : Option (List A))
    → ((o ≫ λ vs. some (x ∷ vs)) ≫ λ vs. some (done ++ vs)) ≡ (o ≫ λ vs. some ((done ++ (x ∷ [])) ++ vs))
front_more done x none = refl
front_more done x (some vs) = ap some (sym (append_assoc done (x ∷ []) vs))

pub all_append : {A : Type 0} (p : A → Bool) (xs ys : List A) → all_of p (xs ++ ys) ≡ (all_of p xs && all_of p ys)
unfolding all_of
all_append p [] ys = refl
all_append p (x ∷ xs) ys = test (p x) (λ e. rw (e, all_of) (all_append p xs ys)) (λ e. rw (e, all_of))

pub all_one : {A : Type 0} (p : A → Bool) (x : A) → all_of p (x ∷ []) ≡ p x
unfolding all_of
all_one p x = test (p x) (λ e. rw (e, all_of)) (λ e. rw (e, all_of))

pub all_first : {A : Type 0} (p : A → Bool) (x : A) (xs : List A) → all_of p (x ∷ xs) ≡ true → p x ≡ true
unfolding all_of
all_first p x xs h = test (p x) (λ e. e) (λ e. sym (rw (e, all_of)) ∙ h)

-- ---- numbers

-- of the first k numbers of ws i are read, and `now` are the words left
pub record Gone (k : ℕ) (ws : List (List ℕ)) (i : ℕ) (done : List ℕ) (now : List (List ℕ)) : Type 0 where
  pub read : numbers k ws ≡ (numbers (k - i) now ≫ λ vs. some (done ++ vs))
  pub behind : drop k ws ≡ drop (k - i) now

module _ (k : ℕ) (ws : List (List ℕ)) where
  pub gone_start : Gone k ws 0 [] ws
  gone_start =
      let all : k - 0 ≡ k = omega arith in
      record { read = rw all (front_none (numbers k ws)); behind = rw all }

  module _ (i : ℕ) (done : List ℕ) (now : List (List ℕ)) (g : Gone k ws i done now) where
    pub gone_end : k ≡ i → (numbers k ws ≡ some done) × (drop k ws ≡ now)
    unfolding numbers
    gone_end e =
        let all : k - i ≡ 0 = omega arith in
        let read = g.read in
        let behind = g.behind in
        ((rw all at read) ∙ ap some (append-nil done), rw all at behind)

    module _ (low : i < k) where
      pub gone_more : (c : Counted) → counted now ≡ some c → Gone k ws (i + 1) (done ++ (c.value ∷ [])) c.rest
      gone_more c e =
          let more : k - i ≡ suc (k - (i + 1)) = omega arith in
          let read = g.read in
          let behind = g.behind in
          record {
            read = (rw (more, numbers_more now c e (k - (i + 1))) at read) ∙ front_more done c.value (numbers (k - (i + 1)) c.rest);
            behind = (rw more at behind) ∙ drop_more now c e (k - (i + 1));
          }

      pub gone_next : (xs : List ℕ) → numbers k ws ≡ some xs
          → (x : ℕ) × ((vs : List ℕ) × (xs ≡ done ++ (x ∷ vs)) × FirstNumber (k - (i + 1)) now x vs)
      gone_next xs h =
          let (ys, e, q) = then_some (numbers (k - i) now) (λ vs. some (done ++ vs)) xs (sym g.read ∙ h) in
          let same : xs ≡ done ++ ys = cc in
          go ys e same
        where
          go : (ys : List ℕ) → numbers (k - i) now ≡ some ys → xs ≡ done ++ ys
              → (x : ℕ) × ((vs : List ℕ) × (xs ≡ done ++ (x ∷ vs)) × FirstNumber (k - (i + 1)) now x vs)
          go [] e same = absurd (let l = numbers_long (k - i) now [] e in omega arith)
          go (x ∷ vs) e same =
              let more : k - i ≡ suc (k - (i + 1)) = omega arith in
              (x, (vs, same, numbers_first (k - (i + 1)) now x vs (rw more at e)))

-- ---- rows

-- of n rows in `size` words i are read, `left` words are left of these, and `now` are the words left of all
pub record RowsGone (n size : ℕ) (ws : List (List ℕ)) (i left : ℕ) (done now : List (List ℕ)) : Type 0 where
  pub read : rows_from n size ws ≡ (rows_from (n - i) left now ≫ λ rs. some (done ++ rs))
  pub behind : drop size ws ≡ drop left now

module _ (n size : ℕ) (ws : List (List ℕ)) where
  pub rows_start : RowsGone n size ws 0 size [] ws
  rows_start =
      let all : n - 0 ≡ n = omega arith in
      record { read = rw all (front_none (rows_from n size ws)); behind = refl }

  module _ (i left : ℕ) (done now : List (List ℕ)) (g : RowsGone n size ws i left done now) where
    pub rows_end : n ≡ i → left ≡ 0 → (rows_from n size ws ≡ some done) × (drop size ws ≡ now)
    unfolding rows_from
    rows_end e empty =
        let all : n - i ≡ 0 = omega arith in
        let read = g.read in
        let behind = g.behind in
        ((rw (all, empty) at read) ∙ ap some (append-nil done), rw empty at behind)

    -- words of the size are left
    pub rows_over : n ≡ i → 0 < left → rows_from n size ws ≡ none
    unfolding rows_from
    rows_over e over =
        let all : n - i ≡ 0 = omega arith in
        let more : left ≡ suc (left - 1) = omega arith in
        let read = g.read in
        rw (all, more) at read

    module _ (low : i < n) where
      pub rows_step : (c : Counted) (row : List ℕ) → counted now ≡ some c → c.value < left → numbers c.value c.rest ≡ some row
          → RowsGone n size ws (i + 1) (left - suc c.value) (done ++ (row ∷ [])) (drop c.value c.rest)
      unfolding row_then
      rows_step c row e l r =
          let more : n - i ≡ suc (n - (i + 1)) = omega arith in
          let rest : left ≡ suc (c.value + (left - suc c.value)) = omega arith in
          let read = g.read in
          let behind = g.behind in
          record {
            read =
                (rw (more, rows_more now c e (n - (i + 1)) left, row_then, lt-ltb _ _ l, r) at read)
                ∙ front_more done row (rows_from (n - (i + 1)) (left - suc c.value) (drop c.value c.rest));
            behind =
                behind ∙ ap (λ (m : ℕ). drop m now) rest ∙ drop_more now c e (c.value + (left - suc c.value))
                ∙ sym (drop-drop (left - suc c.value) c.value c.rest);
          }

      pub rows_next : (rows : List (List ℕ)) → rows_from n size ws ≡ some rows
          → (row : List ℕ) × ((others : List (List ℕ)) × (rows ≡ done ++ (row ∷ others)) × FirstRow (n - (i + 1)) left now row others)
      rows_next rows h =
          let (rs, e, q) = then_some (rows_from (n - i) left now) (λ rs. some (done ++ rs)) rows (sym g.read ∙ h) in
          let same : rows ≡ done ++ rs = cc in
          go rs e same
        where
          go : (rs : List (List ℕ)) → rows_from (n - i) left now ≡ some rs → rows ≡ done ++ rs
              → (row : List ℕ) × ((others : List (List ℕ)) × (rows ≡ done ++ (row ∷ others)) × FirstRow (n - (i + 1)) left now row others)
          go [] e same = absurd (let l = rows_long (n - i) left now [] e in omega arith)
          go (row ∷ others) e same =
              let more : n - i ≡ suc (n - (i + 1)) = omega arith in
              (row, (others, same, rows_first (n - (i + 1)) left now row others (rw more at e)))
