-- The form of a text (19): `form_exactly`: a text gives a grid exactly if it is of the form, said in R-1's words; `form_none`: it gives
-- none exactly if it is not of the form.
use Prim.Native.Nat.{ℕ, zero, suc, ◌+◌, ◌*◌, ◌≤◌, ◌<◌}
use mathlib.Core.Path.{◌≡◌, refl, sym, ap, ◌∙◌, subst}
use mathlib.Core.Logic.{◌⊎◌, inl, inr, ◌≢◌, ◌↔◌, ⊎_elim}
use mathlib.Core.Bool.{Bool, true, false, not, ◌&&◌, ◌||◌}
use mathlib.Core.List.Memᴰ.{head as here}
use mathlib.Core.List.Memᴰ.{tail as there}
use mathlib.Core.List.{List, [], ◌∷◌, ◌++◌, append-nil, Memᴰ as In}
use mathlib.Core.List.Memᴰ.{cases_cons as in-cons}
use mathlib.Core.List.Memᴰ.{not-nil}
use mathlib.Core.Option.{Option, none, some}
use native.Mathlib.Omega.{arith}
use lib.ListN.{length, get_or, take, drop, length-append, length-drop, take-append-drop}
use lib.Seq.{take_all, length-take-le, take-append_seam, drop-append_seam, drop_at}
use lib.Dec.{eqb, leb, ltb}
use borrow.Author.Tests.{eqb-true, eqb-false, eq-eqb, ne_eqb, le-leb, leb-true, lt-ltb, ltb-true, not-false}
use Rattle.model.specs.Lists.{all_of, equal}
use Rattle.model.specs.Text.{bytes, newline, begins, number}
use Rattle.model.specs.Vtk.{◌≫◌, Grid, Rows, Counted, version2, version3, words, behind_line, behind_title, behind_words, counted, numbers}
use Rattle.model.specs.Vtk.{rows_of, points_of, cells_of, types_of, sections_of, eights, fits, grid_of}
use Rattle.model.specs.Meaning.Vtk.{Decimals, no_more, decimal, RowWords, no_row, row, Sections, OfForm}
use Rattle.theorems.proofs.Lists.Scan.{test, clash, and_l, and_r, and_i, or_cases, or_i}
use Rattle.theorems.proofs.Lists.Ones.{each_at, each_of}
use Rattle.theorems.proofs.Vtk.Sites.{equal_is, equal_same}
use Rattle.theorems.proofs.Vtk.Words.{words_exactly}

not_some : {A B : Type 0} {a : A} → none ≡ some a → B
not_some e = absurd (let z : ◌≡◌ {A = ℕ} 0 1 = cc in omega arith)

some_is : {A : Type 0} {a b : A} → some a ≡ some b → a ≡ b
some_is e = cc

-- a step that gives something had something to go on
pub then_some : {A B : Type 0} (o : Option A) (f : A → Option B) (b : B) → (o ≫ f) ≡ some b → (a : A) × (o ≡ some a) × (f a ≡ some b)
then_some none f b h = not_some h
then_some (some a) f b h = (a, refl, h)

-- ---- version line and title line

-- no byte of it is LF
NoLine : List ℕ → Type 0
NoLine title = (x : ℕ) → In x title → x ≢ newline

line_behind : (xs body : List ℕ) → behind_line xs ≡ some body → (title : List ℕ) × NoLine title × (xs ≡ title ++ (newline ∷ body))
unfolding behind_line NoLine
line_behind [] body h = not_some h
line_behind (b ∷ bs) body h = test (eqb b newline)
    (λ e.
    let same : bs ≡ body = some_is (rw (e, behind_line) at h) in
    ([], λ x i. absurd (not-nil i), ap (λ (l : List ℕ). b ∷ l) same ∙ ap (λ (x : ℕ). x ∷ body) (eqb-true b newline e)))
    (λ e.
    let (title, line, is) = line_behind bs body (rw (e, behind_line) at h) in
    (b ∷ title, λ x i. ⊎_elim (λ q f. eqb-false b newline e (sym q ∙ f)) (line x) (in-cons i), ap (λ (l : List ℕ). b ∷ l) is))

behind_line_lem : (title body : List ℕ) → NoLine title → behind_line (title ++ (newline ∷ body)) ≡ some body
unfolding behind_line NoLine
behind_line_lem [] body line = refl
behind_line_lem (b ∷ title) body line =
    rw (ne_eqb b newline (line b (here refl)), behind_line) (behind_line_lem title body (λ x i. line x (there i)))

begins_is : (w xs : List ℕ) → begins w xs ≡ true → xs ≡ w ++ drop (length w) xs
unfolding begins
begins_is w xs h =
    sym (take-append-drop (length w) xs) ∙ ap (λ (l : List ℕ). l ++ drop (length w) xs) (sym (equal_is w (take (length w) xs) h))

is_begins : (w xs : List ℕ) → begins w (w ++ xs) ≡ true
unfolding begins
is_begins w xs = rw (take-append_seam w xs) (equal_same w)

-- ---- words

behind_words_lem : (ks ws rest : List (List ℕ)) → behind_words ks ws ≡ some rest → ws ≡ ks ++ rest
unfolding behind_words
behind_words_lem [] ws rest h = some_is h
behind_words_lem (k ∷ ks) [] rest h = not_some h
behind_words_lem (k ∷ ks) (w ∷ ws) rest h = test (equal k w)
    (λ e.
    let is = behind_words_lem ks ws rest (rw (e, behind_words) at h) in
    ap (λ (l : List (List ℕ)). w ∷ l) is ∙ ap (λ (x : List ℕ). x ∷ (ks ++ rest)) (sym (equal_is k w e)))
    (λ e. not_some (rw (e, behind_words) at h))

words_behind : (ks rest : List (List ℕ)) → behind_words ks (ks ++ rest) ≡ some rest
unfolding behind_words
words_behind [] rest = refl
words_behind (k ∷ ks) rest = rw (equal_same k, behind_words) (words_behind ks rest)

counted_is : (ws : List (List ℕ)) (c : Counted) → counted ws ≡ some c
    → (w : List ℕ) × (number w ≡ some c.value) × (ws ≡ w ∷ c.rest)
unfolding counted
counted_is [] c h = not_some h
counted_is (w ∷ ws) c h =
    let (v, e, g) = then_some (number w) _ c h in
    let same : record { value = v; rest = ws } ≡ c = some_is g in
    (w, e ∙ ap (λ (c : Counted). some c.value) same, ap (λ (c : Counted). w ∷ c.rest) same)

is_counted : (w : List ℕ) (ws : List (List ℕ)) (v : ℕ) → number w ≡ some v → counted (w ∷ ws) ≡ some (record { value = v; rest = ws })
unfolding counted
is_counted w ws v h = rw h

-- ---- plain decimals

decimals_long : {ws : List (List ℕ)} {xs : List ℕ} → Decimals ws xs → length ws ≡ length xs
decimals_long no_more = refl
decimals_long (decimal e more) = ap suc (decimals_long more)

numbers_decimals : (k : ℕ) (ws : List (List ℕ)) (xs : List ℕ) → numbers k ws ≡ some xs → Decimals (take k ws) xs × (k ≤ length ws)
unfolding numbers
numbers_decimals zero ws xs h = (subst (Decimals []) (some_is h) no_more, omega arith)
numbers_decimals (suc k) [] xs h = not_some h
numbers_decimals (suc k) (w ∷ ws) xs h =
    let (v, e, g) = then_some (number w) (λ v. numbers k ws ≫ λ vs. some (v ∷ vs)) xs h in
    let (vs, f, q) = then_some (numbers k ws) (λ vs. some (v ∷ vs)) xs g in
    let (more, low) = numbers_decimals k ws vs f in
    (subst (Decimals (w ∷ take k ws)) (some_is q) (decimal e more), omega arith)

pub numbers_long : (k : ℕ) (ws : List (List ℕ)) (xs : List ℕ) → numbers k ws ≡ some xs → length xs ≡ k
numbers_long k ws xs h =
    let (d, low) = numbers_decimals k ws xs h in
    sym (decimals_long d) ∙ length-take-le k ws low

decimals_numbers : {ws : List (List ℕ)} {xs : List ℕ} → Decimals ws xs → (more : List (List ℕ))
    → numbers (length ws) (ws ++ more) ≡ some xs
unfolding numbers
decimals_numbers no_more more = refl
decimals_numbers (decimal e d) more = rw (e, decimals_numbers d more)

decimals_take : (k : ℕ) {ws : List (List ℕ)} {xs : List ℕ} → Decimals ws xs
    → Decimals (take k ws) (take k xs) × Decimals (drop k ws) (drop k xs)
decimals_take zero d = (no_more, d)
decimals_take (suc k) no_more = (no_more, no_more)
decimals_take (suc k) (decimal e d) = let (a, b) = decimals_take k d in (decimal e a, b)

decimals_append : {ws vs : List (List ℕ)} {xs ys : List ℕ} → Decimals ws xs → Decimals vs ys → Decimals (ws ++ vs) (xs ++ ys)
decimals_append no_more d = d
decimals_append (decimal e a) d = decimal e (decimals_append a d)

-- ---- rows

rows_words : (n : ℕ) {ws : List (List ℕ)} {xs : List ℕ} → Decimals ws xs → (rows : List (List ℕ)) → rows_of n xs ≡ some rows
    → RowWords ws rows × (length rows ≡ n)
unfolding rows_of
rows_words zero no_more rows h = subst (λ (rows : List (List ℕ)). RowWords [] rows × (length rows ≡ 0)) (some_is h) (no_row, refl)
rows_words zero (decimal e d) rows h = not_some h
rows_words (suc n) no_more rows h = not_some h
rows_words (suc n) (decimal {w = w} {ws = ws} {x = k} {xs = xs} e d) rows h = test (leb k (length xs))
    (λ b.
    let (rest, f, q) = then_some (rows_of n (drop k xs)) (λ rows. some (take k xs ∷ rows)) rows (rw (b, rows_of) at h) in
    let (first, others) = decimals_take k d in
    let (more, long) = rows_words n others rest f in
    let size : length (take k xs) ≡ k = length-take-le k xs (leb-true k (length xs) b) in
    let one : RowWords (w ∷ (take k ws ++ drop k ws)) (take k xs ∷ rest) = row (e ∙ ap some (sym size)) first more in
    let whole : RowWords (w ∷ ws) (take k xs ∷ rest)
    = subst (λ (l : List (List ℕ)). RowWords (w ∷ l) (take k xs ∷ rest)) (take-append-drop k ws) one in
    subst (λ (rows : List (List ℕ)). RowWords (w ∷ ws) rows × (length rows ≡ suc n)) (some_is q) (whole, ap suc long))
    (λ b. not_some (rw (b, rows_of) at h))

words_rows : {ws rows : List (List ℕ)} → RowWords ws rows → (xs : List ℕ) × Decimals ws xs × (rows_of (length rows) xs ≡ some rows)
unfolding rows_of
words_rows no_row = ([], no_more, refl)
words_rows (row {xs = xs} e d r) =
    let (ys, f, h) = words_rows r in
    let long = length-append xs ys in (
      length xs ∷ (xs ++ ys),
      decimal e (decimals_append d f),
      rw (
        le-leb (length xs) (length (xs ++ ys)) (omega arith),
        rows_of,
        drop-append_seam xs ys,
        take-append_seam xs ys,
        h,
      ),
    )

-- ---- the sections

abbrev before_points : List (List ℕ)
before_points = bytes "ASCII" ∷ bytes "DATASET" ∷ bytes "UNSTRUCTURED_GRID" ∷ bytes "POINTS" ∷ []

-- POINTS: the word of the count, and the words behind it
points_of_lem : (ws : List (List ℕ)) (p : Counted) → points_of ws ≡ some p → (w : List ℕ) × (r : List (List ℕ))
    × (number w ≡ some p.value) × (ws ≡ before_points ++ (w ∷ r)) × (p.rest ≡ drop (1 + 3 * p.value) r)
unfolding points_of
points_of_lem ws p h =
    let (a, ea, h) = then_some {A = List (List ℕ)} (behind_words before_points ws) _ p h in
    let (c, ec, e) = then_some {A = Counted} (counted a) _ p h in
    by a c (behind_words_lem before_points ws a ea) (counted_is a c ec) (some_is e)
  where
    by : (a : List (List ℕ)) (c : Counted) → ws ≡ before_points ++ a → (w : List ℕ) × (number w ≡ some c.value) × (a ≡ w ∷ c.rest)
        → record { value = c.value; rest = drop (1 + 3 * c.value) c.rest } ≡ p → (w : List ℕ) × (r : List (List ℕ))
        × (number w ≡ some p.value) × (ws ≡ before_points ++ (w ∷ r)) × (p.rest ≡ drop (1 + 3 * p.value) r)
    by a c ea (w, ew, is) e =
        let value : c.value ≡ p.value = ap (λ (p : Counted). p.value) e in (
          w,
          c.rest,
          ew ∙ ap some value,
          ea ∙ ap (λ (l : List (List ℕ)). before_points ++ l) is,
          sym (ap (λ (p : Counted). p.rest) e) ∙ ap (λ (v : ℕ). drop (1 + 3 * v) c.rest) value,
        )

-- CELLS: the words of the two counts, and those of the rows
CellWords : List (List ℕ) → Rows → Type 0
CellWords ws c = (count : List ℕ) × (size : List ℕ) × (cells : List (List ℕ)) × (number count ≡ some (length c.rows))
    × (number size ≡ some (length cells)) × RowWords cells c.rows × (ws ≡ bytes "CELLS" ∷ count ∷ size ∷ (cells ++ c.rest))

cells_by : (ws b : List (List ℕ)) (n s : Counted) (xs : List ℕ) (rows : List (List ℕ)) (c : Rows) → ws ≡ bytes "CELLS" ∷ b
    → (w : List ℕ) × (number w ≡ some n.value) × (b ≡ w ∷ n.rest)
    → (w : List ℕ) × (number w ≡ some s.value) × (n.rest ≡ w ∷ s.rest)
    → Decimals (take s.value s.rest) xs × (s.value ≤ length s.rest) → rows_of n.value xs ≡ some rows
    → record { rows = rows; rest = drop s.value s.rest } ≡ c → CellWords ws c
unfolding CellWords
cells_by ws b n s xs rows c eb (count, en, is_b) (size, es, is_n) (d, low) er e =
    let (rw_words, long) = rows_words n.value d rows er in
    let cells = take s.value s.rest in
    let full : length cells ≡ s.value = length-take-le s.value s.rest low in
    subst (CellWords ws) e (
      count,
      size,
      cells,
      en ∙ ap some (sym long),
      es ∙ ap some (sym full),
      rw_words,
      eb ∙ ap (λ (l : List (List ℕ)). bytes "CELLS" ∷ l) (is_b ∙ ap (λ (l : List (List ℕ)). count ∷ l) (is_n
          ∙ ap (λ (l : List (List ℕ)). size ∷ l) (sym (take-append-drop s.value s.rest)))),
    )

cells_of_lem : (ws : List (List ℕ)) (c : Rows) → cells_of ws ≡ some c → CellWords ws c
unfolding cells_of
cells_of_lem ws c h =
    let (b, eb, h) = then_some {A = List (List ℕ)} (behind_words (bytes "CELLS" ∷ []) ws) _ c h in
    let (n, en, h) = then_some {A = Counted} (counted b) _ c h in
    let (s, es, h) = then_some {A = Counted} (counted n.rest) _ c h in
    let (xs, ex, h) = then_some {A = List ℕ} (numbers s.value s.rest) _ c h in
    let (rows, er, e) = then_some {A = List (List ℕ)} (rows_of n.value xs) _ c h in
    cells_by ws b n s xs rows c (behind_words_lem _ ws b eb) (counted_is b n en) (counted_is n.rest s es)
    (numbers_decimals s.value s.rest xs ex) er (some_is e)

-- CELL_TYPES: the word of the count, and those of the types
TypeWords : ℕ → List (List ℕ) → List ℕ → Type 0
TypeWords n ws ts = (again : List ℕ) × (types : List (List ℕ)) × (number again ≡ some n) × (length types ≡ n) × Decimals types ts
    × (ws ≡ bytes "CELL_TYPES" ∷ again ∷ types)

types_of_lem : (n : ℕ) (ws : List (List ℕ)) (ts : List ℕ) → types_of n ws ≡ some ts → TypeWords n ws ts
unfolding types_of TypeWords
types_of_lem n ws ts h =
    let (a, ea, h) = then_some {A = List (List ℕ)} (behind_words (bytes "CELL_TYPES" ∷ []) ws) _ ts h in
    let (m, em, h) = then_some {A = Counted} (counted a) _ ts h in
    by a m (behind_words_lem _ ws a ea) (counted_is a m em) h
  where
    by : (a : List (List ℕ)) (m : Counted) → ws ≡ bytes "CELL_TYPES" ∷ a → (w : List ℕ) × (number w ≡ some m.value) × (a ≡ w ∷ m.rest)
        → (elim (eqb m.value n && eqb (length m.rest) n) [ true ↦ numbers n m.rest | false ↦ none ]) ≡ some ts
        → TypeWords n ws ts
    by a m ea (again, ew, is) h = test (eqb m.value n && eqb (length m.rest) n)
        (λ e.
        let value = eqb-true m.value n (and_l (eqb m.value n) _ e) in
        let long = eqb-true (length m.rest) n (and_r (eqb m.value n) _ e) in
        let d = (numbers_decimals n m.rest ts (rw e at h)).0 in
        let all : take n m.rest ≡ m.rest = take_all n m.rest (omega arith) in (
          again,
          m.rest,
          ew ∙ ap some value,
          long,
          subst (λ (l : List (List ℕ)). Decimals l ts) all d,
          ea ∙ ap (λ (l : List (List ℕ)). bytes "CELL_TYPES" ∷ l) is,
        ))
        (λ e. not_some (rw e at h))

-- what is left behind m words, where there is something left
drop_some : {A : Type 0} (m : ℕ) (ws : List A) (y : A) (ys : List A) → drop m ws ≡ y ∷ ys → m ≤ length ws
drop_some m ws y ys e = let a = length-drop m ws in let b = ap length e in omega arith

sections_by : (ws : List (List ℕ)) (p : Counted) (c : Rows) (ts : List ℕ)
    → (w : List ℕ) × (r : List (List ℕ)) × (number w ≡ some p.value) × (ws ≡ before_points ++ (w ∷ r)) × (p.rest ≡ drop (1 + 3 * p.value) r)
    → CellWords p.rest c → TypeWords (length c.rows) c.rest ts
    → Sections ws (record { points = p.value; rows = c.rows; types = ts })
unfolding CellWords TypeWords
sections_by ws p c ts (points, r, e_p, is_w, is_p) (count, size, cells, e_c, e_s, rows, is_c) (again, types, e_a, long, d, is_t) =
    let skip = 1 + 3 * p.value in
    let low = drop_some skip r _ _ (sym is_p ∙ is_c) in
    record {
      points = points;
      skipped = take skip r;
      count = count;
      size = size;
      cells = cells;
      again = again;
      types = types;
      are = is_w ∙ ap (λ (l : List (List ℕ)). before_points ++ (points ∷ l)) (sym (take-append-drop skip r)
          ∙ ap (λ (l : List (List ℕ)). take skip r ++ l) (sym is_p ∙ is_c
          ∙ ap (λ (l : List (List ℕ)). bytes "CELLS" ∷ count ∷ size ∷ (cells ++ l)) is_t));
      points_fit = e_p;
      skipped_fit = length-take-le skip r low;
      count_fits = e_c;
      size_fits = e_s;
      rows = rows;
      again_fits = e_a;
      types_fit = long;
      types_are = d;
    }

sections_of_lem : (ws : List (List ℕ)) (g : Grid) → sections_of ws ≡ some g → Sections ws g
unfolding sections_of
sections_of_lem ws g h =
    let (p, ep, h) = then_some {A = Counted} (points_of ws) _ g h in
    let (c, ec, h) = then_some {A = Rows} (cells_of p.rest) _ g h in
    let (ts, et, e) = then_some {A = List ℕ} (types_of (length c.rows) c.rest) _ g h in
    subst (Sections ws) (some_is e) (sections_by ws p c ts (points_of_lem ws p ep) (cells_of_lem p.rest c ec)
    (types_of_lem (length c.rows) c.rest ts et))

-- as many types as rows
types_rows : {ws : List (List ℕ)} {g : Grid} → Sections ws g → length g.types ≡ length g.rows
types_rows S = sym (decimals_long S.types_are) ∙ S.types_fit

of_points : (w : List ℕ) (v : ℕ) (skipped rest : List (List ℕ)) → number w ≡ some v → length skipped ≡ 1 + 3 * v
    → points_of (before_points ++ (w ∷ (skipped ++ rest))) ≡ some (record { value = v; rest = rest })
unfolding points_of
of_points w v skipped rest e long =
    rw (words_behind before_points (w ∷ (skipped ++ rest)), is_counted w (skipped ++ rest) v e)
    (ap (λ (l : List (List ℕ)). some (record { value = v; rest = l })) (drop_at skipped rest (1 + 3 * v) long))

of_cells : (count size : List ℕ) (cells rest rows : List (List ℕ)) → number count ≡ some (length rows)
    → number size ≡ some (length cells) → RowWords cells rows
    → cells_of (bytes "CELLS" ∷ count ∷ size ∷ (cells ++ rest)) ≡ some (record { rows = rows; rest = rest })
unfolding cells_of
of_cells count size cells rest rows e_c e_s r =
    let (xs, d, h) = words_rows r in
    rw (
      words_behind (bytes "CELLS" ∷ []) (count ∷ size ∷ (cells ++ rest)),
      is_counted count (size ∷ (cells ++ rest)) (length rows) e_c,
      is_counted size (cells ++ rest) (length cells) e_s,
      decimals_numbers d rest,
      h,
      drop-append_seam cells rest,
    )

of_types : (n : ℕ) (again : List ℕ) (types : List (List ℕ)) (ts : List ℕ) → number again ≡ some n → length types ≡ n → Decimals types ts
    → types_of n (bytes "CELL_TYPES" ∷ again ∷ types) ≡ some ts
unfolding types_of
of_types n again types ts e long d =
    rw (words_behind (bytes "CELL_TYPES" ∷ []) (again ∷ types), is_counted again types n e) (fit (eqb n n && eqb (length types) n)
    (and_i (eq-eqb n n refl) (eq-eqb (length types) n long)))
  where
    all : numbers n types ≡ some ts
    all = subst (λ (k : ℕ). numbers k types ≡ some ts) long
        (subst (λ (l : List (List ℕ)). numbers (length types) l ≡ some ts) (append-nil types) (decimals_numbers d []))

    fit : (b : Bool) → b ≡ true → (elim b [ true ↦ numbers n types | false ↦ none ]) ≡ some ts
    fit b h = rw h all

of_sections : (ws : List (List ℕ)) (g : Grid) → Sections ws g → sections_of ws ≡ some g
unfolding sections_of
of_sections ws g S =
    let types_words = bytes "CELL_TYPES" ∷ S.again ∷ S.types in
    let cell_words_lem = bytes "CELLS" ∷ S.count ∷ S.size ∷ (S.cells ++ types_words) in
    rw (
      S.are,
      of_points S.points g.points S.skipped cell_words_lem S.points_fit S.skipped_fit,
      of_cells S.count S.size S.cells types_words g.rows S.count_fits S.size_fits S.rows,
      of_types (length g.rows) S.again S.types g.types S.again_fits S.types_fit S.types_are,
    )

-- ---- one cell or more, points that exist, eight numbers

eights_exactly : (rows : List (List ℕ)) (ts : List ℕ) → length ts ≡ length rows
    → (eights rows ts ≡ true) ↔ ((c : ℕ) → c < length rows → get_or ts c 0 ≡ 12 → length (get_or rows c []) ≡ 8)
unfolding eights
eights_exactly [] ts long = (λ h c l. absurd (omega arith), λ h. refl)
eights_exactly (r ∷ rs) [] long = absurd (omega arith)
eights_exactly (r ∷ rs) (t ∷ ts) long = (to (eights_exactly rs ts (omega arith)).0, from (eights_exactly rs ts (omega arith)).1)
  where
    wrong : Bool
    wrong = eqb t 12 && not (eqb (length r) 8)

    right : wrong ≡ false → t ≡ 12 → length r ≡ 8
    right e q = eqb-true _ _ (not-false _ (rw (eq-eqb t 12 q) at e))

    to : (eights rs ts ≡ true → (c : ℕ) → c < length rs → get_or ts c 0 ≡ 12 → length (get_or rs c []) ≡ 8)
        → eights (r ∷ rs) (t ∷ ts) ≡ true → (c : ℕ) → c < length (r ∷ rs) → get_or (t ∷ ts) c 0 ≡ 12 → length (get_or (r ∷ rs) c []) ≡ 8
    to rec h c l q = test wrong (λ e. absurd (clash h (rw (e, eights)))) (λ e. at rec (rw (e, eights) at h) e c l q)
      where
        at : (eights rs ts ≡ true → (c : ℕ) → c < length rs → get_or ts c 0 ≡ 12 → length (get_or rs c []) ≡ 8) → eights rs ts ≡ true
            → wrong ≡ false → (c : ℕ) → c < length (r ∷ rs) → get_or (t ∷ ts) c 0 ≡ 12 → length (get_or (r ∷ rs) c []) ≡ 8
        at rec h e zero l q = right e q
        at rec h e (suc c) l q = rec h c (omega arith) q

    from : (((c : ℕ) → c < length rs → get_or ts c 0 ≡ 12 → length (get_or rs c []) ≡ 8) → eights rs ts ≡ true)
        → ((c : ℕ) → c < length (r ∷ rs) → get_or (t ∷ ts) c 0 ≡ 12 → length (get_or (r ∷ rs) c []) ≡ 8) → eights (r ∷ rs) (t ∷ ts) ≡ true
    from rec h = test wrong
        (λ e.
        let q = eqb-true t 12 (and_l (eqb t 12) _ e) in
        absurd (clash (and_r (eqb t 12) _ e) (ap not (eq-eqb _ 8 (h 0 (omega arith) q)))))
        (λ e. rw (e, eights) (rec (λ c l. h (suc c) (omega arith))))

module _ (g : Grid) (long : length g.types ≡ length g.rows) where
  abbrev named : Bool
  named = all_of (all_of (λ x. ltb x g.points)) g.rows

  abbrev Fits : Type 0
  Fits = (0 < length g.rows) × ((row : List ℕ) → In row g.rows → (x : ℕ) → In x row → x < g.points)
      × ((c : ℕ) → c < length g.rows → get_or g.types c 0 ≡ 12 → length (get_or g.rows c []) ≡ 8)

  fits_exactly : (fits g ≡ true) ↔ Fits
  unfolding fits
  fits_exactly = (to, from)
    where
      some_row : Bool
      some_row = ltb 0 (length g.rows)

      to : (some_row && named && eights g.rows g.types) ≡ true → Fits
      to h =
          let first = and_l (some_row && named) _ h in (
            ltb-true 0 _ (and_l some_row _ first),
            λ row i x k. ltb-true x g.points (each_at (λ x. ltb x g.points) row
                (each_at (all_of (λ x. ltb x g.points)) g.rows (and_r some_row _ first) row i) x k),
            (eights_exactly g.rows g.types long).0 (and_r (some_row && named) _ h),
          )

      from : Fits → (some_row && named && eights g.rows g.types) ≡ true
      from (a, b, c) = and_i (and_i (lt-ltb 0 _ a) (each_of (all_of (λ x. ltb x g.points)) g.rows
          (λ row i. each_of (λ x. ltb x g.points) row (λ x k. lt-ltb x g.points (b row i x k)))))
          ((eights_exactly g.rows g.types long).1 c)

-- ---- the whole text

title_of : (text body : List ℕ) → behind_title text ≡ some body → (version : List ℕ) × (title : List ℕ)
    × ((version ≡ version2) ⊎ (version ≡ version3)) × NoLine title × (text ≡ version ++ (title ++ (newline ∷ body)))
unfolding behind_title
title_of text body h = test (begins version2 text || begins version3 text)
    (λ e.
    let rest = rw (e, behind_title) at h in
    ⊎_elim (λ b. by version2 (inl refl) b rest) (λ b. by version3 (inr refl) b rest) (or_cases (begins version2 text) _ e))
    (λ e. not_some (rw (e, behind_title) at h))
  where
    by : (v : List ℕ) → (v ≡ version2) ⊎ (v ≡ version3) → begins v text ≡ true → behind_line (drop 27 text) ≡ some body
        → (version : List ℕ) × (title : List ℕ) × ((version ≡ version2) ⊎ (version ≡ version3)) × NoLine title
        × (text ≡ version ++ (title ++ (newline ∷ body)))
    by v which b rest =
        let (title, line, is) = line_behind (drop 27 text) body rest in
        let long : length v ≡ 27 = ⊎_elim (λ q. ap length q) (λ q. ap length q) which in
        let all : text ≡ v ++ drop 27 text = begins_is v text b ∙ ap (λ (k : ℕ). v ++ drop k text) long in
        (v, title, which, line, all ∙ ap (λ (l : List ℕ). v ++ l) is)

of_title : (version title body : List ℕ) → (version ≡ version2) ⊎ (version ≡ version3) → NoLine title
    → behind_title (version ++ (title ++ (newline ∷ body))) ≡ some body
unfolding behind_title
of_title version title body which line = go (begins version2 text || begins version3 text) begin
  where
    text : List ℕ
    text = version ++ (title ++ (newline ∷ body))

    begin : (begins version2 text || begins version3 text) ≡ true
    begin = or_i (begins version2 text) _ (⊎_elim
        (λ q. inl (subst (λ (v : List ℕ). begins v text ≡ true) q (is_begins version _)))
        (λ q. inr (subst (λ (v : List ℕ). begins v text ≡ true) q (is_begins version _))) which)

    long : length version ≡ 27
    long = ⊎_elim (λ q. ap length q) (λ q. ap length q) which

    go : (b : Bool) → b ≡ true → (elim b [ true ↦ behind_line (drop 27 text) | false ↦ none ]) ≡ some body
    go b h = rw (h, drop_at version (title ++ (newline ∷ body)) 27 long) (behind_line_lem title body line)

pub form_exactly : (text : List ℕ) (g : Grid) → (grid_of text ≡ some g) ↔ OfForm text g
unfolding grid_of NoLine
form_exactly text g = (to, from)
  where
    fitting : (b : Bool) → b ≡ true → (elim b [ true ↦ some g | false ↦ none ]) ≡ some g
    fitting b h = rw h

    to : grid_of text ≡ some g → OfForm text g
    to h =
        let (body, eb, h) = then_some {A = List ℕ} (behind_title text) _ g h in
        let (g', eg, h) = then_some {A = Grid} (sections_of (words body)) _ g h in
        test (fits g')
        (λ e. subst (OfForm text) (some_is (rw e at h)) (whole body g' (title_of text body eb) (sections_of_lem (words body) g' eg) e))
        (λ e. not_some (rw e at h))
      where
        whole : (body : List ℕ) (g : Grid) → (version : List ℕ) × (title : List ℕ) × ((version ≡ version2) ⊎ (version ≡ version3))
            × NoLine title × (text ≡ version ++ (title ++ (newline ∷ body))) → Sections (words body) g → fits g ≡ true → OfForm text g
        whole body g (version, title, which, line, is) S e =
            let (a, b, c) = (fits_exactly g (types_rows S)).0 e in
            record {
              version = version;
              title = title;
              body = body;
              versioned = which;
              line = line;
              is = is;
              ws = words body;
              words = (words_exactly body (words body)).0 refl;
              sections = S;
              some = a;
              names = b;
              eights = c;
            }

    from : OfForm text g → grid_of text ≡ some g
    from F =
        let S = F.sections in
        let fit = (fits_exactly g (types_rows S)).1 (F.some, F.names, F.eights) in
        rw (F.is, of_title F.version F.title F.body F.versioned F.line, (words_exactly F.body F.ws).1 F.words, of_sections F.ws g S)
        (fitting (fits g) fit)

pub form_types : {text : List ℕ} {g : Grid} → OfForm text g → length g.types ≡ length g.rows
form_types F = types_rows F.sections

-- "text not of the form"
pub form_none : (text : List ℕ) → (grid_of text ≡ none) ↔ ((g : Grid) → OfForm text g → ⊥)
form_none text = (λ h g F. not_some (sym h ∙ (form_exactly text g).1 F), λ none_fits. by (grid_of text) refl none_fits)
  where
    by : (o : Option Grid) → grid_of text ≡ o → ((g : Grid) → OfForm text g → ⊥) → o ≡ none
    by none e none_fits = refl
    by (some g) e none_fits = absurd (none_fits g ((form_exactly text g).0 e))
