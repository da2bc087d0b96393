-- Darts entered and taken off, on the way to the sheet of d: what holds at first (`taking_none`), when the first places of a cell enter
-- (`taking_enter`), for which there is room (`taking_room`), when a dart is taken off (`taking_next`), and when all are: the marks are the
-- sheet (`taken_marks`), which the queue lists (`taken_queue`, `taken_size`). `Meeting`: a dart of the sheet is met, with no mark (`met_new`) or
-- with one (`met_old`).
use Prim.Native.Nat.{ℕ, ◌+◌, ◌*◌, ◌-◌, ◌≤◌, ◌<◌}
use mathlib.Core.Path.{◌≡◌, refl, sym, ap, ◌∙◌}
use mathlib.Core.Logic.{◌⊎◌, inl, inr, ◌≢◌, ⊎_elim}
use mathlib.Core.List.{List}
use native.Mathlib.Omega.{arith}
use lib.ListN.{length, get_or, replicate, length-replicate}
use lib.Seq.{ext_get_or}
use Rattle.model.specs.Lists.{count}
use Rattle.model.specs.Table.{slots, link}
use Rattle.model.specs.Sheet.{sheet}
use Rattle.model.specs.Meaning.Sets.{Marked}
use Rattle.model.specs.Meaning.Places.{place}
use Rattle.model.specs.Meaning.Sheets.{BlockDart, half}
use Rattle.theorems.proofs.Lists.Scan.{if_eq, if_lt}
use Rattle.theorems.proofs.Lists.Ones.{ones_of, ones_in}
use Rattle.theorems.proofs.Sets.Pigeon.{count_by, count_most}
use Rattle.theorems.proofs.Sets.Least.{sheet_is}
use Rattle.theorems.proofs.Cells.Chart.{place_one, place_zero}
use Rattle.theorems.proofs.Layers.Sheet.{sheet_own, sheet_live, sheet_of}
use Rattle.theorems.proofs.Layers.Half.{in_half_lem}
use Rattle.sheets.proofs.Halves.{half_half, half_back, size_half}
use Rattle.sheets.proofs.Spreading.{half_some, zeros_at, fresh_few, places_fresh}
use Rattle.sheets.proofs.Layers.{Closed, closed_all, closed_size}
use Rattle.picks.specs.Enter.{Entered, Enters}
use Rattle.picks.specs.Queued.{group, Queued}
use Rattle.picks.proofs.Alike.{alike_place, group_at}

-- the marks m and the queue w, of whose first `tail` words `taken` are taken off
pub record Taking (n : ℕ) (t : List ℕ) (d : ℕ) (m w : List ℕ) (taken tail : ℕ) : Type 0 where
  pub long : length m ≡ slots t
  pub words : length w ≡ slots t
  pub few : (x : ℕ) → get_or m x 0 ≤ 1
  pub within : (x : ℕ) → get_or m x 0 ≡ 1 → Marked (sheet n t d) x
  pub firsts : (x p : ℕ) → get_or m x 0 ≡ 1 → p < half n → get_or m (place n t x p) 0 ≡ 1
  pub listed : (i : ℕ) → i < tail → get_or m (get_or w i 0) 0 ≡ 1
  pub all : (x : ℕ) → get_or m x 0 ≡ 1 → (i : ℕ) × (i < tail) × (x ≡ get_or w i 0)
  pub once : (i j : ℕ) → i < j → j < tail → get_or w i 0 ≢ get_or w j 0
  pub gone : (i : ℕ) → i < taken → get_or m (link t n (get_or w i 0)) 0 ≡ 1
  pub low : taken ≤ tail
  pub alike : (c p : ℕ) → p < group n → group n * c + p < tail → Marked (sheet n t d) (link t 1 (get_or w (group n * c) 0))
      → Marked (sheet n t d) (link t 1 (get_or w (group n * c + p) 0))
  pub cells : (c : ℕ) × (tail ≡ half n * c)

module _ {n : ℕ} {t : List ℕ} {d : ℕ} (D : BlockDart n t d) where
  abbrev S : List ℕ
  S = sheet n t d

  taking_none : (w : List ℕ) → length w ≡ slots t → Taking n t d (replicate (slots t) 0) w 0 0
  taking_none w words = record {
    long = length-replicate (slots t) 0;
    words = words;
    few = λ x. rw (zeros_at (slots t) x) (omega arith);
    within = λ x e. absurd (none x e);
    firsts = λ x p e. absurd (none x e);
    listed = λ i h. absurd (omega arith);
    all = λ x e. absurd (none x e);
    once = λ i j a b. absurd (omega arith);
    gone = λ i h. absurd (omega arith);
    low = omega arith;
    alike = λ c p a b. absurd (omega arith);
    cells = (0, omega arith);
  }
    where
      none : (x : ℕ) → Marked (replicate (slots t) 0) x → ⊥
      none x e = let z = zeros_at (slots t) x in omega arith

  module _ {m w : List ℕ} {taken tail : ℕ} (P : Taking n t d m w taken tail) where
    tail_size : count 1 m ≡ tail
    tail_size = count_by m (λ i. get_or w i 0) tail P.all P.listed (λ a b ab h e. P.once a b ab h e)

    pub tail_few : tail ≤ slots t
    tail_few = let most = count_most m in let size = tail_size in let long = P.long in omega arith

    -- the words are darts, and link n of each is in the sheet
    pub word_dart : (i : ℕ) → i < tail → BlockDart n t (get_or w i 0)
    word_dart i h = record { table = D.table; lives = sheet_live D _ (P.within _ (P.listed i h)) }

    word_over : (i : ℕ) → i < tail → Marked (sheet n t d) (link t n (get_or w i 0))
    word_over i h =
        let x = get_or w i 0 in
        ones_of S (link t n x) ((sheet_of D).far x n D.table.dim.0 (omega arith) (ones_in S x (P.within x (P.listed i h))))

    -- a dart is taken off, whose link n has the mark 1
    taking_next : get_or m (link t n (get_or w taken 0)) 0 ≡ 1 → taken < tail → Taking n t d m w (taken + 1) tail
    taking_next one some = record {
      long = P.long;
      words = P.words;
      few = P.few;
      within = P.within;
      firsts = P.firsts;
      listed = P.listed;
      all = P.all;
      once = P.once;
      gone = λ i h. if_eq i taken (λ e. rw e one) (λ e. P.gone i (omega arith));
      low = omega arith;
      alike = P.alike;
      cells = P.cells;
    }

    -- ---- the first places of the cell of g, a dart of the sheet that has no mark

    module _ (g : ℕ) (in_sheet_lem : Marked (sheet n t d) g) (new : get_or m g 0 ≢ 1) where
      met_dart : BlockDart n t g
      met_dart = record { table = D.table; lives = sheet_live D g in_sheet_lem }

      abbrev c : ℕ → ℕ
      c = place n t g

      fresh : (j : ℕ) → j < half n → get_or m (c j) 0 ≢ 1
      fresh j h e =
          let (q, hq, back) = half_back D.table g met_dart.lives j h in
          new (rw back at (P.firsts (c j) q e hq))

      taking_room : tail + half n ≤ slots t
      taking_room =
          let few = fresh_few (places_fresh met_dart m P.long fresh) in
          let long = P.long in
          let size = tail_size in
          omega arith

      enters_of : Enters n t m w tail g
      enters_of = record { dart = met_dart; long = P.long; words = P.words; room = rw P.words taking_room }

      module _ {m' v : List ℕ} (Q : Entered m w tail (half n) (place n t g) m' v) where
        abbrev First : ℕ → Type 0
        First x = (k : ℕ) × (k < half n) × (x ≡ c k)

        ones_kept : (x : ℕ) → get_or m x 0 ≡ 1 → get_or m' x 0 ≡ 1
        ones_kept x e = ⊎_elim (λ same. same ∙ e) (λ (one, _). one) (Q.only x)

        one_cases : (x : ℕ) → get_or m' x 0 ≡ 1 → (get_or m x 0 ≡ 1) ⊎ First x
        one_cases x e = ⊎_elim (λ same. inl (sym same ∙ e)) (λ (_, f). inr f) (Q.only x)

        -- a word behind those that stood
        new_word : (i : ℕ) → tail ≤ i → i < tail + half n → get_or v i 0 ≡ c (i - tail)
        new_word i a b =
            let at : tail + (i - tail) ≡ i = omega arith in
            ap (λ (j : ℕ). get_or v j 0) (sym at) ∙ Q.listed (i - tail) (omega arith)

        once_next : (i j : ℕ) → i < j → j < tail + half n → get_or v i 0 ≢ get_or v j 0
        once_next i j ij h e = if_lt j tail
            (λ b. P.once i j ij b (sym (Q.kept i (omega arith)) ∙ e ∙ Q.kept j b))
            (λ b. if_lt i tail
            (λ a. fresh (j - tail) (omega arith) (rw (sym (new_word j b h), ← e, Q.kept i a) (P.listed i a)))
            (λ a.
            let same = place_one D.table g (i - tail) (j - tail) met_dart.lives
            (size_half D.table _ (omega arith)) (size_half D.table _ (omega arith))
            (sym (new_word i a (omega arith)) ∙ e ∙ new_word j b h) in
            omega arith))

        alike_next : (a p : ℕ) → p < group n → group n * a + p < tail + half n → Marked S (link t 1 (get_or v (group n * a) 0))
            → Marked S (link t 1 (get_or v (group n * a + p) 0))
        alike_next a p hp h one = if_lt (group n * a + p) tail
            (λ b. rw (Q.kept _ b) (P.alike a p hp b (rw (Q.kept (group n * a) (omega arith)) at one)))
            (λ b.
            let (z, is) = P.cells in
            let (e, at, low) = group_at n D.table.dim a p z hp (omega arith) (omega arith) in
            let start : get_or v (group n * a) 0 ≡ c (group n * e) =
            ap (λ (i : ℕ). get_or v i 0) (at ∙ ap (λ (i : ℕ). i + group n * e) (sym is)) ∙ Q.listed (group n * e) (omega arith) in
            let behind : get_or v (group n * a + p) 0 ≡ c (group n * e + p) =
            ap (λ (i : ℕ). get_or v i 0) (spot a e p z is at) ∙ Q.listed (group n * e + p) low in
            rw behind (alike_place D met_dart e p hp low (rw start at one)))
          where
            spot : (a e p z : ℕ) → tail ≡ half n * z → group n * a ≡ half n * z + group n * e → group n * a + p ≡ tail + (group n * e + p)
            spot a e p z is at = omega arith

        taking_enter : Taking n t d m' v taken (tail + half n)
        taking_enter = record {
          long = Q.long ∙ P.long;
          words = Q.words ∙ P.words;
          few = λ x. let few = P.few x in ⊎_elim (λ same. omega arith) (λ (one, _). omega arith) (Q.only x);
          within = λ x e. ⊎_elim (P.within x)
              (λ (k, h, at). rw at (ones_of S (c k) (in_half_lem D.table (sheet_of D) g k (ones_in S g in_sheet_lem) h))) (one_cases x e);
          firsts = λ x p e h. ⊎_elim (λ old. ones_kept _ (P.firsts x p old h))
              (λ (k, hk, at). let (q, hq, to) = half_half D.table g met_dart.lives k p hk h in rw (at, to) (Q.done q hq))
              (one_cases x e);
          listed = λ i h. if_lt i tail (λ b. rw (Q.kept i b) (ones_kept _ (P.listed i b)))
              (λ b. rw (new_word i b h) (Q.done (i - tail) (omega arith)));
          all = λ x e. ⊎_elim (λ old. let (i, h, at) = P.all x old in (i, omega arith, at ∙ sym (Q.kept i h)))
              (λ (k, h, at). (tail + k, omega arith, at ∙ sym (Q.listed k h))) (one_cases x e);
          once = once_next;
          gone = λ i h. let low = P.low in rw (Q.kept i (omega arith)) (ones_kept _ (P.gone i h));
          low = let low = P.low in omega arith;
          alike = alike_next;
          cells = let (z, is) = P.cells in (z + 1, omega arith);
        }

        -- g has the mark 1 then
        entered_own : get_or m' g 0 ≡ 1
        entered_own =
            let some = half_some n D.table.dim in
            ap (λ (x : ℕ). get_or m' x 0) (place_zero D.table g met_dart.lives) ∙ Q.done 0 some

    -- ---- all are taken off

    module _ (begun : get_or m d 0 ≡ 1) (end : tail ≤ taken) where
      closed : Closed D m
      closed = record {
        within = P.within;
        firsts = P.firsts;
        over = λ x one. let (i, h, at) = P.all x one in rw at (P.gone i (omega arith));
        begun = begun;
      }

      pub taken_marks : m ≡ sheet n t d
      taken_marks = ext_get_or 0 m S (P.long ∙ sym (sheet_is n t d).long) (λ x _. same x)
        where
          same : (x : ℕ) → get_or m x 0 ≡ get_or S x 0
          same x = ⊎_elim
              (λ zero. if_eq (get_or m x 0) 1 (λ one. one ∙ sym (P.within x one)) (λ other. let few = P.few x in omega arith))
              (λ one. closed_all D closed x one ∙ sym one) ((sheet_is n t d).bits x)

      pub taken_size : tail ≡ count 1 (sheet n t d)
      taken_size = sym tail_size ∙ closed_size D closed

      pub taken_queue : Queued n t d w tail
      taken_queue = record {
        within = λ i h. P.within _ (P.listed i h);
        all = λ x one. P.all x (closed_all D closed x one);
        once = P.once;
        alike = P.alike;
        cells = P.cells;
      }

-- ---- a dart y is met

-- d at first, then link n of the dart that was taken off last
abbrev pub Meeting : ℕ → List ℕ → ℕ → List ℕ → List ℕ → ℕ → ℕ → ℕ → Type 0
Meeting n t d m w taken tail y =
    (Taking n t d m w 0 0 × (taken ≡ 0) × (tail ≡ 0) × (y ≡ d))
    ⊎ ((k : ℕ) × Taking n t d m w k tail × (k < tail) × (taken ≡ k + 1) × (y ≡ link t n (get_or w k 0)) × (get_or m d 0 ≡ 1))

module _ {n : ℕ} {t : List ℕ} {d : ℕ} (D : BlockDart n t d) where
  pub meeting_first : (w : List ℕ) → length w ≡ slots t → Meeting n t d (replicate (slots t) 0) w 0 0 d
  meeting_first w words = inl (taking_none D w words, refl, refl, refl)

  pub meeting_next : {m w : List ℕ} {taken tail : ℕ} → Taking n t d m w taken tail → get_or m d 0 ≡ 1 → taken < tail
      → Meeting n t d m w (taken + 1) tail (link t n (get_or w taken 0))
  meeting_next {taken = taken} P begun some = inr (taken, P, some, refl, refl, begun)

  module _ {m w : List ℕ} {taken tail y : ℕ} (M : Meeting n t d m w taken tail y) where
    pub met_sheet : Marked (sheet n t d) y
    met_sheet = ⊎_elim (λ (_, _, _, is). rw is (sheet_own D)) (λ (k, P, some, _, is, _). rw is (word_over D P k some)) M

    pub met_length : (length m ≡ slots t) × (length w ≡ slots t)
    met_length = ⊎_elim (λ (P, _, _, _). (P.long, P.words)) (λ (_, P, _, _, _, _). (P.long, P.words)) M

    -- it has no mark: its cell can enter, and does
    module _ (none : get_or m y 0 ≡ 0) where
      new : get_or m y 0 ≢ 1
      new e = absurd (omega arith)

      pub met_enters : Enters n t m w tail y
      met_enters = ⊎_elim (λ (P, _, zero, _). rw zero (enters_of D P y met_sheet new))
          (λ (_, P, _, _, _, _). enters_of D P y met_sheet new) M

      pub met_new : {m' v : List ℕ} → Entered m w tail (half n) (place n t y) m' v
          → Taking n t d m' v taken (tail + half n) × (get_or m' d 0 ≡ 1)
      met_new {m'} {v} Q = ⊎_elim
          (λ (P, start, zero, is).
          let R = rw zero at Q in
          (rw (start, zero) (taking_enter D P y met_sheet new R), rw (← is) (entered_own D P y met_sheet new R)))
          (λ (k, P, some, next, is, begun).
          let led : get_or m' (link t n (get_or v k 0)) 0 ≡ 1 =
          ap (λ (x : ℕ). get_or m' (link t n x) 0) (Q.kept k some) ∙ ap (λ (x : ℕ). get_or m' x 0) (sym is)
          ∙ entered_own D P y met_sheet new Q in
          (rw next (taking_next D (taking_enter D P y met_sheet new Q) led (omega arith)), ones_kept D P y met_sheet new Q d begun)) M

    -- it has a mark
    pub met_old : get_or m y 0 ≢ 0 → Taking n t d m w taken tail × (get_or m d 0 ≡ 1)
    met_old some = ⊎_elim
        (λ (P, _, _, _). let (i, low, _) = P.all y (one P) in absurd (omega arith))
        (λ (k, P, low, next, is, begun). (rw next (taking_next D P (rw (← is) (one P)) low), begun)) M
      where
        one : {k l : ℕ} → Taking n t d m w k l → get_or m y 0 ≡ 1
        one P = let few = P.few y in omega arith
