-- Split keeps a block map: each half of a cell has a chart, by its spots (`half_chart`), and each cell without a dart of
-- the sheet keeps its own (`split_block`).
use Prim.Native.Nat.{ℕ, zero, suc, ◌≤◌, ◌<◌}
use mathlib.Core.Path.{◌≡◌, refl, sym, ap, ap₂, ◌∙◌, subst}
use mathlib.Core.Logic.{◌⊎◌, inl, inr, ⊎_elim}
use mathlib.Core.Bool.{Bool, true, not}
use mathlib.Core.List.Memᴰ.{cast as in-cast}
use mathlib.Core.List.{List, Memᴰ as In}
use native.Mathlib.Omega.{arith}
use lib.Dec.{ltb}
use borrow.Author.Tests.{eq-eqb, ne_eqb, ltb-true, lt-ltb, le-ltb, not-true, not-false}
use Rattle.model.specs.Lists.{all_below}
use Rattle.model.specs.Table.{link, walk, live}
use Rattle.model.specs.Cell.{cell_size}
use Rattle.model.specs.Numbering.{cell_link}
use Rattle.model.specs.NewDarts.{new_dart}
use Rattle.model.specs.Split.{split_by}
use Rattle.model.specs.Meaning.Lists.{member}
use Rattle.model.specs.Meaning.Maps.{BlockTable, Dim}
use Rattle.model.specs.Meaning.Places.{path, place, Chart}
use Rattle.model.specs.Meaning.Sheets.{half}
use Rattle.model.specs.Meaning.Splits.{Splitting}
use Rattle.theorems.proofs.Lists.Scan.{test, if_eq, if_lt, clash, and_l, and_r, below_at, below_not}
use Rattle.theorems.proofs.Lists.Ones.{member_in, in_member}
use Rattle.theorems.proofs.Maps.Dim.{two_cases, size_some}
use Rattle.theorems.proofs.Cells.Rows.{walk_rows, rows_in, path_small}
use Rattle.theorems.proofs.Cells.Chart.{Charted, block_by, chart_kept}
use Rattle.theorems.proofs.Cells.Chart.{place_chart, place_zero, place_live, place_back, place_one}
use Rattle.theorems.proofs.Layers.NewDarts.{Live, old, new, new_in, new_one, not_new}
use Rattle.theorems.proofs.Layers.Splitting.{spread, split_dart_link, split_kept}
use Rattle.theorems.proofs.Layers.Roles.{role_dart, live_role}
use Rattle.theorems.proofs.Layers.SplitRole.{role_to, role_word, sheet_rule, role_link}
use Rattle.theorems.proofs.Layers.SplitMap.{split_table_lem, split_live, live_split}
use Rattle.theorems.proofs.Layers.SplitSides.{split_straight}
use Rattle.theorems.proofs.Layers.Half.{half_size, in_half_lem, out_crosses}
use Rattle.theorems.proofs.Layers.Spots.{spots, Held, spot_valid, spots_chart}
use Rattle.theorems.proofs.Layers.SplitSpot.{Spot, spot, spot_link, spot_at, valid, across, half_spots, half_fitting}
use Rattle.theorems.proofs.Layers.SplitSpot.{word_small, role_held, place_held_lem, across_not_held}

valid_role : (n r p : ℕ) → valid n (spot (suc r) p) ≡ true → (r < n) × (p < half n)
unfolding valid
valid_role n r p v = (ltb-true r n (and_l (ltb r n) _ v), ltb-true p (half n) (and_r (ltb r n) _ v))

valid_place : (n p : ℕ) → valid n (spot 0 p) ≡ true → p < cell_size n
unfolding valid
valid_place n p v = ltb-true p (cell_size n) v

-- the half of g: the dart at a spot of it, the dart at a place of it, and its darts
module _ (n : ℕ) (t gs fs : List ℕ) (g : ℕ) where
  spot_dart : Spot → ℕ
  spot_dart (spot r p) = role_dart n gs fs r (place n t g p)

  pub half_dart : ℕ → ℕ
  half_dart k = spot_dart (spot_at n k)

  abbrev pub InHalf : ℕ → Type 0
  InHalf x = (k : ℕ) × (k < cell_size n) × (x ≡ half_dart k)

module _ {n : ℕ} {t gs fs : List ℕ} (C : Splitting n t gs fs) where
  abbrev after : List ℕ
  after = split_by n t gs fs

  abbrev B : BlockTable n t
  B = C.table

  abbrev dim : Dim n
  dim = C.table.dim

  some_link : 0 < n
  some_link = let two = dim.0 in omega arith

  out_half : (g p : ℕ) → In g gs → half n ≤ p → p < cell_size n → In (place n t g p) gs → ⊥
  out_half g p i l h k = let r = out_crosses B C.sheet g p i l h k in C.uncrossed r.0 r.1 r.2

  -- ---- the half of a dart of the sheet

  module _ (g : ℕ) (i : In g gs) where
    abbrev seen : ℕ → ℕ
    seen = place n t g

    abbrev at : Spot → ℕ
    at = spot_dart n t gs fs g

    lives : live t g ≡ true
    lives = C.sheet.lives g i

    seen_lives : (p : ℕ) → p < cell_size n → live t (seen p) ≡ true
    seen_lives p h = place_live B g p lives h

    seen_one : (p q : ℕ) → p < cell_size n → q < cell_size n → seen p ≡ seen q → p ≡ q
    seen_one p q hp hq e = place_one B g p q lives hp hq e

    in_sheet_lem : (p : ℕ) → p < half n → In (seen p) gs
    in_sheet_lem p h = in_half_lem B C.sheet g p i h

    spot_follows : (e : Spot) (j : ℕ) → valid n e ≡ true → j < n → link after j (at e) ≡ at (spot_link n j e)
    unfolding spot_dart spot_link role_dart
    spot_follows (spot zero p) j v b =
        let top = dim.1 in
        let h = valid_place n p v in
        let stays : (j ≡ 0 → In (seen p) gs → ⊥) → link after j (seen p) ≡ seen (cell_link n j p)
        = λ k. split_kept C (seen p) j (seen_lives p h) (omega arith) k ∙ (place_chart B g lives).follow j p b h in
        if_eq j 0
        (λ e. if_lt p (half n)
        (λ l. rw (eq-eqb j 0 e, lt-ltb p (half n) l, spot_link, e) (split_dart_link C (seen p) (in_sheet_lem p l)))
        (λ l. rw (eq-eqb j 0 e, le-ltb p (half n) l, spot_link) (stays (λ _. out_half g p i l h))))
        (λ e. rw (ne_eqb j 0 e, spot_link) (stays (λ z. absurd (e z))))
    spot_follows (spot (suc r) p) j v b =
        let top = dim.1 in
        let low = valid_role n r p v in
        let small = word_small n dim r j low.0 b in
        role_link C (suc r) (seen p) j low.0 (in_sheet_lem p low.1) (omega arith)
        ∙ ap (role_dart n gs fs (role_to n (suc r) j))
        (walk_rows n t seen dim (place_chart B g lives).follow (role_word n (suc r) j) p small (half_size n dim p low.1))

    spot_lives : (e : Spot) → valid n e ≡ true → Live n t gs fs (at e)
    unfolding spot_dart role_dart
    spot_lives (spot zero p) v = old (seen_lives p (valid_place n p v))
    spot_lives (spot (suc r) p) v = let low = valid_role n r p v in live_role C.sheet.lives (suc r) (seen p) low.0 (in_sheet_lem p low.1)

    old_not_new : (p r q : ℕ) → valid n (spot 0 p) ≡ true → valid n (spot (suc r) q) ≡ true
        → at (spot 0 p) ≡ at (spot (suc r) q) → ⊥
    unfolding spot_dart role_dart
    old_not_new p r q v w e =
        let low = valid_role n r q w in
        not_new (spread C) (seen p) (seen_lives p (valid_place n p v)) (in-cast e (new_in (spread C) r (seen q) low.0 (in_sheet_lem q low.1)))

    spot_one : (e f : Spot) → valid n e ≡ true → valid n f ≡ true → at e ≡ at f → e ≡ f
    unfolding spot_dart role_dart
    spot_one (spot zero p) (spot zero q) v w e = ap (spot 0) (seen_one p q (valid_place n p v) (valid_place n q w) e)
    spot_one (spot zero p) (spot (suc s) q) v w e = absurd (old_not_new p s q v w e)
    spot_one (spot (suc r) p) (spot zero q) v w e = absurd (old_not_new q r p w v (sym e))
    spot_one (spot (suc r) p) (spot (suc s) q) v w e =
        let a = valid_role n r p v in
        let b = valid_role n s q w in
        let one = new_one (spread C) r s (seen p) (seen q) a.0 b.0 (in_sheet_lem p a.1) (in_sheet_lem q b.1) e in
        ap₂ spot (ap suc one.0) (seen_one p q (half_size n dim p a.1) (half_size n dim q b.1) one.1)

    pub half_chart : Chart n after (half_dart n t gs fs g)
    unfolding half_dart
    half_chart = spots_chart (half_fitting n dim) after at spot_follows spot_one

    pub half_own : g ≡ half_dart n t gs fs g 0
    unfolding half_dart spot_dart role_dart spots place walk
    half_own = two_cases n dim (λ n. g ≡ half_dart n t gs fs g 0) refl refl

    pub half_live : live after (half_dart n t gs fs g 0) ≡ true
    unfolding half_dart
    half_live = split_live C _ (spot_lives (spot_at n 0) (spot_valid (half_fitting n dim) 0 (size_some n dim)))

    -- the dart across link 0 is not in the half
    pub across_out : InHalf n t gs fs g (link t 0 g) → ⊥
    unfolding half_dart spot_dart role_dart valid
    across_out (k, h, e) =
        let size = size_some n dim in
        let valid_across = lt-ltb _ _ (rows_in n 0 0 dim some_link size) in
        let here = ap (link t 0) (place_zero B g lives) ∙ (place_chart B g lives).follow 0 0 some_link size in
        let same = spot_one (spot_at n k) (spot 0 (cell_link n 0 0)) (spot_valid (half_fitting n dim) k h) valid_across (sym e ∙ here) in
        across_not_held n dim (k, h, same)

    -- what the half has of the table before are places of g
    old_seen : (e : Spot) → valid n e ≡ true → live t (at e) ≡ true → (p : ℕ) × (p < cell_size n) × (at e ≡ seen p)
    unfolding spot_dart role_dart
    old_seen (spot zero p) v l = (p, valid_place n p v, refl)
    old_seen (spot (suc r) p) v l =
        let low = valid_role n r p v in
        absurd (not_new (spread C) _ l (new_in (spread C) r (seen p) low.0 (in_sheet_lem p low.1)))

    pub half_old : (x : ℕ) → InHalf n t gs fs g x → live t x ≡ true → (p : ℕ) × (p < cell_size n) × (x ≡ place n t g p)
    unfolding half_dart
    half_old x (k, h, e) l =
        let (p, hp, q) = old_seen (spot_at n k) (spot_valid (half_fitting n dim) k h) (ap (live t) (sym e) ∙ l) in
        (p, hp, e ∙ q)

    held_in : (e : Spot) (x : ℕ) → Held n (half_spots n) e → x ≡ at e → InHalf n t gs fs g x
    unfolding half_dart
    held_in e x h q = (h.0, h.1, q ∙ ap at (sym h.2))

  -- ---- each dart is in a half, or in a cell that stays

  -- a place of a dart of the sheet: in its half, or in that of the dart across
  pub place_in_half : (g p : ℕ) → In g gs → p < cell_size n
      → InHalf n t gs fs g (place n t g p) ⊎ InHalf n t gs fs (link t 0 g) (place n t g p)
  unfolding spot_dart role_dart across place
  place_in_half g p i h = ⊎_elim (λ e. inl (held_in g i (spot 0 p) (place n t g p) e refl))
      (λ e. inr (held_in (link t 0 g) i₀ (spot 0 (across n p)) (place n t g p) e seen_across)) (place_held_lem n dim p h)
    where
      i₀ : In (link t 0 g) gs
      i₀ = C.sheet.along g i

      l₀ : live t (link t 0 g) ≡ true
      l₀ = C.sheet.lives (link t 0 g) i₀

      follow : (j k : ℕ) → j < n → k < cell_size n → link t j (place n t (link t 0 g) k) ≡ place n t (link t 0 g) (cell_link n j k)
      follow = (place_chart B (link t 0 g) l₀).follow

      back : g ≡ place n t (link t 0 g) (cell_link n 0 0)
      back = sym ((sheet_rule B C.sheet g i).comes 0 (omega arith)) ∙ ap (link t 0) (place_zero B (link t 0 g) l₀)
          ∙ follow 0 0 some_link (size_some n dim)

      seen_across : place n t g p ≡ place n t (link t 0 g) (across n p)
      seen_across = ap (walk t (path n p)) back ∙ walk_rows n t (place n t (link t 0 g)) dim follow
          (path n p) (cell_link n 0 0) (path_small n p dim h) (rows_in n 0 0 dim some_link (size_some n dim))

  -- no place of x is a dart of the sheet
  abbrev pub Untouched : ℕ → Type 0
  Untouched x = (k : ℕ) → k < cell_size n → In (place n t x k) gs → ⊥

  pub half_or : {P : Type 0} (x : ℕ) → live t x ≡ true → ((g : ℕ) → In g gs → InHalf n t gs fs g x → P) → (Untouched x → P) → P
  half_or x l f k =
      let off : ℕ → Bool = λ p. not (member gs (place n t x p)) in
      test (all_below (cell_size n) off)
      (λ h. k (λ p hp i. clash (in_member gs _ i) (not-true _ (below_at off (cell_size n) h p hp))))
      (λ h.
      let hit = below_not off (cell_size n) h in
      let g = place n t x hit.0 in
      let i = member_in gs g (not-false _ hit.2) in
      let back = place_back B x hit.0 l hit.1 in
      let at_x : (y : ℕ) → InHalf n t gs fs y (place n t g back.0) → InHalf n t gs fs y x
      = λ y. subst (InHalf n t gs fs y) (sym back.2) in
      ⊎_elim (λ w. f g i (at_x g w)) (λ w. f (link t 0 g) (C.sheet.along g i) (at_x (link t 0 g) w))
      (place_in_half g back.0 i back.1))

  -- a new dart is in the half of its dart
  pub new_in_half : (r g : ℕ) → r < n → In g gs → InHalf n t gs fs g (new_dart n gs fs r g)
  unfolding spot_dart role_dart
  new_in_half r g b i = held_in g i (spot (suc r) 0) (new_dart n gs fs r g) (role_held n dim (suc r) b)
      (ap (new_dart n gs fs r) (place_zero B g (C.sheet.lives g i)))

  -- ---- charts

  half_charted : (g x : ℕ) → In g gs → InHalf n t gs fs g x → Charted n after x
  half_charted g x i w = record {
    c = half_dart n t gs fs g;
    chart = half_chart g i;
    base = half_live g i;
    k = w.0;
    low = w.1;
    is = w.2;
  }

  untouched_charted : (x : ℕ) → live t x ≡ true → Untouched x → Charted n after x
  untouched_charted x l none = record {
    c = place n t x;
    chart = chart_kept B after (place n t x) (place_chart B x l)
        (λ j k hj hk. let top = dim.1 in split_kept C (place n t x k) j (place_live B x k l hk) (omega arith) (λ _. none k hk));
    base = split_live C _ (old (place_live B x 0 l (size_some n dim)));
    k = 0;
    low = size_some n dim;
    is = place_zero B x l;
  }

  pub split_block : BlockTable n (split_by n t gs fs)
  split_block = block_by (split_table_lem C) (λ x l. charted x (live_split C x l)) (split_straight C)
    where
      charted : (x : ℕ) → Live n t gs fs x → Charted n after x
      charted x (old l) = half_or x l (λ g i w. half_charted g x i w) (untouched_charted x l)
      charted x (new w) = half_charted w.of x w.member
          (subst (InHalf n t gs fs w.of) (sym w.is) (new_in_half w.role w.of w.low w.member))
