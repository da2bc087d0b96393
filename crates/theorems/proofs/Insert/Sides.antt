-- insert folds no side (`laid_straight`): an old side stays; the side of p(h) has darts p only, and its link n leads to h; the side of
-- q(h), in 3D with r, has those of h and h.n, in 3D of h.0 and h.0.n too, and next(h) is none of these darts but h itself.
use Prim.Native.Nat.{ℕ, zero, suc, ◌+◌, ◌-◌, ◌≤◌, ◌<◌}
use mathlib.Core.Path.{◌≡◌, refl, sym, ap, ap₂, ◌∙◌, subst}
use mathlib.Core.Logic.{inl, ⊎_elim}
use mathlib.Core.Bool.{Bool, true, ◌&&◌, ◌||◌}
use mathlib.Core.List.Memᴰ.{cast as in-cast}
use mathlib.Core.List.{List, [], ◌∷◌, Memᴰ as In}
use native.Mathlib.Nat.{le_refl}
use native.Mathlib.Omega.{arith}
use lib.Dec.{eqb, leb}
use borrow.Author.Tests.{eqb-true, leb-true}
use Rattle.model.specs.Lists.{all_below}
use Rattle.model.specs.Table.{link, live}
use Rattle.model.specs.Sew.{side}
use Rattle.model.specs.NewDarts.{new_dart}
use Rattle.model.specs.Insert.{laid}
use Rattle.model.specs.Meaning.Maps.{Dim, Rule, Straight}
use Rattle.model.specs.Meaning.Sets.{Marked}
use Rattle.model.specs.Meaning.Pairings.{OnSide}
use Rattle.model.specs.Meaning.Walls.{Clear}
use Rattle.theorems.proofs.Lists.Scan.{and_l, and_r, or_cases, below_at, below_both}
use Rattle.theorems.proofs.Lists.Ones.{in_or}
use Rattle.theorems.proofs.Maps.Dim.{two_cases}
use Rattle.theorems.proofs.Maps.Tables.{map_table, rule_at}
use Rattle.theorems.proofs.Sewing.Side.{past, on_side, side_live, side_within, side_shrinks, straight_kept}
use Rattle.theorems.proofs.Cells.Places.{same, same_eq}
use Rattle.theorems.proofs.Cells.Chart.{block_straight}
use Rattle.theorems.proofs.Layers.NewDarts.{Live, old, new, new_in, new_one, not_new}
use Rattle.theorems.proofs.Layers.Roles.{role_dart}
use Rattle.theorems.proofs.Insert.Laid.{Laying, spread, laid_wall, laid_kept}
use Rattle.theorems.proofs.Insert.Role.{spell, letter_next, letter_link, role_to, role_word, role_link}
use Rattle.theorems.proofs.Insert.Table.{computed, live_laid}

-- ---- the rows of a side, computed

-- link j leads from p to p, by the same link
p_row : ℕ → ℕ → Bool
p_row n j = eqb (role_to n 1 j) 1 && same (role_word n 1 j) (j ∷ [])

-- link j leads from q or r to q or r, of the same dart, or over link n, or for n = 3 over link 0; the role is r + 2
q_row : ℕ → ℕ → ℕ → Bool
q_row n r j =
    (leb 2 (role_to n (suc (suc r)) j) && leb (role_to n (suc (suc r)) j) n)
    && (same (role_word n (suc (suc r)) j) [] || (same (role_word n (suc (suc r)) j) (n ∷ [])
    || (eqb n 3 && same (role_word n (suc (suc r)) j) (0 ∷ []))))

-- and link n leads over next, to the same role
over_row : ℕ → ℕ → Bool
over_row n r = eqb (role_to n (suc (suc r)) n) (suc (suc r)) && same (role_word n (suc (suc r)) n) (4 ∷ [])

record Rows (n : ℕ) : Type 0 where
  p : all_below (n - 1) (p_row n) ≡ true
  p_over : (role_to n 1 n ≡ 0) × (role_word n 1 n ≡ [])
  q : all_below (n - 1) (λ r. all_below (n - 1) (q_row n r)) ≡ true
  q_over : all_below (n - 1) (over_row n) ≡ true

rows : (n : ℕ) → Dim n → Rows n
unfolding computed p_row q_row over_row
rows n dim = two_cases n dim Rows
    (record { p = refl; p_over = (refl, refl); q = refl; q_over = refl })
    (record { p = refl; p_over = (refl, refl); q = refl; q_over = refl })

module _ {n : ℕ} {t hs fs : List ℕ} {nx : ℕ → ℕ} (C : Laying n t hs fs nx) where
  abbrev after : List ℕ
  after = laid n t hs fs nx

  abbrev role : ℕ → ℕ → ℕ
  role = role_dart n hs fs

  abbrev dim : Dim n
  dim = C.table.dim

  rule : (x : ℕ) → live t x ≡ true → Rule n t x
  rule = rule_at (map_table C.table)

  -- ---- an old side stays

  old_straight : (x : ℕ) → live t x ≡ true → Straight n after x
  old_straight x l m = ⊎_elim
      (λ i.
      let two = dim.0 in
      let lives = side_live on (link after n x) (side_shrinks on after stays (link after n x) m) in
      absurd (not_new (spread C) _ lives (in-cast (laid_wall C x i) (new_in (spread C) 0 x (omega arith) i))))
      (λ off.
      let top = dim.1 in
      straight_kept on after stays (laid_kept C x n l (omega arith) (λ _. off)) (block_straight C.table x l) m) (in_or hs x)
    where
      on : OnSide n t n x
      on = on_side (map_table C.table) x l

      stays : (y j : ℕ) → j + 2 ≤ n → Marked (side n t n x) y → link after j y ≡ link t j y
      stays y j near my = let top = dim.1 in laid_kept C y j (side_live on y my) (omega arith) (λ e. absurd (omega arith))

  -- ---- the side of p

  abbrev IsP : ℕ → Type 0
  IsP y = (g : ℕ) × In g hs × (y ≡ role 1 g)

  p_side : (h : ℕ) → In h hs → (y : ℕ) → Marked (side n after n (role 1 h)) y → IsP y
  unfolding p_row spell
  p_side h i = side_within n after (role 1 h) IsP (h, i, refl) (λ y j b (g, k, e).
      let top = dim.1 in
      let row = below_at (p_row n) (n - 1) (rows n dim).p j (omega arith) in
      let to = eqb-true _ _ (and_l (eqb (role_to n 1 j) 1) _ row) in
      let word = same_eq (role_word n 1 j) (j ∷ []) (and_r (eqb (role_to n 1 j) 1) _ row) in (
        link t j g,
        C.wall.along g j (omega arith) k,
        ap (link after j) e ∙ role_link C 1 g j (omega arith) k (omega arith)
            ∙ ap₂ role to (ap (λ (w : List ℕ). spell t nx w g) word ∙ letter_link t nx j g (omega arith)),
      ))

  p_straight : (h : ℕ) → In h hs → Straight n after (role 1 h)
  unfolding spell role_dart
  p_straight h i m =
      let top = dim.1 in
      let two = dim.0 in
      let (to, word) = (rows n dim).p_over in
      let leads : link after n (role 1 h) ≡ h
      = role_link C 1 h n (omega arith) i (omega arith) ∙ ap₂ role to (ap (λ (w : List ℕ). spell t nx w h) word) in
      let (g, k, e) = p_side h i _ m in
      absurd (not_new (spread C) h (C.wall.lives h i) (in-cast (sym leads ∙ e) (new_in (spread C) 0 g (omega arith) k)))

  -- ---- the side of q and r

  -- g is h, h.n, and for n = 3 h.0 or h.0.n
  data Around (h g : ℕ) : Type 0 where
    here : g ≡ h → Around h g
    over : g ≡ link t n h → Around h g
    along : n ≡ 3 → g ≡ link t 0 h → Around h g
    across : n ≡ 3 → g ≡ link t n (link t 0 h) → Around h g

  module _ (h : ℕ) (i : In h hs) where
    lives : live t h ≡ true
    lives = C.wall.lives h i

    lives_0 : live t (link t 0 h) ≡ true
    lives_0 = (rule h lives).goes 0 (omega arith)

    past_0 : link t 0 (link t n h) ≡ link t n (link t 0 h)
    past_0 = past (map_table C.table) h lives 0 n (omega arith) (le_refl n) (inl dim.0)

    past_00 : link t 0 (link t n (link t 0 h)) ≡ link t n h
    past_00 = past (map_table C.table) (link t 0 h) lives_0 0 n (omega arith) (le_refl n) (inl dim.0)
        ∙ ap (link t n) ((rule h lives).comes 0 (omega arith))

    around_over : (g : ℕ) → Around h g → Around h (link t n g)
    around_over g (here e) = over (ap (link t n) e)
    around_over g (over e) = let top = dim.1 in here (ap (link t n) e ∙ (rule h lives).comes n (omega arith))
    around_over g (along q e) = across q (ap (link t n) e)
    around_over g (across q e) = let top = dim.1 in along q (ap (link t n) e ∙ (rule (link t 0 h) lives_0).comes n (omega arith))

    around_along : n ≡ 3 → (g : ℕ) → Around h g → Around h (link t 0 g)
    around_along three g (here e) = along three (ap (link t 0) e)
    around_along three g (over e) = across three (ap (link t 0) e ∙ past_0)
    around_along three g (along q e) = here (ap (link t 0) e ∙ (rule h lives).comes 0 (omega arith))
    around_along three g (across q e) = over (ap (link t 0) e ∙ past_00)

    -- y is q or r of such a dart
    abbrev IsQ : ℕ → Type 0
    IsQ y = (r : ℕ) × (suc r < n) × (g : ℕ) × In g hs × Around h g × (y ≡ role (suc (suc r)) g)

    q_word : (w : List ℕ) (g : ℕ) → In g hs → Around h g → (same w [] || (same w (n ∷ []) || (eqb n 3 && same w (0 ∷ [])))) ≡ true
        → In (spell t nx w g) hs × Around h (spell t nx w g)
    unfolding spell
    q_word w g k a e = ⊎_elim
        (λ q. rw (same_eq w [] q) (k, a))
        (λ r. ⊎_elim by_over by_along (or_cases (same w (n ∷ [])) (eqb n 3 && same w (0 ∷ [])) r))
        (or_cases (same w []) (same w (n ∷ []) || (eqb n 3 && same w (0 ∷ []))) e)
      where
        top : n < 4
        top = let b = dim.1 in omega arith

        by_over : same w (n ∷ []) ≡ true → In (spell t nx w g) hs × Around h (spell t nx w g)
        by_over q = rw (same_eq w (n ∷ []) q, letter_link t nx n g top) (C.wall.over g k, around_over g a)

        by_along : (eqb n 3 && same w (0 ∷ [])) ≡ true → In (spell t nx w g) hs × Around h (spell t nx w g)
        by_along q =
            let three = eqb-true n 3 (and_l (eqb n 3) (same w (0 ∷ [])) q) in
            let low : 0 < 4 = omega arith in
            rw (same_eq w (0 ∷ []) (and_r (eqb n 3) (same w (0 ∷ [])) q), letter_link t nx 0 g low)
            (C.wall.along g 0 (omega arith) k, around_along three g a)

    role_more : (q : ℕ) → 2 ≤ q → q ≤ n → (r : ℕ) × (suc r < n) × (q ≡ suc (suc r))
    role_more q a b = (q - 2, omega arith, omega arith)

    q_step : (s j g : ℕ) → suc s < n → j + 2 ≤ n → In g hs → Around h g → IsQ (link after j (role (suc (suc s)) g))
    unfolding q_row
    q_step s j g bs c k a = next (role_more to (leb-true 2 to (and_l (leb 2 to) _ bounds)) (leb-true to n (and_r (leb 2 to) _ bounds)))
        (q_word word g k a (and_r (leb 2 to && leb to n) _ row))
      where
        to : ℕ
        to = role_to n (suc (suc s)) j

        word : List ℕ
        word = role_word n (suc (suc s)) j

        row : ((leb 2 to && leb to n) && (same word [] || (same word (n ∷ []) || (eqb n 3 && same word (0 ∷ []))))) ≡ true
        row = below_both (q_row n) (n - 1) (n - 1) (rows n dim).q s j (omega arith) (omega arith)

        bounds : (leb 2 to && leb to n) ≡ true
        bounds = and_l (leb 2 to && leb to n) _ row

        next : (r : ℕ) × (suc r < n) × (to ≡ suc (suc r)) → In (spell t nx word g) hs × Around h (spell t nx word g)
            → IsQ (link after j (role (suc (suc s)) g))
        next (q, bq, e) (i', a') = let top = dim.1 in (
          q,
          bq,
          spell t nx word g,
          i',
          a',
          role_link C (suc (suc s)) g j bs k (omega arith) ∙ ap (λ (z : ℕ). role z (spell t nx word g)) e,
        )

    q_side : (r : ℕ) → suc r < n → (y : ℕ) → Marked (side n after n (role (suc (suc r)) h)) y → IsQ y
    q_side r b = side_within n after (role (suc (suc r)) h) IsQ (r, b, h, i, here refl, refl)
        (λ y j c (s, bs, g, k, a, e). subst (λ (z : ℕ). IsQ (link after j z)) (sym e) (q_step s j g bs c k a))

    q_over : (r : ℕ) → suc r < n → link after n (role (suc (suc r)) h) ≡ role (suc (suc r)) (nx h)
    unfolding over_row spell
    q_over r b =
        let top = dim.1 in
        let row = below_at (over_row n) (n - 1) (rows n dim).q_over r (omega arith) in
        let ends = eqb (role_to n (suc (suc r)) n) (suc (suc r)) in
        role_link C (suc (suc r)) h n b i (omega arith)
        ∙ ap₂ role (eqb-true _ _ (and_l ends _ row))
        (ap (λ (w : List ℕ). spell t nx w h) (same_eq (role_word n (suc (suc r)) n) (4 ∷ []) (and_r ends _ row)) ∙ letter_next t nx h)

    module _ (clear : Clear n t hs nx) where
      around_next : Around h (nx h) → nx h ≡ h
      around_next (here e) = e
      around_next (over e) = absurd (clear.over h i e)
      around_next (along q e) = absurd (clear.along h q i e)
      around_next (across q e) = absurd (clear.across h q i e)

      q_straight : (r : ℕ) → suc r < n → Straight n after (role (suc (suc r)) h)
      unfolding role_dart
      q_straight r b m =
          let (s, bs, g, k, a, e) = q_side r b _ m in
          let one = new_one (spread C) (suc r) (suc s) (nx h) g b bs (C.wall.on h i) k (sym (q_over r b) ∙ e) in
          q_over r b ∙ ap (role (suc (suc r))) (around_next (subst (Around h) (sym one.1) a))

  -- ---- all sides

  pub laid_straight : Clear n t hs nx → (x : ℕ) → live (laid n t hs fs nx) x ≡ true → Straight n (laid n t hs fs nx) x
  unfolding role_dart
  laid_straight clear x l = go x (live_laid C x l)
    where
      by_role : (r h : ℕ) → r < n → In h hs → Straight n after (new_dart n hs fs r h)
      by_role zero h b i = p_straight h i
      by_role (suc r) h b i = q_straight h i clear r b

      go : (x : ℕ) → Live n t hs fs x → Straight n after x
      go x (old l) = old_straight x l
      go x (new w) = subst (Straight n after) (sym w.is) (by_role w.role w.of w.low w.member)
