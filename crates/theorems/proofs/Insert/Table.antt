-- insert keeps a map (`laid_table`), by the laws of roles (`layer_roles`): words over the wall that lead back to where they began
-- (`back_spell`), and the words of a map's rules, computed over the roles (`rules_true`). The live slots after are the live ones before and the
-- new darts (`laid_live`, `live_laid`).
use Prim.Native.Nat.{ℕ, suc, ◌<◌}
use mathlib.Core.Path.{◌≡◌, refl, ap, ◌∙◌}
use mathlib.Core.Logic.{inl, ⊎_elim}
use mathlib.Core.Bool.{Bool, true, ◌&&◌, ◌||◌}
use mathlib.Core.List.{List, [], ◌∷◌, Memᴰ as In}
use native.Mathlib.Nat.{le_refl}
use native.Mathlib.Omega.{arith}
use lib.ListN.{get_or}
use lib.Dec.{eqb, ltb}
use borrow.Author.Tests.{eqb-true, ltb-true, ne_eqb, eq-eqb}
use Rattle.model.specs.Table.{link, live}
use Rattle.model.specs.Insert.{laid}
use Rattle.model.specs.Everything.{everything}
use Rattle.model.specs.Meaning.Maps.{BlockTable, MapTable, Dim, Rule}
use Rattle.model.specs.Meaning.Walls.{Wall}
use Rattle.theorems.proofs.Lists.Scan.{if_eq, below_two, and_l, and_r, or_cases}
use Rattle.theorems.proofs.Maps.Dim.{two_cases}
use Rattle.theorems.proofs.Maps.Tables.{map_table, rule_at}
use Rattle.theorems.proofs.Sewing.Side.{past}
use Rattle.theorems.proofs.Cells.Places.{same, same_eq}
use Rattle.theorems.proofs.Operations.Frame.{insert_frame}
use Rattle.theorems.proofs.Layers.NewDarts.{Live}
use Rattle.theorems.proofs.Layers.Roles.{role_dart, RoleRows, Roles, rules_hold, rules, roles_table, roles_live, live_roles}
use Rattle.theorems.proofs.Insert.Laid.{Laying, spread, laid_slots, laid_whole}
use Rattle.theorems.proofs.Insert.Role.{letter, spell, letter_next, letter_link, spell_append, keeps, keeps_wall}
use Rattle.theorems.proofs.Insert.Role.{letter_keeps, spell_keeps, role_to, role_word, role_link}

-- ---- words that lead back

-- twice a letter
twice : ℕ → List ℕ → Bool
twice n w = same w (get_or w 0 0 ∷ get_or w 0 0 ∷ []) && keeps n (get_or w 0 0)

-- the letters a and b go past each other: link n and next or a link below n-1; for n = 3 link 0 and next
goes_past : ℕ → ℕ → ℕ → Bool
goes_past n a b = (eqb a n && (eqb b 4 || ltb (suc b) n)) || (eqb n 3 && (eqb a 0 && eqb b 4))

-- a, b, a, b
square : ℕ → List ℕ → Bool
square n w = same w (get_or w 0 0 ∷ get_or w 1 0 ∷ get_or w 0 0 ∷ get_or w 1 0 ∷ []) && goes_past n (get_or w 0 0) (get_or w 1 0)

pub leads_back : ℕ → List ℕ → Bool
leads_back n w = same w [] || (twice n w || square n w)

module _ {n : ℕ} {t hs : List ℕ} {nx : ℕ → ℕ} (B : BlockTable n t) (W : Wall n t hs nx) where
  rule : (x : ℕ) → live t x ≡ true → Rule n t x
  rule = rule_at (map_table B)

  abbrev go : ℕ → ℕ → ℕ
  go = letter t nx

  letter_back : (j x : ℕ) → keeps n j ≡ true → In x hs → go j (go j x) ≡ x
  unfolding keeps
  letter_back j x h i = if_eq j 4
      (λ e. rw (e, letter_next t nx x, letter_next t nx (nx x)) (W.back x i))
      (λ e.
      let top = B.dim.1 in
      let b : j < 4 = ⊎_elim (λ q. absurd (e (eqb-true j 4 q))) (λ r. ⊎_elim (λ q. let s = eqb-true j n q in omega arith)
      (λ q. let s = ltb-true (suc j) n q in omega arith) (or_cases (eqb j n) _ r)) (or_cases (eqb j 4) _ h) in
      rw (letter_link t nx j x b, letter_link t nx j (link t j x) b) ((rule x (W.lives x i)).comes j b))

  -- the letters go past each other
  Past : ℕ → ℕ → Type 0
  Past a b = (x : ℕ) → In x hs → go b (go a x) ≡ go a (go b x)

  past_next : Past n 4
  unfolding Past
  past_next x i =
      let top = B.dim.1 in
      rw (letter_next t nx (go n x), letter_next t nx x, letter_link t nx n x (omega arith), letter_link t nx n (nx x) (omega arith))
      (W.level x i)

  past_low : (b : ℕ) → suc b < n → Past n b
  unfolding Past
  past_low b h x i =
      let top = B.dim.1 in
      rw (
        letter_link t nx b (go n x) (omega arith),
        letter_link t nx b x (omega arith),
        letter_link t nx n x (omega arith),
        letter_link t nx n (link t b x) (omega arith),
      )
      (past (map_table B) x (W.lives x i) b n (omega arith) (le_refl n) (inl (omega arith)))

  past_first : n ≡ 3 → Past 0 4
  unfolding Past
  past_first e x i =
      rw (letter_next t nx (go 0 x), letter_next t nx x, letter_link t nx 0 x (omega arith), letter_link t nx 0 (nx x) (omega arith))
      (W.far x e i)

  goes_past_lem : (a b : ℕ) → goes_past n a b ≡ true → (keeps n a ≡ true) × (keeps n b ≡ true) × Past a b
  unfolding goes_past keeps Past
  goes_past_lem a b h = ⊎_elim
      (λ p.
      let q = eqb-true a n (and_l (eqb a n) _ p) in
      ⊎_elim
      (λ r. let s = eqb-true b 4 r in rw (q, s) (first, refl, past_next))
      (λ r. rw q (first, second r, past_low b (ltb-true (suc b) n r))) (or_cases (eqb b 4) _ (and_r (eqb a n) _ p)))
      (λ p.
      let three = eqb-true n 3 (and_l (eqb n 3) _ p) in
      let ab = and_r (eqb n 3) _ p in
      let qa = eqb-true a 0 (and_l (eqb a 0) _ ab) in
      let qb = eqb-true b 4 (and_r (eqb a 0) _ ab) in
      rw (qa, qb) (rw three, refl, past_first three)) (or_cases (eqb a n && (eqb b 4 || ltb (suc b) n)) _ h)
    where
      first : (eqb n 4 || (eqb n n || ltb (suc n) n)) ≡ true
      first = let top = B.dim.1 in rw (ne_eqb n 4 (omega arith), eq-eqb n n refl)

      second : ltb (suc b) n ≡ true → (eqb b 4 || (eqb b n || ltb (suc b) n)) ≡ true
      second r =
          let top = B.dim.1 in
          let low = ltb-true (suc b) n r in
          rw (ne_eqb b 4 (omega arith), ne_eqb b n (omega arith), r)

  back_spell : (w : List ℕ) (g : ℕ) → leads_back n w ≡ true → In g hs → spell t nx w g ≡ g
  unfolding leads_back twice square spell Past
  back_spell w g h i = ⊎_elim
      (λ p. ap (λ (v : List ℕ). spell t nx v g) (same_eq w [] p))
      (λ p. ⊎_elim by_letter by_square (or_cases (twice n w) _ p)) (or_cases (same w []) _ h)
    where
      by_letter : twice n w ≡ true → spell t nx w g ≡ g
      by_letter p =
          let a = get_or w 0 0 in
          let pair = same w (a ∷ a ∷ []) in
          ap (λ (v : List ℕ). spell t nx v g) (same_eq w (a ∷ a ∷ []) (and_l pair _ p)) ∙ letter_back a g (and_r pair _ p) i

      by_square : square n w ≡ true → spell t nx w g ≡ g
      by_square p =
          let a = get_or w 0 0 in
          let b = get_or w 1 0 in
          let four = same w (a ∷ b ∷ a ∷ b ∷ []) in
          let (ka, kb, swap) = goes_past_lem a b (and_r four _ p) in
          ap (λ (v : List ℕ). spell t nx v g) (same_eq w (a ∷ b ∷ a ∷ b ∷ []) (and_l four _ p))
          ∙ ap (λ (z : ℕ). go b (go a z)) (swap g i)
          ∙ ap (go b) (letter_back a (go b g) ka (letter_keeps B.dim W b g kb i)) ∙ letter_back b g kb i

-- ---- the rows

abbrev pub layer_rows : ℕ → RoleRows
layer_rows n = record { changed = n; to = role_to n; word = role_word n; keeps = keeps_wall n; back = leads_back n }

-- to unfold `computed` is to unfold what tests of the rows compute with
unfoldable pub computed : Unit {0}
unfolding everything rules leads_back twice square goes_past role_to role_word keeps keeps_wall
computed = tt

rules_true : (n : ℕ) → Dim n → rules_hold n (layer_rows n) ≡ true
unfolding computed
rules_true n dim = two_cases n dim (λ n. rules_hold n (layer_rows n) ≡ true) refl refl

module _ {n : ℕ} {t hs fs : List ℕ} {nx : ℕ → ℕ} (C : Laying n t hs fs nx) where
  abbrev after : List ℕ
  after = laid n t hs fs nx

  abbrev role : ℕ → ℕ → ℕ
  role = role_dart n hs fs

  -- for n = 2 link 3 is the dart itself
  role_plane : (r h : ℕ) → n ≡ 2 → r < n → In h hs → link after 3 (role (suc r) h) ≡ role (suc r) h
  unfolding role_to role_word spell
  role_plane r h two b i = role_link C (suc r) h 3 b i (omega arith)
      ∙ rw two (below_two (λ r. role_dart 2 hs fs (role_to 2 (suc r) 3) (spell t nx (role_word 2 (suc r) 3) h) ≡ role_dart 2 hs fs (suc r) h)
      refl refl r (omega arith))

  pub layer_roles : Roles n (layer_rows n) t (laid n t hs fs nx) hs fs (spell t nx)
  unfolding spell
  layer_roles = record {
    table = map_table C.table;
    spread = spread C;
    top = le_refl n;
    lives = C.wall.lives;
    over = C.wall.over;
    far = λ x j top two m. C.wall.along x j (⊎_elim (λ b. b) (λ b. absurd (omega arith)) two) m;
    none = λ g. refl;
    both = spell_append t nx;
    within = λ w g h i. spell_keeps C.table.dim C.wall w g h i;
    home = λ w g h i. back_spell C.table C.wall w g h i;
    rules = rules_true n C.table.dim;
    same = laid_slots C;
    whole = laid_whole C;
    rows = role_link C;
    rest = λ x j low b k off. insert_frame t C.table.whole x low n hs fs nx k j b off;
    plane = role_plane;
  }

  pub laid_table : MapTable n (laid n t hs fs nx)
  laid_table = roles_table layer_roles

  pub laid_live : (x : ℕ) → Live n t hs fs x → live (laid n t hs fs nx) x ≡ true
  laid_live = roles_live layer_roles

  pub live_laid : (x : ℕ) → live (laid n t hs fs nx) x ≡ true → Live n t hs fs x
  live_laid = live_roles layer_roles
