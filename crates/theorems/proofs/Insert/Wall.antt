-- What the passed checks of insert (`Inserts`) say of its wall: it is drawn (`drawn_of`), it is a wall in R-5's words (`wall_of`,
-- `clear_of`, `joined_of`), and it is not empty (`wall_some`). `wall_reached_is`: what is reached from the wall's first dart.
use Prim.Native.Nat.{ℕ, suc, ◌*◌, ◌-◌, ◌≤◌, ◌<◌}
use mathlib.Core.Path.{◌≡◌, refl, sym, ap, ◌∙◌, subst}
use mathlib.Core.Logic.{inl, inr, ◌≢◌, ◌↔◌, ⊎_elim}
use mathlib.Core.Bool.{Bool, true, false, not, ◌&&◌, ◌||◌}
use mathlib.Core.List.Memᴰ.{eq_of_singleton as sole}
use mathlib.Core.List.Memᴰ.{head as here}
use mathlib.Core.List.{List, [], ◌∷◌, Memᴰ as In}
use mathlib.Core.List.Memᴰ.{cast as in-cast}
use native.Mathlib.Nat.{le_refl}
use native.Mathlib.Omega.{arith}
use lib.ListN.{length, get_or, get_or-eq_default}
use lib.Dec.{eqb, ltb}
use borrow.Author.Tests.{eqb-true, eqb-false, eq-eqb, ne_eqb, ltb-true, not-true}
use Rattle.model.specs.Lists.{ones}
use Rattle.model.specs.Table.{slots, link, live, relink, relink_at}
use Rattle.model.specs.Reach.{in_set, steps, links}
use Rattle.model.specs.Sew.{side}
use Rattle.model.specs.Wall.{ends_free, next, drawn, closed_at, enclosed, sewn_wall, both_free, next_over, next_apart, turns_well}
use Rattle.model.specs.Wall.{wall_table, wall_reached, connected}
use Rattle.model.specs.Meaning.Maps.{BlockTable, Dim, Rule}
use Rattle.model.specs.Meaning.Sets.{Marked, Bits, LeastSet, Least}
use Rattle.model.specs.Meaning.Walls.{Drawn, WallStep, Wall, Clear, Joined, Inserts}
use Rattle.theorems.proofs.Lists.Scan.{if_eq, if_lt, and_l, and_r, and_i, or_cases, below_at}
use Rattle.theorems.proofs.Lists.Ones.{get_or_in, ones_of, ones_in, each_at, marked_pass}
use Rattle.theorems.proofs.Sets.Closure.{closure_least, marked_in}
use Rattle.theorems.proofs.Sets.Links.{step_in, step_of}
use Rattle.theorems.proofs.Maps.Rules.{link_retable, slots_retable, at_same, at_other}
use Rattle.theorems.proofs.Maps.Tables.{map_table, rule_at}
use Rattle.theorems.proofs.Sewing.Side.{on_side, side_own, side_far}
use Rattle.theorems.proofs.Cells.Chart.{block_straight}
use Rattle.theorems.proofs.Insert.Turn.{moves_on, next_on, next_back, next_far, next_free}

-- ---- 28 and 29

pub marked_live : (t m : List ℕ) → length m ≡ slots t → drawn t m ≡ true → (x : ℕ) → Marked m x → live t x ≡ true
unfolding drawn
marked_live t m long drawing x h =
    let low = marked_in m x h in
    let row = below_at (λ d. eqb (get_or m d 0) 0 || (eqb (get_or m d 0) 1 && live t d)) (slots t) drawing x (rw long at low) in
    ⊎_elim (λ e. absurd (let z = eqb-true (get_or m x 0) 0 e in omega arith)) (and_r (eqb (get_or m x 0) 1) (live t x))
    (or_cases (eqb (get_or m x 0) 0) _ row)

module _ {n : ℕ} {t : List ℕ} (m : List ℕ) (B : BlockTable n t) (long : length m ≡ slots t) (drawing : drawn t m ≡ true)
    (enclosing : enclosed n t m ≡ true) where
  bits : Bits m
  unfolding drawn
  bits x = if_lt x (slots t)
      (λ low.
      let row = below_at (λ d. eqb (get_or m d 0) 0 || (eqb (get_or m d 0) 1 && live t d)) (slots t) drawing x low in
      ⊎_elim (λ e. inl (eqb-true _ _ e)) (λ e. inr (eqb-true _ _ (and_l (eqb (get_or m x 0) 1) _ e))) (or_cases (eqb (get_or m x 0) 0) _ row))
      (λ high. inl (get_or-eq_default m 0 (omega arith)))

  pub some_dart : 0 < length (ones m)
  unfolding enclosed
  some_dart = ltb-true _ _ (and_l (ltb 0 (length (ones m))) _ enclosing)

  closed : (x j : ℕ) → j ≤ n → j ≢ n - 1 → Marked m x → Marked m (link t j x)
  unfolding enclosed closed_at in_set
  closed x j b ne h =
      let row = (marked_pass (closed_at n t m) m).0 (and_r (ltb 0 (length (ones m))) _ enclosing) x h in
      let at = below_at (λ j. eqb j (n - 1) || in_set m (link t j x)) (suc n) row j (omega arith) in
      ⊎_elim (λ e. absurd (ne (eqb-true _ _ e))) (eqb-true _ _) (or_cases (eqb j (n - 1)) _ at)

  pub drawn_by : Drawn n t m
  drawn_by = record {
    table = B;
    lives = marked_live t m long drawing;
    along = λ x j far. closed x j (omega arith) (omega arith);
    over = λ x. let two = B.dim.0 in closed x n (le_refl n) (omega arith);
  }

-- ---- 32

module _ (n : ℕ) (t m : List ℕ) (dim : Dim n) (whole : length t ≡ 4 * slots t) where
  joint_slots : slots (wall_table n t m) ≡ slots t
  unfolding wall_table relink
  joint_slots = slots_retable t (relink_at t (n - 1) (next n t m)) whole

  joint_next : (x : ℕ) → x < slots t → link (wall_table n t m) (n - 1) x ≡ next n t m x
  unfolding wall_table relink
  joint_next x low =
      link_retable t (relink_at t (n - 1) (next n t m)) whole x (n - 1) low (omega arith) ∙ at_same t (n - 1) (next n t m) x

  joint_link : (x j : ℕ) → j ≤ n → j ≢ n - 1 → x < slots t → link (wall_table n t m) j x ≡ link t j x
  unfolding wall_table relink
  joint_link x j b ne low =
      link_retable t (relink_at t (n - 1) (next n t m)) whole x j low (omega arith) ∙ at_other t (n - 1) (next n t m) x j ne

  abbrev first : ℕ
  first = get_or (ones m) 0 0

  least : Least (steps (wall_table n t m) (links n (λ _. true))) (slots (wall_table n t m)) (first ∷ []) (wall_reached n t m)
  unfolding wall_reached
  least = closure_least (wall_table n t m) (links n (λ _. true)) (first ∷ [])

  step_to : (x y : ℕ) → x < slots t → In y (steps (wall_table n t m) (links n (λ _. true)) x) → WallStep n t m x y
  unfolding links
  step_to x y low s =
      let (j, b, _, e) = step_of (wall_table n t m) x (λ _. true) (suc n) 0 y s in
      if_eq j (n - 1)
      (λ last. inr (e ∙ ap (λ (z : ℕ). link (wall_table n t m) z x) last ∙ joint_next x low))
      (λ ne. inl (record { by = j; allowed = (omega arith, ne); leads = e ∙ joint_link x j (omega arith) ne low }))

  step_from : (x y : ℕ) → x < slots t → WallStep n t m x y → In y (steps (wall_table n t m) (links n (λ _. true)) x)
  unfolding links
  step_from x y low (inr e) =
      in-cast (e ∙ sym (joint_next x low)) (step_in (wall_table n t m) x (λ _. true) (suc n) 0 (n - 1) (omega arith) (omega arith) refl)
  step_from x y low (inl s) =
      let b = s.allowed.0 in
      in-cast (s.leads ∙ sym (joint_link x s.by b s.allowed.1 low))
      (step_in (wall_table n t m) x (λ _. true) (suc n) 0 s.by (omega arith) (omega arith) refl)

  -- what is reached from the wall's first dart by the links 0..n-2 and n and by next
  pub wall_reached_is : LeastSet (slots t) (λ x. x ≡ get_or (ones m) 0 0) (WallStep n t m) (wall_reached n t m)
  wall_reached_is = record {
    long = least.long ∙ joint_slots;
    bits = least.bits;
    holds = λ x e low. least.holds x (here e) (rw joint_slots low);
    closed = λ x y k s low.
        least.closed x y k (step_from x y (rw joint_slots at (inside x k)) s) (rw joint_slots low);
    within = λ P seed kept. least.within P (λ x i low. seed x (sole i) (rw joint_slots at low))
        (λ x y low p s to. kept x y (rw joint_slots at low) p (step_to x y (rw joint_slots at low) s) (rw joint_slots at to));
  }
    where
      inside : (x : ℕ) → Marked (wall_reached n t m) x → x < slots (wall_table n t m)
      inside x k = rw least.long at (marked_in (wall_reached n t m) x k)

-- ---- 31

-- "next(h) is not h.n, nor in 3D h.0 or h.0.n"
pub apart_exactly : (n : ℕ) (t m : List ℕ) (h : ℕ) → (next_apart n t m h ≡ true)
    ↔ ((next n t m h ≢ link t n h) × (n ≡ 3 → (next n t m h ≢ link t 0 h) × (next n t m h ≢ link t n (link t 0 h))))
unfolding next_apart
apart_exactly n t m h = (to, from)
  where
    z : ℕ
    z = next n t m h

    apart : ℕ → Bool
    apart x = not (eqb z x)

    parted : (x : ℕ) → apart x ≡ true → z ≢ x
    parted x q = eqb-false _ _ (not-true _ q)

    apart_of : (x : ℕ) → z ≢ x → apart x ≡ true
    apart_of x q = ap not (ne_eqb z x q)

    rest_of : Bool → Bool
    rest_of b = elim b [ true ↦ apart (link t 0 h) && apart (link t n (link t 0 h)) | false ↦ true ]

    to : next_apart n t m h ≡ true → (z ≢ link t n h) × (n ≡ 3 → (z ≢ link t 0 h) × (z ≢ link t n (link t 0 h)))
    to e = (
      parted _ (and_l (apart (link t n h)) (rest_of (eqb n 3)) e),
      λ three.
          let both : (apart (link t 0 h) && apart (link t n (link t 0 h))) ≡ true
          = sym (ap rest_of (eq-eqb n 3 three)) ∙ and_r (apart (link t n h)) (rest_of (eqb n 3)) e in
          (parted _ (and_l (apart (link t 0 h)) _ both), parted _ (and_r (apart (link t 0 h)) _ both)),
    )

    from : (z ≢ link t n h) × (n ≡ 3 → (z ≢ link t 0 h) × (z ≢ link t n (link t 0 h))) → next_apart n t m h ≡ true
    from (a, b) = and_i (apart_of _ a) (if_eq n 3
        (λ e. let c = b e in ap rest_of (eq-eqb n 3 e) ∙ and_i (apart_of _ c.0) (apart_of _ c.1))
        (λ e. ap rest_of (ne_eqb n 3 e)))

-- ---- the passed checks

module _ {n : ℕ} {t m : List ℕ} (I : Inserts n t m) where
  abbrev B : BlockTable n t
  B = I.table

  abbrev hs : List ℕ
  hs = ones m

  abbrev nx : ℕ → ℕ
  nx = next n t m

  rule : (x : ℕ) → live t x ≡ true → Rule n t x
  rule = rule_at (map_table B)

  lives_on : (x : ℕ) → Marked m x → live t x ≡ true
  lives_on = marked_live t m I.long I.drawn

  -- not empty
  pub wall_some : 0 < length (ones m)
  wall_some = some_dart m B I.long I.drawn I.enclosed

  -- each mark is 0 or 1
  pub wall_bits : Bits m
  wall_bits = bits m B I.long I.drawn I.enclosed

  pub drawn_of : Drawn n t m
  drawn_of = drawn_by m B I.long I.drawn I.enclosed

  -- ---- 30 and 31

  sewn : (x : ℕ) → In x hs → link t n x ≢ x
  unfolding sewn_wall
  sewn x i = eqb-false _ _ (not-true _ (each_at (λ h. not (eqb (link t n h) h)) hs I.sewn x i))

  -- h and h.n both end free, or neither and ..
  data Well (h : ℕ) : Type 0 where
    free : ends_free n t m h ≡ true → ends_free n t m (link t n h) ≡ true → Well h
    met : link t n (nx h) ≡ nx (link t n h) → next_apart n t m h ≡ true → Well h

  well : (h : ℕ) → In h hs → Well h
  unfolding turns_well both_free next_over
  well h i =
      let both = ends_free n t m h && ends_free n t m (link t n h) in
      let neither = not (ends_free n t m h) && not (ends_free n t m (link t n h)) in
      let level = eqb (link t n (nx h)) (nx (link t n h)) in
      ⊎_elim
      (λ e. free (and_l (ends_free n t m h) _ e) (and_r (ends_free n t m h) _ e))
      (λ e. met (eqb-true _ _ (and_r neither level (and_l (neither && level) _ e))) (and_r (neither && level) _ e))
      (or_cases both _ (each_at (turns_well n t m) hs I.turns h i))

  level : (h : ℕ) → In h hs → nx (link t n h) ≡ link t n (nx h)
  level h i = go (well h i)
    where
      go : Well h → nx (link t n h) ≡ link t n (nx h)
      go (free a b) = next_free drawn_of (link t n h) b ∙ ap (link t n) (sym (next_free drawn_of h a))
      go (met e _) = sym e

  pub wall_of : Wall n t (ones m) (next n t m)
  wall_of = record {
    lives = λ x i. lives_on x (ones_of m x i);
    along = λ x j far i. ones_in m _ (drawn_of.along x j far (ones_of m x i));
    over = λ x i. ones_in m _ (drawn_of.over x (ones_of m x i));
    sewn = sewn;
    on = λ x i. ones_in m _ (next_on drawn_of x (ones_of m x i));
    back = λ x i. next_back drawn_of x (ones_of m x i);
    level = level;
    far = λ x e i. next_far drawn_of x 0 (omega arith) (ones_of m x i);
  }

  -- ---- and the rest of 31, which holds by itself where the turn ends free

  -- no fold: h.0 is not h.n
  not_folded : (h : ℕ) → In h hs → link t n h ≢ link t 0 h
  not_folded h i e =
      let l = lives_on h (ones_of m h i) in
      let on = on_side (map_table B) h l in
      let two = B.dim.0 in
      let there = side_far on h 0 (side_own on) (inr (omega arith)) (omega arith) in
      sewn h i (block_straight B h l (subst (Marked (side n t n h)) (sym e) there))

  parts : (h : ℕ) → In h hs → (nx h ≢ link t n h) × (n ≡ 3 → (nx h ≢ link t 0 h) × (nx h ≢ link t n (link t 0 h)))
  parts h i = go (well h i)
    where
      l : live t h ≡ true
      l = lives_on h (ones_of m h i)

      go : Well h → (nx h ≢ link t n h) × (n ≡ 3 → (nx h ≢ link t 0 h) × (nx h ≢ link t n (link t 0 h)))
      go (free a _) =
          let own = next_free drawn_of h a in
          let top = B.dim.1 in (
            λ e. sewn h i (sym e ∙ own),
            λ _. (
              λ e. moves_on B h 0 (omega arith) l (sym e ∙ own),
              λ e.
                  not_folded h i (ap (link t n) (sym own ∙ e) ∙ (rule (link t 0 h) ((rule h l).goes 0 (omega arith))).comes n (omega arith)),
            ),
          )
      go (met _ c) = (apart_exactly n t m h).0 c

  pub clear_of : Clear n t (ones m) (next n t m)
  clear_of = record {
    over = λ x i. (parts x i).0;
    along = λ x e i. ((parts x i).1 e).0;
    across = λ x e i. ((parts x i).1 e).1;
  }

  -- ---- 32

  all_reached : (x : ℕ) → In x hs → Marked (wall_reached n t m) x
  unfolding connected in_set
  all_reached x i = eqb-true _ _ (each_at (in_set (wall_reached n t m)) hs I.joined x i)

  base : ℕ
  base = get_or hs 0 0

  base_in : In base hs
  unfolding base
  base_in = get_or_in hs 0 0 wall_some

  pub joined_of : Joined n t (ones m) (next n t m)
  unfolding base
  joined_of P by_link by_over by_next h i p x k = (along_all ((back_all h (all_reached h i)).1 p) x (all_reached x k)).1
    where
      goes_on : (x j : ℕ) → j ≤ n → j ≢ n - 1 → In x hs → In (link t j x) hs
      goes_on x j b ne k = ones_in m _ (closed m B I.long I.drawn I.enclosed x j b ne (ones_of m x k))

      -- what the links 0..n-2 and n and next keep of wall darts, each step from a wall dart keeps
      step : (Q : ℕ → Type 0) → ((x j : ℕ) → j ≤ n → j ≢ n - 1 → In x hs → Q x → Q (link t j x))
          → ((x : ℕ) → In x hs → Q x → Q (nx x))
          → (x y : ℕ) → In x hs × Q x → WallStep n t m x y → In y hs × Q y
      step Q f g x y (k, q) (inr e) = rw e (wall_of.on x k, g x k q)
      step Q f g x y (k, q) (inl s) =
          let (b, ne) = s.allowed in
          rw s.leads (goes_on x s.by b ne k, f x s.by b ne k q)

      goes : (x j : ℕ) → j ≤ n → j ≢ n - 1 → In x hs → P x → P (link t j x)
      goes x j b ne k q = if_eq j n (λ e. rw e (by_over x k q)) (λ e. by_link x j (omega arith) k q)

      along_all : P base → (x : ℕ) → Marked (wall_reached n t m) x → In x hs × P x
      along_all q = (wall_reached_is n t m B.dim B.whole).within (λ x. In x hs × P x)
          (λ x s _. rw s (base_in, q)) (λ x y _ r s _. step P goes by_next x y r s)

      comes : (x j : ℕ) → j ≤ n → j ≢ n - 1 → In x hs → (P x → P base) → P (link t j x) → P base
      comes x j b ne k r q =
          let top = B.dim.1 in
          r (subst P ((rule x (wall_of.lives x k)).comes j (omega arith)) (goes (link t j x) j b ne (goes_on x j b ne k) q))

      back_all : (x : ℕ) → Marked (wall_reached n t m) x → In x hs × (P x → P base)
      back_all = (wall_reached_is n t m B.dim B.whole).within (λ x. In x hs × (P x → P base))
          (λ x s _. rw s (base_in, λ q. q))
          (λ x y _ r s _. step (λ x. P x → P base) comes
          (λ x k r q. r (subst P (wall_of.back x k) (by_next (nx x) (wall_of.on x k) q))) x y r s)
