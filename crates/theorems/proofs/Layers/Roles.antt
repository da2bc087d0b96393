-- New darts by roles, for split and insert: 0 is the old dart itself, 1, 2 and 3 are its new ones (`role_dart`). A link leads from a role to
-- a role, of the dart that a word leads to (`RoleRows`, `Roles`); so the words of a map's rules lead from role to role (`role_walk`), and back to
-- where they began, as one test over the roles computes (`rules_hold`). Then the table after is a map (`roles_table`), and its live slots are the
-- live ones before and the new darts (`roles_live`, `live_roles`).
use Prim.Native.Nat.{ℕ, zero, suc, ◌+◌, ◌*◌, ◌-◌, ◌≤◌, ◌<◌}
use mathlib.Core.Path.{◌≡◌, refl, sym, ap, ap₂, ◌∙◌}
use mathlib.Core.Logic.{◌⊎◌, inl, inr, ⊎_elim}
use mathlib.Core.Bool.{Bool, true, false, not, ◌&&◌, ◌||◌}
use mathlib.Core.List.Memᴰ.{cast as in-cast}
use mathlib.Core.List.{List, [], ◌∷◌, ◌++◌, Memᴰ as In}
use native.Mathlib.Omega.{arith}
use lib.ListN.{length}
use lib.Dec.{eqb, ltb, leb}
use borrow.Author.Tests.{eqb-true, ltb-true, leb-true, le-ltb, ne_eqb, eq-eqb}
use Rattle.model.specs.Lists.{all_below}
use Rattle.model.specs.Table.{slots, link, walk, live}
use Rattle.model.specs.NewDarts.{new_dart}
use Rattle.model.specs.Meaning.Maps.{MapTable, Dim, Rule}
use Rattle.theorems.proofs.Lists.Scan.{test, if_eq, clash, and_l, and_r, below_at, or_cases}
use Rattle.theorems.proofs.Lists.Ones.{in_or}
use Rattle.theorems.proofs.Maps.Dim.{two_cases}
use Rattle.theorems.proofs.Maps.Tables.{live_below, rule_at}
use Rattle.theorems.proofs.Cells.Chart.{Ruled, ruled_table, live_of, of_live, live_same}
use Rattle.theorems.proofs.Layers.NewDarts.{Spread, Live, old, new, slot_new, new_in, not_new}

-- the dart of the role r of g
unfoldable pub role_dart : ℕ → List ℕ → List ℕ → ℕ → ℕ → ℕ
role_dart n gs fs zero g = g
role_dart n gs fs (suc r) g = new_dart n gs fs r g

-- the last role is that of the last new dart
pub last_role : (n : ℕ) → Dim n → (gs fs : List ℕ) (g : ℕ) → role_dart n gs fs n g ≡ new_dart n gs fs (n - 1) g
unfolding role_dart
last_role n dim gs fs g = two_cases n dim (λ n. role_dart n gs fs n g ≡ new_dart n gs fs (n - 1) g) refl refl

-- the roles of live darts are live, when the new darts are there
pub live_role : {n : ℕ} {t gs fs : List ℕ} → ((x : ℕ) → In x gs → live t x ≡ true) → (r g : ℕ) → r ≤ n → In g gs
    → Live n t gs fs (role_dart n gs fs r g)
unfolding role_dart
live_role lives zero g b i = old (lives g i)
live_role lives (suc r) g b i = new (record { role = r; of = g; low = b; member = i; is = refl })

-- ---- walks from role to role

pub record RoleRows : Type 0 where
  -- the link of an old dart that leads to its first new one
  pub changed : ℕ
  -- the role that link j leads to from the role r, and the word that leads to its dart
  pub to : ℕ → ℕ → ℕ
  pub word : ℕ → ℕ → List ℕ
  -- words that keep to the old darts, and words that lead back to where they begin
  pub keeps : List ℕ → Bool
  pub back : List ℕ → Bool

-- where a word leads from a role: the role, and the word to its dart
module _ (R : RoleRows) where
  unfoldable pub role_end : List ℕ → ℕ → ℕ
  role_end [] r = r
  role_end (j ∷ v) r = role_end v (R.to r j)

  unfoldable pub role_path : List ℕ → ℕ → List ℕ
  role_path [] r = []
  role_path (j ∷ v) r = R.word r j ++ role_path v (R.to r j)

module _ (n : ℕ) (R : RoleRows) where
  -- link j of the role r leads to a role of an old dart
  unfoldable pub leads : ℕ → ℕ → Bool
  leads r j = ltb j 4 && (leb (R.to r j) n && R.keeps (R.word r j))

  -- and so does each step of a word
  unfoldable pub all_lead : List ℕ → ℕ → Bool
  all_lead [] r = true
  all_lead (j ∷ v) r = leads r j && all_lead v (R.to r j)

  unfoldable pub returns : ℕ → List ℕ → Bool
  returns r v = all_lead v r && (eqb (role_end R v r) r && R.back (role_path R v r))

  -- the other links of the old darts stay
  unfoldable pub stays : ℕ → ℕ → Bool
  stays r j = eqb r 0 && not (eqb j R.changed)

  -- the words of a map's rules return, from each role
  unfoldable pub role_twice : ℕ → ℕ → Bool
  role_twice r j = stays r j || returns r (j ∷ j ∷ [])

  unfoldable pub role_cross : ℕ → ℕ → ℕ → Bool
  role_cross r i j = (stays r i && stays r j) || (ltb j (i + 2) || returns r (i ∷ j ∷ i ∷ j ∷ []))

  unfoldable pub rules_hold : Bool
  rules_hold = all_below (suc n) (λ r. all_below 4 (role_twice r)) && all_below (suc n) (λ r. all_below 2 (λ i. all_below (suc n) (role_cross r i)))

-- to unfold `rules` is to unfold these
unfoldable pub rules : Unit {0}
unfolding role_end role_path leads all_lead returns stays role_twice role_cross rules_hold
rules = tt

-- ---- a table with new darts

-- of a map t, old darts gs and unused slots fs: u has the links of the rows at the roles, where words lead by `spell`, and all else stays
pub record Roles (n : ℕ) (R : RoleRows) (t u gs fs : List ℕ) (spell : List ℕ → ℕ → ℕ) : Type 0 where
  pub table : MapTable n t
  pub spread : Spread n t gs fs
  pub top : R.changed ≤ n
  pub lives : (x : ℕ) → In x gs → live t x ≡ true
  -- the old darts are closed under the link that changes, and under those two or more away from it
  pub over : (x : ℕ) → In x gs → In (link t R.changed x) gs
  pub far : (x j : ℕ) → j ≤ n → (j + 2 ≤ R.changed) ⊎ (R.changed + 2 ≤ j) → In x gs → In (link t j x) gs
  -- words
  pub none : (g : ℕ) → spell [] g ≡ g
  pub both : (v w : List ℕ) (g : ℕ) → spell (v ++ w) g ≡ spell w (spell v g)
  pub within : (w : List ℕ) (g : ℕ) → R.keeps w ≡ true → In g gs → In (spell w g) gs
  pub home : (w : List ℕ) (g : ℕ) → R.back w ≡ true → In g gs → spell w g ≡ g
  pub rules : rules_hold n R ≡ true
  -- links
  pub same : slots u ≡ slots t
  pub whole : length u ≡ 4 * slots u
  pub rows : (r g j : ℕ) → r ≤ n → In g gs → j < 4
      → link u j (role_dart n gs fs r g) ≡ role_dart n gs fs (R.to r j) (spell (R.word r j) g)
  pub rest : (x j : ℕ) → x < slots t → j < 4 → (In x fs → ⊥) → (j ≡ R.changed → In x gs → ⊥) → link u j x ≡ link t j x
  pub plane : (r g : ℕ) → n ≡ 2 → r < n → In g gs → link u 3 (role_dart n gs fs (suc r) g) ≡ role_dart n gs fs (suc r) g

module _ {n : ℕ} {R : RoleRows} {t u gs fs : List ℕ} {spell : List ℕ → ℕ → ℕ} (M : Roles n R t u gs fs spell) where
  abbrev role : ℕ → ℕ → ℕ
  role = role_dart n gs fs

  abbrev dim : Dim n
  dim = M.table.dim

  abbrev L : ℕ → Type 0
  L = Live n t gs fs

  pub lead_low : (r j : ℕ) → leads n R r j ≡ true → (j < 4) × (R.to r j ≤ n) × (R.keeps (R.word r j) ≡ true)
  unfolding leads
  lead_low r j h =
      let to = leb (R.to r j) n in
      let word = R.keeps (R.word r j) in
      let q : (to && word) ≡ true = and_r (ltb j 4) (to && word) h in
      (ltb-true j 4 (and_l (ltb j 4) (to && word) h), leb-true _ _ (and_l to word q), and_r to word q)

  pub role_walk : (v : List ℕ) (r g : ℕ) → all_lead n R v r ≡ true → r ≤ n → In g gs
      → walk u v (role r g) ≡ role (role_end R v r) (spell (role_path R v r) g)
  unfolding all_lead role_end role_path walk
  role_walk [] r g h b i = ap (role r) (sym (M.none g))
  role_walk (j ∷ v) r g h b i =
      let low = lead_low r j (and_l (leads n R r j) _ h) in
      let y = spell (R.word r j) g in
      ap (walk u v) (M.rows r g j b i low.0)
      ∙ role_walk v (R.to r j) y (and_r (leads n R r j) _ h) low.1 (M.within (R.word r j) g low.2 i)
      ∙ ap (role (role_end R v (R.to r j))) (sym (M.both (R.word r j) (role_path R v (R.to r j)) g))

  return_walk : (v : List ℕ) (r g : ℕ) → returns n R r v ≡ true → r ≤ n → In g gs → walk u v (role r g) ≡ role r g
  unfolding returns
  return_walk v r g h b i =
      let ends = eqb (role_end R v r) r in
      let back = R.back (role_path R v r) in
      let q : (ends && back) ≡ true = and_r (all_lead n R v r) (ends && back) h in
      role_walk v r g (and_l (all_lead n R v r) (ends && back) h) b i
      ∙ ap₂ role (eqb-true _ _ (and_l ends back q)) (M.home (role_path R v r) g (and_r ends back q) i)

  -- ---- the links that are made: those of the new darts, and the changed link of the old ones

  not_stays : (r j : ℕ) → (r ≡ 0 → j ≡ R.changed) → stays n R r j ≡ false
  unfolding stays
  not_stays r j made = if_eq r 0 (λ e. rw (eq-eqb r 0 e, eq-eqb j R.changed (made e))) (λ e. rw (ne_eqb r 0 e))

  made_twice : (r j : ℕ) → r ≤ n → j < 4 → (r ≡ 0 → j ≡ R.changed) → returns n R r (j ∷ j ∷ []) ≡ true
  unfolding rules_hold role_twice
  made_twice r j b h made =
      let twice = and_l (all_below (suc n) (λ r. all_below 4 (role_twice n R r))) _ M.rules in
      let tested : role_twice n R r j ≡ true
      = below_at (role_twice n R r) 4 (below_at (λ r. all_below 4 (role_twice n R r)) (suc n) twice r (omega arith)) j h in
      rw (not_stays r j made) at tested

  role_twice_lem : (r g j : ℕ) → r ≤ n → In g gs → j < 4 → (r ≡ 0 → j ≡ R.changed) → link u j (link u j (role r g)) ≡ role r g
  unfolding walk
  role_twice_lem r g j b i h made = return_walk (j ∷ j ∷ []) r g (made_twice r j b h made) b i

  made_cross : (r i j : ℕ) → r ≤ n → i + 2 ≤ j → j ≤ n → (r ≡ 0 → (i ≡ R.changed) ⊎ (j ≡ R.changed))
      → returns n R r (i ∷ j ∷ i ∷ j ∷ []) ≡ true
  unfolding rules_hold role_cross
  made_cross r i j b ij jn made =
      let both = stays n R r i && stays n R r j in
      let crosses = ltb j (i + 2) || returns n R r (i ∷ j ∷ i ∷ j ∷ []) in
      rw (le-ltb j (i + 2) ij) at (⊎_elim
      (λ s. absurd (not_both (and_l (stays n R r i) _ s) (and_r (stays n R r i) _ s))) (λ s. s) (or_cases both crosses tested))
    where
      firsts : ℕ → Bool
      firsts i = all_below (suc n) (role_cross n R r i)

      tested : role_cross n R r i j ≡ true
      tested =
          let top = dim.1 in
          let roles : ℕ → Bool = λ r. all_below 2 (λ i. all_below (suc n) (role_cross n R r i)) in
          let crosses = and_r (all_below (suc n) (λ r. all_below 4 (role_twice n R r))) (all_below (suc n) roles) M.rules in
          let at_role = below_at roles (suc n) crosses r (omega arith) in
          below_at (role_cross n R r i) (suc n) (below_at firsts 2 at_role i (omega arith)) j (omega arith)

      not_both : stays n R r i ≡ true → stays n R r j ≡ true → ⊥
      not_both si sj = if_eq r 0
          (λ e. ⊎_elim (λ q. clash si (not_stays r i (λ _. q))) (λ q. clash sj (not_stays r j (λ _. q))) (made e))
          (λ e. clash si (not_stays r i (λ z. absurd (e z))))

  role_cross_lem : (r g i j : ℕ) → r ≤ n → In g gs → i + 2 ≤ j → j ≤ n → (r ≡ 0 → (i ≡ R.changed) ⊎ (j ≡ R.changed))
      → link u j (link u i (link u j (link u i (role r g)))) ≡ role r g
  unfolding walk
  role_cross_lem r g i j b m ij jn made = return_walk (i ∷ j ∷ i ∷ j ∷ []) r g (made_cross r i j b ij jn made) b m

  role_goes : (r g j : ℕ) → r ≤ n → In g gs → j < 4 → (r ≡ 0 → j ≡ R.changed) → L (link u j (role r g))
  unfolding returns all_lead
  role_goes r g j b i h made =
      let low = lead_low r j (and_l (leads n R r j) _ (and_l (all_lead n R (j ∷ j ∷ []) r) _ (made_twice r j b h made))) in
      rw (M.rows r g j b i h) (live_role M.lives (R.to r j) _ low.1 (M.within (R.word r j) g low.2 i))

  -- ---- the live slots after

  -- link j of an old dart x: it is made, or it stays
  Stays : ℕ → ℕ → Type 0
  Stays x j = j ≡ R.changed → In x gs → ⊥

  made_or : {P : Type 0} (x j : ℕ) → (j ≡ R.changed → In x gs → P) → (Stays x j → P) → P
  unfolding Stays
  made_or x j f k = ⊎_elim (λ i. if_eq j R.changed (λ e. f e i) (λ e. k (λ z. absurd (e z)))) (λ i. k (λ _. i)) (in_or gs x)

  rule : (x : ℕ) → live t x ≡ true → Rule n t x
  rule = rule_at M.table

  kept : (x j : ℕ) → live t x ≡ true → j < 4 → Stays x j → link u j x ≡ link t j x
  unfolding Stays
  kept x j l b k = M.rest x j (live_below M.table x l) b (not_new M.spread x l) k

  -- the links i and j of a pair, where one of them changes: the old darts are closed under both
  module _ (i j : ℕ) (ij : i + 2 ≤ j) (jn : j ≤ n) where
    abbrev One : Type 0
    One = (i ≡ R.changed) ⊎ (j ≡ R.changed)

    -- the dart is not among them
    abbrev Out : ℕ → Type 0
    Out x = One → In x gs → ⊥

    crossed_or : {P : Type 0} (x : ℕ) → (One → In x gs → P) → (Out x → P) → P
    crossed_or x f k = ⊎_elim
        (λ m. if_eq i R.changed (λ e. f (inl e) m) (λ e. if_eq j R.changed (λ q. f (inr q) m) (λ q. k (λ o _. ⊎_elim e q o))))
        (λ m. k (λ _. m)) (in_or gs x)

    first_in : One → (x : ℕ) → In x gs → In (link t i x) gs
    first_in (inl e) x m = in-cast (ap (λ (k : ℕ). link t k x) e) (M.over x m)
    first_in (inr e) x m = M.far x i (omega arith) (inl (omega arith)) m

    second_in : One → (x : ℕ) → In x gs → In (link t j x) gs
    second_in (inl e) x m = M.far x j jn (inr (omega arith)) m
    second_in (inr e) x m = in-cast (ap (λ (k : ℕ). link t k x) e) (M.over x m)

    first_out : (x : ℕ) → live t x ≡ true → Out x → Out (link t i x)
    first_out x l k o m = let top = dim.1 in k o (in-cast (sym ((rule x l).comes i (omega arith))) (first_in o (link t i x) m))

    second_out : (x : ℕ) → live t x ≡ true → Out x → Out (link t j x)
    second_out x l k o m = let top = dim.1 in k o (in-cast (sym ((rule x l).comes j (omega arith))) (second_in o (link t j x) m))

  roles_ruled : Ruled n u L
  unfolding role_dart Stays
  roles_ruled = record {
    few = let same = M.same in let few = M.table.few in omega arith;
    inside = inside;
    other = other;
    goes = goes;
    comes = comes;
    cross = cross;
    plane = plane;
  }
    where
      inside : (x : ℕ) → L x → x < slots u
      inside x (old l) = rw M.same (live_below M.table x l)
      inside x (new w) =
          rw (M.same, w.is) (M.spread.vacant.inside _ (new_in M.spread w.role w.of w.low w.member))

      other : (x : ℕ) → x < slots u → L x ⊎ (live u x ≡ false)
      other x h =
          let low : x < slots t = rw M.same at h in
          ⊎_elim (λ i. inl (new (slot_new M.spread x i)))
          (λ k. test (live t x) (λ l. inl (old l))
          (λ l.
          let off : In x gs → ⊥ = λ i. clash (M.lives x i) l in
          inr (live_same t u x (λ j b. M.rest x j low b k (λ _. off)) ∙ l))) (in_or fs x)

      goes : (x j : ℕ) → j < 4 → L x → L (link u j x)
      goes x j b (old l) = made_or x j (λ e i. role_goes 0 x j (omega arith) i b (λ _. e))
          (λ k. old (rw (kept x j l b k) ((rule x l).goes j b)))
      goes x j b (new w) = rw w.is (role_goes (suc w.role) w.of j w.low w.member b (λ z. absurd (omega arith)))

      comes : (x j : ℕ) → j < 4 → L x → link u j (link u j x) ≡ x
      comes x j b (old l) = made_or x j (λ e i. role_twice_lem 0 x j (omega arith) i b (λ _. e))
          (λ k.
          let y = link t j x in
          let over : In y gs → j ≡ R.changed → In x gs
          = λ i e. in-cast (sym ((rule x l).comes j b)) (in-cast (ap (λ (c : ℕ). link t c y) e) (M.over y i)) in
          ap (link u j) (kept x j l b k) ∙ kept y j ((rule x l).goes j b) b (λ e i. k e (over i e)) ∙ (rule x l).comes j b)
      comes x j b (new w) = rw w.is (role_twice_lem (suc w.role) w.of j w.low w.member b (λ z. absurd (omega arith)))

      cross : (x i j : ℕ) → i + 2 ≤ j → j ≤ n → L x → link u j (link u i (link u j (link u i x))) ≡ x
      cross x i j ij jn (old l) = crossed_or i j ij jn x (λ o m. role_cross_lem 0 x i j (omega arith) m ij jn (λ _. o))
          (λ out.
          let top = dim.1 in
          let y = link t i x in
          let z = link t j y in
          let w = link t i z in
          let ly = (rule x l).goes i (omega arith) in
          let lz = (rule y ly).goes j (omega arith) in
          let lw = (rule z lz).goes i (omega arith) in
          let out_y = first_out i j ij jn x l out in
          let out_z = second_out i j ij jn y ly out_y in
          let out_w = first_out i j ij jn z lz out_z in
          let first = kept x i l (omega arith) (λ e. out (inl e)) in
          let second = kept y j ly (omega arith) (λ e. out_y (inr e)) in
          let third = kept z i lz (omega arith) (λ e. out_z (inl e)) in
          let last = kept w j lw (omega arith) (λ e. out_w (inr e)) in
          rw (first, second, third, last) ((rule x l).cross i j ij jn))
      cross x i j ij jn (new w) =
          rw w.is (role_cross_lem (suc w.role) w.of i j w.low w.member ij jn (λ z. absurd (omega arith)))

      plane : (x : ℕ) → n ≡ 2 → L x → link u 3 x ≡ x
      plane x p (old l) = let top = M.top in kept x 3 l (omega arith) (λ z. absurd (omega arith)) ∙ (rule x l).plane p
      plane x p (new w) = rw w.is (M.plane w.role w.of p w.low w.member)

  pub roles_table : MapTable n u
  roles_table = ruled_table dim M.whole roles_ruled

  pub roles_live : (x : ℕ) → L x → live u x ≡ true
  roles_live = live_of n u L roles_ruled

  pub live_roles : (x : ℕ) → live u x ≡ true → L x
  live_roles x l = of_live n u L roles_ruled x (live_below roles_table x l) l
