-- Maps by their live slots, and block maps by charts: a chart lists a cell's darts by their places.
-- Main theorems: `ruled_table`; `block_by` (each live dart is in a chart, and no side is folded), `place_chart` (the places are
-- one), `relink_block`.
use Prim.Native.Nat.{ℕ, ◌+◌, ◌*◌, ◌≤◌, ◌<◌}
use mathlib.Core.Path.{◌≡◌, sym, ap, ◌∙◌, subst}
use mathlib.Core.Logic.{◌⊎◌, ⊎_elim}
use mathlib.Core.Bool.{true, false}
use mathlib.Core.List.{List}
use native.Mathlib.Nat.{le_refl}
use native.Mathlib.Omega.{arith}
use lib.ListN.{length}
use Rattle.model.specs.Table.{slots, link, walk, live, relink}
use Rattle.model.specs.Cell.{cell_size, cell_of, good_cell}
use Rattle.model.specs.Numbering.{cell_link}
use Rattle.model.specs.Meaning.Sets.{Marked}
use Rattle.model.specs.Meaning.Maps.{Dim, Map, MapTable, Straight, BlockTable}
use Rattle.model.specs.Meaning.Places.{path, place, AtPlace, Chart}
use Rattle.theorems.proofs.Lists.Scan.{if_eq, if_lt, clash}
use Rattle.theorems.proofs.Maps.Dim.{size_some}
use Rattle.theorems.proofs.Maps.Rules.{live_by, Relinking, relink_table, relink_slots, relink_live, relink_link, at_other}
use Rattle.theorems.proofs.Maps.Tables.{map_table, live_below, rule_at}
use Rattle.theorems.proofs.Cells.Rows.{small, walk_keeps, walk_rows, rows_in, path_small, path_leads, path_zero}
use Rattle.theorems.proofs.Cells.Cell.{good_cell_lem, cell_own, cell_live, cell_same, place_in, all_places, good_chart, chart_good}

-- ---- a map by its live slots

-- the live slots are those of L, and the rules hold there
pub record Ruled (n : ℕ) (u : List ℕ) (L : ℕ → Type 0) : Type 0 where
  pub few : slots u ≤ 65536
  pub inside : (x : ℕ) → L x → x < slots u
  pub other : (x : ℕ) → x < slots u → L x ⊎ (live u x ≡ false)
  pub goes : (x j : ℕ) → j < 4 → L x → L (link u j x)
  pub comes : (x j : ℕ) → j < 4 → L x → link u j (link u j x) ≡ x
  pub cross : (x i j : ℕ) → i + 2 ≤ j → j ≤ n → L x → link u j (link u i (link u j (link u i x))) ≡ x
  pub plane : (x : ℕ) → n ≡ 2 → L x → link u 3 x ≡ x

module _ (n : ℕ) (u : List ℕ) (L : ℕ → Type 0) (r : Ruled n u L) where
  pub live_of : (x : ℕ) → L x → live u x ≡ true
  live_of x l = live_by u x (λ q. let a = r.inside (link u 0 x) (r.goes x 0 (omega arith) l) in let b = r.few in omega arith)

  pub of_live : (x : ℕ) → x < slots u → live u x ≡ true → L x
  of_live x h e = ⊎_elim (λ l. l) (λ d. absurd (clash e d)) (r.other x h)

  pub map_by : Map n u
  map_by = record {
    rule = λ x h e. let l = of_live x h e in record {
      goes = λ j b. live_of (link u j x) (r.goes x j b l);
      comes = λ j b. r.comes x j b l;
      cross = λ i j ij jn. r.cross x i j ij jn l;
      plane = λ p. r.plane x p l;
    };
  }

pub ruled_table : {n : ℕ} {u : List ℕ} {L : ℕ → Type 0} → Dim n → length u ≡ 4 * slots u → Ruled n u L → MapTable n u
ruled_table {n} {u} {L} dim whole r = record { dim = dim; whole = whole; few = r.few; map = map_by n u L r }

-- a slot whose entries stay is live as it was
pub live_same : (t u : List ℕ) (x : ℕ) → ((j : ℕ) → j < 4 → link u j x ≡ link t j x) → live u x ≡ live t x
unfolding live
live_same t u x h = rw (h 0 (omega arith), h 1 (omega arith), h 2 (omega arith), h 3 (omega arith))

-- ---- block maps by charts

-- the cell of a chart with no folded side is good, seen from each of its darts
module _ {n : ℕ} {u : List ℕ} (U : MapTable n u) (c : ℕ → ℕ) (ch : Chart n u c) (base : live u (c 0) ≡ true) where
  pub chart_place : (k : ℕ) → k < cell_size n → place n u (c 0) k ≡ c k
  unfolding place
  chart_place k h =
      walk_rows n u c U.dim ch.follow (path n k) 0 (path_small n k U.dim h) (size_some n U.dim)
      ∙ ap c (path_leads n k U.dim h)

  chart_places : Chart n u (place n u (c 0))
  chart_places = record {
    follow = λ i k hi hk.
        let next = chart_place (cell_link n i k) (rows_in n i k U.dim hi hk) in
        rw (chart_place k hk) (ch.follow i k hi hk ∙ sym next);
    apart = λ a b ab hb e. ch.apart a b ab hb (sym (chart_place a (omega arith)) ∙ e ∙ chart_place b hb);
  }

  chart_in : (k : ℕ) → k < cell_size n → Marked (cell_of n u (c 0)) (c k)
  chart_in k h = rw chart_place at (place_in U (c 0) base k h)

  chart_live : (k : ℕ) → k < cell_size n → live u (c k) ≡ true
  chart_live k h = cell_live U (c 0) base (c k) (chart_in k h)

  pub chart_cell : ((k : ℕ) → k < cell_size n → Straight n u (c k)) → (k : ℕ) → k < cell_size n → good_cell n u (cell_of n u (c k)) ≡ true
  chart_cell straight k h =
      ap (good_cell n u) (cell_same U (c 0) (c k) base (chart_in k h))
      ∙ chart_good U (c 0) base chart_places (λ k h. subst (Straight n u) (sym (chart_place k h)) (straight k h))

-- a dart is at one place
pub chart_one : {n : ℕ} {u : List ℕ} {c : ℕ → ℕ} → Chart n u c
    → (a b : ℕ) → a < cell_size n → b < cell_size n → c a ≡ c b → a ≡ b
chart_one ch a b ha hb e = if_eq a b (λ q. q)
    (λ q. if_lt a b (λ h. absurd (ch.apart a b h hb e)) (λ h. absurd (ch.apart b a (omega arith) ha (sym e))))

-- a dart is in a chart
pub record Charted (n : ℕ) (u : List ℕ) (x : ℕ) : Type 0 where
  pub c : ℕ → ℕ
  pub chart : Chart n u c
  pub base : live u (c 0) ≡ true
  pub k : ℕ
  pub low : k < cell_size n
  pub is : x ≡ c k

pub block_by : {n : ℕ} {u : List ℕ} → MapTable n u → ((x : ℕ) → live u x ≡ true → Charted n u x)
    → ((x : ℕ) → live u x ≡ true → Straight n u x)
    → BlockTable n u
block_by {n} {u} U charted straight = record {
  dim = U.dim;
  whole = U.whole;
  few = U.few;
  map = U.map;
  good = λ x l.
      let a = charted x l in
      let all : (k : ℕ) → k < cell_size n → Straight n u (a.c k)
      = λ k h. straight (a.c k) (chart_live U a.c a.chart a.base k h) in
      rw a.is (chart_cell U a.c a.chart a.base all a.k a.low);
}

-- ---- the places in a block map

module _ {n : ℕ} {t : List ℕ} (B : BlockTable n t) where
  -- the places of a dart are a chart
  pub place_chart : (d : ℕ) → live t d ≡ true → Chart n t (place n t d)
  place_chart d l = good_chart (map_table B) d l (B.good d l)

  -- no side is folded
  pub block_straight : (d : ℕ) → live t d ≡ true → Straight n t d
  block_straight d l = ((good_cell_lem n t _).0 (B.good d l)).straight d (cell_own (map_table B) d l)

  pub place_zero : (d : ℕ) → live t d ≡ true → d ≡ place n t d 0
  place_zero d l = path_zero n B.dim t d

  -- what holds of a live dart, and is kept by the links of a cell, holds along a word of them; and all is live there
  pub word_keeps : (P : ℕ → Type 0) → ((x j : ℕ) → j < n → live t x ≡ true → P x → P (link t j x))
      → (w : List ℕ) → small n w ≡ true → (x : ℕ) → live t x ≡ true → P x → (live t (walk t w x) ≡ true) × P (walk t w x)
  word_keeps P kept w h x l p = walk_keeps n t (λ y. (live t y ≡ true) × P y)
      (λ y j b (ly, q). let top = B.dim.1 in ((rule_at (map_table B) y ly).goes j (omega arith), kept y j b ly q)) w h x (l, p)

  -- and so of the places
  pub place_keep : (P : ℕ → Type 0) → ((x j : ℕ) → j < n → live t x ≡ true → P x → P (link t j x))
      → (x k : ℕ) → live t x ≡ true → k < cell_size n → P x → P (place n t x k)
  unfolding place
  place_keep P kept x k l b p = (word_keeps P kept (path n k) (path_small n k B.dim b) x l p).1

  pub place_live : (x k : ℕ) → live t x ≡ true → k < cell_size n → live t (place n t x k) ≡ true
  unfolding place
  place_live x k l b = (word_keeps (λ _. Unit {0}) (λ _ _ _ _ _. tt) (path n k) (path_small n k B.dim b) x l tt).0

  -- a dart is a place of each of its places
  pub place_back : (x k : ℕ) → live t x ≡ true → k < cell_size n → AtPlace n t (place n t x k) x
  place_back x k l h =
      let T = map_table B in
      let y = place n t x k in
      let ly = place_live x k l h in
      let own = cell_own T x l in
      all_places T y ly (place_chart y ly).follow x (rw (sym (cell_same T x y l (place_in T x l k h))) at own)

  pub place_one : (d a b : ℕ) → live t d ≡ true → a < cell_size n → b < cell_size n → place n t d a ≡ place n t d b → a ≡ b
  place_one d a b l = chart_one (place_chart d l) a b

  -- a chart of t whose darts keep their links below n is a chart of u
  pub chart_kept : (u : List ℕ) (c : ℕ → ℕ) → Chart n t c
      → ((i k : ℕ) → i < n → k < cell_size n → link u i (c k) ≡ link t i (c k)) → Chart n u c
  chart_kept u c ch h = record { follow = λ i k hi hk. h i k hi hk ∙ ch.follow i k hi hk; apart = ch.apart }

-- a change of link n leaves the cells, but for folded sides
pub relink_block : {n : ℕ} {t : List ℕ} {g : ℕ → ℕ} → BlockTable n t → Relinking n t n g
    → ((x : ℕ) → live t x ≡ true → Straight n (relink t n g) x)
    → BlockTable n (relink t n g)
relink_block {n} {t} {g} B c straight = block_by table charted (λ x h. straight x (live_was x h))
  where
    u : List ℕ
    u = relink t n g

    T : MapTable n t
    T = map_table B

    table : MapTable n u
    table = relink_table T (le_refl n) c

    live_kept : (x : ℕ) → live t x ≡ true → live u x ≡ true
    live_kept x l = relink_live T (le_refl n) c x (live_below T x l) ∙ l

    live_was : (x : ℕ) → live u x ≡ true → live t x ≡ true
    live_was x h = sym (relink_live T (le_refl n) c x (rw (relink_slots T (le_refl n) c) at (live_below table x h))) ∙ h

    link_kept : (x i : ℕ) → i < n → live t x ≡ true → link u i x ≡ link t i x
    link_kept x i b l =
        let top = B.dim.1 in
        relink_link T (le_refl n) c x i (live_below T x l) (omega arith) ∙ at_other t n g x i (omega arith)

    charted : (x : ℕ) → live u x ≡ true → Charted n u x
    charted x h =
        let l = live_was x h in
        let some = size_some n B.dim in
        record {
          c = place n t x;
          chart = chart_kept B u (place n t x) (place_chart B x l)
              (λ i k hi hk. link_kept (place n t x k) i hi (place_live B x k l hk));
          base = live_kept _ (place_live B x 0 l some);
          k = 0;
          low = some;
          is = place_zero B x l;
        }
