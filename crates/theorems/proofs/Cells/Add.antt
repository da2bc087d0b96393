-- Add keeps a map, and a block map: the new cell is numbered as document 01 says, and all else stays.
-- Main theorems: `add_new` and `add_old` (the links), `add_table_lem`, `add_map`, `add_block`.
use Prim.Native.Nat.{ℕ, ◌+◌, ◌*◌, ◌≤◌, ◌<◌}
use mathlib.Core.Path.{◌≡◌, refl, sym, ap, ◌∙◌}
use mathlib.Core.Logic.{◌⊎◌, inl, inr, ⊎_elim}
use mathlib.Core.Bool.{true, false}
use mathlib.Core.List.{List, Memᴰ as In}
use native.Mathlib.Nat.{le_refl}
use native.Mathlib.Omega.{arith}
use lib.ListN.{length, get_or}
use borrow.Author.Tests.{lt-ltb, le-ltb}
use Rattle.model.specs.Lists.{index_of}
use Rattle.model.specs.Table.{unused, slots, link, live}
use Rattle.model.specs.Cell.{cell_size}
use Rattle.model.specs.Add.{added_link, added}
use Rattle.model.specs.Numbering.{cell_link}
use Rattle.model.specs.Meaning.Slots.{Vacant}
use Rattle.model.specs.Meaning.Maps.{Map, MapTable, Straight, BlockTable}
use Rattle.model.specs.Meaning.Places.{place, Chart}
use Rattle.theorems.proofs.Lists.Scan.{test, clash}
use Rattle.theorems.proofs.Lists.Ones.{get_or_in, index_get_or, index_out, index_in, get_or_index, in_or}
use Rattle.theorems.proofs.Maps.Dim.{size_some}
use Rattle.theorems.proofs.Maps.Rules.{link_retable, slots_retable, length_retable}
use Rattle.theorems.proofs.Maps.Tables.{map_table, live_below, rule_at}
use Rattle.theorems.proofs.Sewing.Side.{on_side, side_live, straight_kept}
use Rattle.theorems.proofs.Cells.Rows.{row_goes, row_comes, row_cross, row_plane, free_rows}
use Rattle.theorems.proofs.Cells.Chart.{Ruled, ruled_table, of_live, live_of, live_same}
use Rattle.theorems.proofs.Cells.Chart.{Charted, block_by, block_straight, place_chart, place_zero, place_live, chart_kept}

module _ {n : ℕ} {t fs : List ℕ} (T : MapTable n t) (fresh : Vacant t fs) (enough : length fs ≡ cell_size n) where
  -- the table after the call, and the k-th dart of the new cell
  abbrev after : List ℕ
  after = added n t fs

  abbrev dart : ℕ → ℕ
  dart k = get_or fs k unused

  dart_in : (k : ℕ) → k < cell_size n → In (dart k) fs
  dart_in k h = get_or_in fs k unused (omega arith)

  dart_index : (k : ℕ) → k < cell_size n → index_of (dart k) fs ≡ k
  dart_index k h = index_get_or fs k unused fresh.once (omega arith)

  add_slots_lem : slots after ≡ slots t
  unfolding added
  add_slots_lem = slots_retable t (added_link n t fs) T.whole

  add_whole : length after ≡ 4 * slots after
  unfolding added
  add_whole = length_retable t (added_link n t fs) T.whole ∙ T.whole ∙ ap (λ (k : ℕ). 4 * k) (sym add_slots_lem)

  -- the links of the new darts, and of the others
  pub add_new : (j k : ℕ) → j < 4 → k < cell_size n → link (added n t fs) j (get_or fs k unused) ≡ get_or fs (cell_link n j k) unused
  unfolding added added_link
  add_new j k b h =
      let i = dart_index k h in
      link_retable t (added_link n t fs) T.whole (dart k) j (fresh.inside (dart k) (dart_in k h)) b
      ∙ rw (lt-ltb (index_of (dart k) fs) (length fs) (omega arith), added_link) (ap (λ (i : ℕ). dart (cell_link n j i)) i)

  pub add_old : (j x : ℕ) → j < 4 → x < slots t → (In x fs → ⊥) → link (added n t fs) j x ≡ link t j x
  unfolding added added_link
  add_old j x b h out =
      link_retable t (added_link n t fs) T.whole x j h b
      ∙ rw (le-ltb (index_of x fs) (length fs) (index_out fs x out), added_link)

  stays : (j x : ℕ) → j < 4 → live t x ≡ true → link after j x ≡ link t j x
  stays j x b l = add_old j x b (live_below T x l) (λ i. clash l (fresh.dead x i))

  -- ---- the new live slots

  data Live (x : ℕ) : Type 0 where
    was : live t x ≡ true → Live x
    is : (k : ℕ) → k < cell_size n → x ≡ get_or fs k unused → Live x

  add_ruled : Ruled n after Live
  add_ruled = record {
    few = let s = add_slots_lem in omega arith;
    inside = inside;
    other = other;
    goes = goes;
    comes = comes;
    cross = cross;
    plane = plane;
  }
    where
      inside : (x : ℕ) → Live x → x < slots after
      inside x (was l) = rw add_slots_lem (live_below T x l)
      inside x (is k h e) = rw (add_slots_lem, e) (fresh.inside (dart k) (dart_in k h))

      new : (x : ℕ) → In x fs → Live x
      new x i = is (index_of x fs) (let b = index_in fs x i in omega arith) (sym (get_or_index fs x unused i))

      old : (x : ℕ) → x < slots t → (In x fs → ⊥) → Live x ⊎ (live after x ≡ false)
      old x h out = test (live t x) (λ l. inl (was l)) (λ l. inr (live_same t after x (λ j c. add_old j x c h out) ∙ l))

      other : (x : ℕ) → x < slots after → Live x ⊎ (live after x ≡ false)
      other x b = ⊎_elim (λ i. inl (new x i)) (old x (rw add_slots_lem at b)) (in_or fs x)

      row : (j k : ℕ) → j < 4 → k < cell_size n → cell_link n j k < cell_size n
      row j k b h = row_goes n k T.dim h j b

      goes : (x j : ℕ) → j < 4 → Live x → Live (link after j x)
      goes x j b (was l) = was (rw (stays j x b l) ((rule_at T x l).goes j b))
      goes x j b (is k h e) = is (cell_link n j k) (row j k b h) (ap (link after j) e ∙ add_new j k b h)

      comes : (x j : ℕ) → j < 4 → Live x → link after j (link after j x) ≡ x
      comes x j b (was l) = rw (stays j x b l, stays j (link t j x) b ((rule_at T x l).goes j b)) ((rule_at T x l).comes j b)
      comes x j b (is k h e) =
          rw (e, add_new j k b h, add_new j (cell_link n j k) b (row j k b h)) (ap dart (row_comes n k T.dim h j b))

      cross : (x i j : ℕ) → i + 2 ≤ j → j ≤ n → Live x → link after j (link after i (link after j (link after i x))) ≡ x
      cross x i j far top (was l) =
          let bi : i < 4 = omega arith in
          let bj : j < 4 = omega arith in
          let x₁ = link t i x in
          let l₁ = (rule_at T x l).goes i bi in
          let x₂ = link t j x₁ in
          let l₂ = (rule_at T x₁ l₁).goes j bj in
          let x₃ = link t i x₂ in
          let l₃ = (rule_at T x₂ l₂).goes i bi in
          rw (stays i x bi l, stays j x₁ bj l₁, stays i x₂ bi l₂, stays j x₃ bj l₃) ((rule_at T x l).cross i j far top)
      cross x i j far top (is k h e) =
          let bi : i < 4 = omega arith in
          let bj : j < 4 = omega arith in
          let k₁ = cell_link n i k in
          let h₁ = row i k bi h in
          let k₂ = cell_link n j k₁ in
          let h₂ = row j k₁ bj h₁ in
          let k₃ = cell_link n i k₂ in
          let h₃ = row i k₂ bi h₂ in
          rw (e, add_new i k bi h, add_new j k₁ bj h₁, add_new i k₂ bi h₂, add_new j k₃ bj h₃)
          (ap dart (row_cross n k T.dim h i j far top))

      plane : (x : ℕ) → n ≡ 2 → Live x → link after 3 x ≡ x
      plane x p (was l) = stays 3 x (omega arith) l ∙ (rule_at T x l).plane p
      plane x p (is k h e) = rw (e, add_new 3 k (omega arith) h) (ap dart (row_plane n k T.dim h p))

  pub add_table_lem : MapTable n (added n t fs)
  add_table_lem = ruled_table T.dim add_whole add_ruled

  pub add_map : Map n (added n t fs)
  add_map = add_table_lem.map

  -- the new darts are a chart
  add_chart : Chart n (added n t fs) dart
  add_chart = record { follow = λ i k hi hk. let top = T.dim.1 in add_new i k (omega arith) hk; apart = apart }
    where
      apart : (a b : ℕ) → a < b → b < cell_size n → dart a ≡ dart b → ⊥
      apart a b ab hb e =
          let p = dart_index a (omega arith) in
          let q = dart_index b hb in
          let r = ap (λ (z : ℕ). index_of z fs) e in
          omega arith

-- and a block map
pub add_block : {n : ℕ} {t fs : List ℕ} → BlockTable n t → Vacant t fs → length fs ≡ cell_size n → BlockTable n (added n t fs)
add_block {n} {t} {fs} B fresh enough = block_by table (λ x l. charted x (new_live x l)) (λ x l. straight x (new_live x l))
  where
    u : List ℕ
    u = added n t fs

    T : MapTable n t
    T = map_table B

    table : MapTable n u
    table = add_table_lem T fresh enough

    New : ℕ → Type 0
    New = Live T fresh enough

    ruled : Ruled n u New
    ruled = add_ruled T fresh enough

    new_live : (x : ℕ) → live u x ≡ true → New x
    new_live x l = of_live n u New ruled x (live_below table x l) l

    some : 0 < cell_size n
    some = size_some n B.dim

    -- an old side stays, and a new one is free
    straight : (x : ℕ) → New x → Straight n u x
    straight x (was l) =
        let top = B.dim.1 in
        let on = on_side T x l in
        straight_kept on u (λ y j near m. stays T fresh enough j y (omega arith) (side_live on y m))
        (stays T fresh enough n x (omega arith) l) (block_straight B x l)
    straight x (is k h e) = λ _.
        let top = B.dim.1 in
        ap (link u n) e ∙ add_new T fresh enough n k (omega arith) h
        ∙ ap (λ (k : ℕ). get_or fs k unused) (free_rows n B.dim n k (le_refl n)) ∙ sym e

    charted : (x : ℕ) → New x → Charted n u x
    charted x (was l) = record {
      c = place n t x;
      chart = chart_kept B u (place n t x) (place_chart B x l) (λ i k hi hk.
          let top = B.dim.1 in
          stays T fresh enough i (place n t x k) (omega arith) (place_live B x k l hk));
      base = live_of n u New ruled (place n t x 0) (was (place_live B x 0 l some));
      k = 0;
      low = some;
      is = place_zero B x l;
    }
    charted x (is k h e) = record {
      c = λ k. get_or fs k unused;
      chart = add_chart T fresh enough;
      base = live_of n u New ruled (get_or fs 0 unused) (is 0 some refl);
      k = k;
      low = h;
      is = e;
    }
