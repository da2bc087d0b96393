-- The table that the cells of a text make: a block map, whose cells are the text's, and whose link 3 is as 02 says.
-- Main theorems: `read_cells` and `read_sewn`, `read_free` (the links), `read_stays`, `read_block`.
use Prim.Native.Nat.{ℕ, ◌+◌, ◌*◌, ◌/◌, ◌%◌, ◌≤◌, ◌<◌}
use mathlib.Core.Path.{◌≡◌, refl, sym, ap, subst, ◌∙◌}
use mathlib.Core.Logic.{inl, inr, ◌≢◌, ◌↔◌}
use mathlib.Core.Bool.{true, false}
use mathlib.Core.List.{List, []}
use native.Mathlib.Omega.{arith}
use lib.ListN.{length, get_or}
use lib.Dec.{eqb}
use borrow.Author.Tests.{eqb-false, ne_eqb, lt-ltb, le-ltb}
use Rattle.model.specs.Lists.{least}
use Rattle.model.specs.Faces.{darts, round_at, round, meets, partner, own_link, read_link, vtk_table}
use Rattle.model.specs.Table.{unused, slots, link, live}
use Rattle.model.specs.Map.{is_map}
use Rattle.model.specs.Cell.{cell_size, is_block}
use Rattle.model.specs.Numbering.{corners, flip, first_bit, cell_link}
use Rattle.model.specs.Meaning.Maps.{Straight, MapTable, BlockTable}
use Rattle.model.specs.Meaning.Places.{Chart}
use Rattle.model.specs.Meaning.Vtk.{Meets, Readable}
use Rattle.theorems.proofs.Lists.Scan.{test, clash, if_eq, if_lt, First, least_is}
use Rattle.theorems.proofs.Maps.Rules.{link_retable, slots_retable, length_retable, link_out, dead_link, dead_by, of_map}
use Rattle.theorems.proofs.Maps.Tables.{live_below}
use Rattle.theorems.proofs.Cells.Chart.{Ruled, ruled_table, of_live, live_of, Charted, block_by}
use Rattle.theorems.proofs.Cells.Exact.{of_block}
use Rattle.theorems.proofs.Sewing.Side.{side_within}
use Rattle.theorems.proofs.Vtk.Sites.{equal_is, equal_same, link_low, link_comes, link_cross, flipped, round_own, round_one}

-- ---- links within a cell

module _ (j d : ℕ) (b : j < 4) where
  rest_low : d % 48 < 48
  rest_low = omega arith

  pub own_cell : own_link j d / 48 ≡ d / 48
  unfolding own_link
  own_cell = let l = link_low j (d % 48) b rest_low in omega arith

  pub own_rest : own_link j d % 48 ≡ cell_link 3 j (d % 48)
  unfolding own_link
  own_rest = let l = link_low j (d % 48) b rest_low in omega arith

pub own_at : (j c k : ℕ) → k < 48 → own_link j (48 * c + k) ≡ 48 * c + cell_link 3 j k
unfolding own_link
own_at j c k h =
    let cell : (48 * c + k) / 48 ≡ c = omega arith in
    let rest : (48 * c + k) % 48 ≡ k = omega arith in
    rw (cell, rest)

parts : (d : ℕ) → 48 * (d / 48) + d % 48 ≡ d
parts d = omega arith

own_comes : (j d : ℕ) → j < 4 → own_link j (own_link j d) ≡ d
unfolding own_link
own_comes j d b =
    let low : d % 48 < 48 = omega arith in
    own_at j (d / 48) (cell_link 3 j (d % 48)) (link_low j (d % 48) b low)
    ∙ ap (λ (k : ℕ). 48 * (d / 48) + k) (link_comes j (d % 48) b low) ∙ parts d

own_cross : (i j d : ℕ) → i + 2 ≤ j → j ≤ 3 → own_link j (own_link i (own_link j (own_link i d))) ≡ d
own_cross i j d far top =
    let c = d / 48 in
    let k = d % 48 in
    let bi : i < 4 = omega arith in
    let bj : j < 4 = omega arith in
    let h : k < 48 = omega arith in
    let k₁ = cell_link 3 i k in
    let h₁ = link_low i k bi h in
    let k₂ = cell_link 3 j k₁ in
    let h₂ = link_low j k₁ bj h₁ in
    let k₃ = cell_link 3 i k₂ in
    let h₃ = link_low i k₂ bi h₂ in
    ap (λ (x : ℕ). own_link j (own_link i (own_link j (own_link i x)))) (sym (parts d))
    ∙ rw (own_at i c k h, own_at j c k₁ h₁, own_at i c k₂ h₂, own_at j c k₃ h₃, link_cross i j k far top h) (parts d)

own_low : (rows : List (List ℕ)) (j d : ℕ) → j < 4 → d < darts rows → own_link j d < darts rows
unfolding own_link darts
own_low rows j d b h = let l = link_low j (d % 48) b (rest_low j d b) in omega arith

-- ---- darts that meet

module _ {t : List ℕ} {rows : List (List ℕ)} (R : Readable t rows) where
  meets_back : {d e : ℕ} → Meets rows d e → Meets rows e d
  meets_back m = record { low = m.low_other; low_other = m.low; apart = λ q. m.apart (sym q); same = sym m.same }

  cell_low : (d : ℕ) → d < darts rows → d / 48 < length rows
  unfolding darts
  cell_low d h = omega arith

  -- no two darts of a cell have the same vertex, edge and face
  round_at_one : (d e : ℕ) → d < darts rows → d / 48 ≡ e / 48 → round_at rows d ≡ round_at rows e → d ≡ e
  unfolding round_at
  round_at_one d e h q s =
      let k : d % 48 ≡ e % 48 = round_one (get_or rows (d / 48) []) (λ i j li lj. R.cells.once (d / 48) i j (cell_low d h) li lj)
      (d % 48) (e % 48) (omega arith) (omega arith) (s ∙ ap (λ (c : ℕ). round (get_or rows c []) (e % 48)) (sym q)) in
      omega arith

  meets_one : (d e f : ℕ) → Meets rows d e → Meets rows d f → e ≡ f
  meets_one d e f m n = if_eq (e / 48) (f / 48)
      (λ q. round_at_one e f m.low_other q (sym m.same ∙ n.same))
      (λ q. absurd (R.no_three d e f m n (record { low = m.low_other; low_other = n.low_other; apart = q; same = sym m.same ∙ n.same })))

  round_at_own : (j d : ℕ) → j < 2 → round_at rows (own_link j d) ≡ flipped j (round_at rows d)
  unfolding round_at
  round_at_own j d b =
      rw (own_cell j d (omega arith), own_rest j d (omega arith)) (round_own (get_or rows (d / 48) []) j (d % 48) b (omega arith))

  meets_own : (j d e : ℕ) → j < 2 → Meets rows d e → Meets rows (own_link j d) (own_link j e)
  meets_own j d e b m = record {
    low = own_low rows j d (omega arith) m.low;
    low_other = own_low rows j e (omega arith) m.low_other;
    apart = λ q. m.apart (sym (own_cell j d (omega arith)) ∙ q ∙ own_cell j e (omega arith));
    same = round_at_own j d b ∙ ap (flipped j) m.same ∙ sym (round_at_own j e b);
  }

  -- ---- the test

  meets_true : (d e : ℕ) → d < darts rows → e < darts rows → meets rows d e ≡ true → Meets rows d e
  unfolding meets
  meets_true d e hd he h = test (eqb (d / 48) (e / 48)) (λ q. absurd (clash h (rw (q, meets))))
      (λ q. record { low = hd; low_other = he; apart = eqb-false _ _ q; same = equal_is _ _ (rw (q, meets) at h) })

  true_meets : (d e : ℕ) → Meets rows d e → meets rows d e ≡ true
  unfolding meets
  true_meets d e m = rw (ne_eqb _ _ m.apart, meets, m.same) (equal_same (round_at rows e))

  -- ---- the partner

  -- it meets d, or nothing does
  pub data Partner (d : ℕ) : Type 0 where
    sewn : Meets rows d (partner rows d) → Partner d
    free : partner rows d ≡ d → ((e : ℕ) → Meets rows d e → ⊥) → Partner d

  pub partner_is : (d : ℕ) → d < darts rows → Partner d
  unfolding partner
  partner_is d h = if_lt first (darts rows) found none
    where
      first : ℕ
      first = least (darts rows) (meets rows d)

      is : First (meets rows d) 0 (darts rows) first
      is = least_is (meets rows d) (darts rows)

      found : first < darts rows → Partner d
      found l = sewn (rw (lt-ltb first (darts rows) l, partner) (meets_true d first h l (is.passes l)))

      none : darts rows ≤ first → Partner d
      none l = free (rw (le-ltb first (darts rows) l, partner))
          (λ e m. clash (true_meets d e m) (is.before e (omega arith) (let b = m.low_other in omega arith)))

  pub partner_exactly : (d e : ℕ) → d < darts rows → Meets rows d e → partner rows d ≡ e
  partner_exactly d e h m = by (partner_is d h)
    where
      by : Partner d → partner rows d ≡ e
      by (sewn n) = meets_one d _ _ n m
      by (free p none) = absurd (none e m)

  pub partner_goes : (d : ℕ) → d < darts rows → partner rows d < darts rows
  partner_goes d h = by (partner_is d h)
    where
      by : Partner d → partner rows d < darts rows
      by (sewn n) = n.low_other
      by (free p none) = rw p h

  pub partner_comes : (d : ℕ) → d < darts rows → partner rows (partner rows d) ≡ d
  partner_comes d h = by (partner_is d h)
    where
      by : Partner d → partner rows (partner rows d) ≡ d
      by (sewn n) = partner_exactly _ d n.low_other (meets_back n)
      by (free p none) = ap (partner rows) p ∙ p

  pub partner_own : (j d : ℕ) → j < 2 → d < darts rows → partner rows (own_link j d) ≡ own_link j (partner rows d)
  partner_own j d b h = by (partner_is d h)
    where
      low : own_link j d < darts rows
      low = own_low rows j d (omega arith) h

      back : (e : ℕ) → Meets rows (own_link j d) e → Meets rows d (own_link j e)
      back e m = rw (own_comes j d (omega arith)) at (meets_own j (own_link j d) e b m)

      by : Partner d → partner rows (own_link j d) ≡ own_link j (partner rows d)
      by (sewn n) = partner_exactly (own_link j d) (own_link j (partner rows d)) low (meets_own j d (partner rows d) b n)
      by (free p none) = other (partner_is (own_link j d) low)
        where
          other : Partner (own_link j d) → partner rows (own_link j d) ≡ own_link j (partner rows d)
          other (sewn n) = absurd (none _ (back _ n))
          other (free q _) = q ∙ ap (own_link j) (sym p)

  -- ---- the table

  pub read_slots : slots (vtk_table t rows) ≡ slots t
  unfolding vtk_table
  read_slots = slots_retable t (read_link t rows) R.whole

  pub read_long : length (vtk_table t rows) ≡ length t
  unfolding vtk_table
  read_long = length_retable t (read_link t rows) R.whole

  read_whole : length (vtk_table t rows) ≡ 4 * slots (vtk_table t rows)
  read_whole = read_long ∙ R.whole ∙ ap (λ (k : ℕ). 4 * k) (sym read_slots)

  -- "Each cell is added as by add": the dart k of the cell c is in the slot 48 c + k
  pub read_own : (j d : ℕ) → j < 3 → d < darts rows → link (vtk_table t rows) j d ≡ own_link j d
  unfolding vtk_table read_link
  read_own j d b h =
      let room = R.room in
      link_retable t (read_link t rows) R.whole d j (omega arith) (omega arith)
      ∙ rw (lt-ltb d (darts rows) h, ne_eqb j 3 (omega arith), read_link)

  pub read_cells : (j c k : ℕ) → j < 3 → c < length rows → k < 48
      → link (vtk_table t rows) j (48 * c + k) ≡ 48 * c + cell_link 3 j k
  unfolding darts
  read_cells j c k b hc hk = read_own j (48 * c + k) b (omega arith) ∙ own_at j c k hk

  pub read_partner : (d : ℕ) → d < darts rows → link (vtk_table t rows) 3 d ≡ partner rows d
  unfolding vtk_table read_link
  read_partner d h =
      let room = R.room in
      link_retable t (read_link t rows) R.whole d 3 (omega arith) (omega arith)
      ∙ rw (lt-ltb d (darts rows) h, read_link)

  pub read_stays : (j d : ℕ) → j < 4 → darts rows ≤ d → link (vtk_table t rows) j d ≡ link t j d
  unfolding vtk_table read_link
  read_stays j d b h = if_lt d (slots t)
      (λ l. link_retable t (read_link t rows) R.whole d j l b ∙ rw (le-ltb d (darts rows) h, read_link))
      (λ l. link_out (vtk_table t rows) d read_whole (let s = read_slots in omega arith) j ∙ sym (link_out t d R.whole l j))

  pub read_goes : (j d : ℕ) → j < 4 → d < darts rows → link (vtk_table t rows) j d < darts rows
  read_goes j d b h = if_lt j 3 (λ l. rw (read_own j d l h) (own_low rows j d b h))
      (λ l. let q : j ≡ 3 = omega arith in rw (q, read_partner d h) (partner_goes d h))

  -- link 3 leads to another dart exactly if the two meet, and else to the dart itself
  pub read_sewn : (d e : ℕ) → d < darts rows → e ≢ d → (link (vtk_table t rows) 3 d ≡ e) ↔ Meets rows d e
  read_sewn d e h other = (to, λ m. read_partner d h ∙ partner_exactly d e h m)
    where
      by : partner rows d ≡ e → Partner d → Meets rows d e
      by q (sewn m) = rw q at m
      by q (free p none) = absurd (other (sym q ∙ p))

      to : link (vtk_table t rows) 3 d ≡ e → Meets rows d e
      to q = by (sym (read_partner d h) ∙ q) (partner_is d h)

  pub read_free : (d : ℕ) → d < darts rows → (link (vtk_table t rows) 3 d ≡ d) ↔ ((e : ℕ) → Meets rows d e → ⊥)
  read_free d h = (to, from)
    where
      to : link (vtk_table t rows) 3 d ≡ d → (e : ℕ) → Meets rows d e → ⊥
      to q e m = m.apart (ap (λ (x : ℕ). x / 48) (sym q ∙ read_partner d h ∙ partner_exactly d e h m))

      by : ((e : ℕ) → Meets rows d e → ⊥) → Partner d → partner rows d ≡ d
      by none (sewn m) = absurd (none _ m)
      by none (free p _) = p

      from : ((e : ℕ) → Meets rows d e → ⊥) → link (vtk_table t rows) 3 d ≡ d
      from none = read_partner d h ∙ by none (partner_is d h)

  -- ---- it is a block map

  InCell : ℕ → Type 0
  InCell d = d < darts rows

  read_ruled : Ruled 3 (vtk_table t rows) InCell
  unfolding InCell
  read_ruled = record {
    few = let s = read_slots in let few = R.few in omega arith;
    inside = λ x h. let s = read_slots in let room = R.room in omega arith;
    other = λ x h. if_lt x (darts rows) inl (λ l. inr (dead x l));
    goes = λ x j b h. read_goes j x b h;
    comes = comes;
    cross = cross;
    plane = λ x p l. absurd (omega arith);
  }
    where
      u : List ℕ
      u = vtk_table t rows

      dead : (x : ℕ) → darts rows ≤ x → live u x ≡ false
      dead x l =
          let none : (j : ℕ) → j < 4 → link u j x ≡ unused = λ j b. read_stays j x b l ∙ dead_link t x (R.empty x) j b in
          dead_by u x (none 0 (omega arith)) (none 1 (omega arith)) (none 2 (omega arith)) (none 3 (omega arith))

      comes : (x j : ℕ) → j < 4 → x < darts rows → link u j (link u j x) ≡ x
      comes x j b h = if_lt j 3
          (λ l. rw (read_own j x l h, read_own j (own_link j x) l (own_low rows j x b h)) (own_comes j x b))
          (λ l.
          let q : j ≡ 3 = omega arith in
          rw (q, read_partner x h, read_partner (partner rows x) (partner_goes x h)) (partner_comes x h))

      cross : (x i j : ℕ) → i + 2 ≤ j → j ≤ 3 → x < darts rows → link u j (link u i (link u j (link u i x))) ≡ x
      cross x i j far top h = if_lt j 3 below (λ l. three (omega arith))
        where
          hi : own_link i x < darts rows
          hi = own_low rows i x (omega arith) h

          below : j < 3 → link u j (link u i (link u j (link u i x))) ≡ x
          below l =
              let li : i < 3 = omega arith in
              let x₁ = own_link i x in
              let x₂ = own_link j x₁ in
              let h₂ = own_low rows j x₁ (omega arith) hi in
              let x₃ = own_link i x₂ in
              let h₃ = own_low rows i x₂ (omega arith) h₂ in
              rw (read_own i x li h, read_own j x₁ l hi, read_own i x₂ li h₂, read_own j x₃ l h₃) (own_cross i j x far top)

          three : j ≡ 3 → link u j (link u i (link u j (link u i x))) ≡ x
          three q =
              let li : i < 3 = omega arith in
              let bi : i < 4 = omega arith in
              let y = partner rows x in
              let hy = partner_goes x h in
              rw (
                q,
                read_own i x li h,
                read_partner (own_link i x) hi,
                partner_own i x (omega arith) h,
                read_own i (own_link i y) li (own_low rows i y bi hy),
                own_comes i y bi,
                read_partner y hy,
              )
              (partner_comes x h)

  pub read_table : MapTable 3 (vtk_table t rows)
  read_table = ruled_table (omega arith, omega arith) read_whole read_ruled

  pub read_live : (d : ℕ) → (live (vtk_table t rows) d ≡ true) ↔ (d < darts rows)
  unfolding InCell
  read_live d = (to, live_of 3 (vtk_table t rows) InCell read_ruled d)
    where
      to : live (vtk_table t rows) d ≡ true → d < darts rows
      to l = of_live 3 (vtk_table t rows) InCell read_ruled d (live_below read_table d l) l

  -- the darts of the cell c are a chart
  read_chart : (c : ℕ) → c < length rows → Chart 3 (vtk_table t rows) (λ k. 48 * c + k)
  unfolding cell_size
  read_chart c hc = record { follow = λ i k hi hk. read_cells i c k hi hc hk; apart = λ a b ab hb e. omega arith }

  pub read_block : BlockTable 3 (vtk_table t rows)
  unfolding cell_size darts
  read_block = block_by read_table charted (λ x l. straight x ((read_live x).0 l))
    where
      -- the side of a dart lies in its cell, and what meets the dart does not
      straight : (x : ℕ) → x < darts rows → Straight 3 (vtk_table t rows) x
      straight x h inside =
          let (low, same) = side_within 3 (vtk_table t rows) x (λ y. (y < darts rows) × (y / 48 ≡ x / 48)) (h, refl)
          (λ y j b p.
          subst (λ (z : ℕ). (z < darts rows) × (z / 48 ≡ x / 48)) (sym (read_own j y (omega arith) p.0))
          (own_low rows j y (omega arith) p.0, own_cell j y (omega arith) ∙ p.1))
          (link (vtk_table t rows) 3 x) inside in
          if_eq (link (vtk_table t rows) 3 x) x (λ e. e)
          (λ other. absurd (((read_sewn x (link (vtk_table t rows) 3 x) h other).0 refl).apart (sym same)))

      charted : (x : ℕ) → live (vtk_table t rows) x ≡ true → Charted 3 (vtk_table t rows) x
      charted x l =
          let h = (read_live x).0 l in
          let c = x / 48 in
          record {
            c = λ k. 48 * c + k;
            chart = read_chart c (omega arith);
            base = (read_live (48 * c + 0)).1 (omega arith);
            k = x % 48;
            low = omega arith;
            is = omega arith;
          }

  pub read_map_test : is_map 3 (vtk_table t rows) ≡ true
  read_map_test = of_map 3 (vtk_table t rows) read_table.map

  pub read_block_test : is_block 3 (vtk_table t rows) ≡ true
  read_block_test = of_block 3 (vtk_table t rows) read_block

  -- where there is a cell, the table is another
  pub read_differs : 0 < length rows → t ≢ vtk_table t rows
  unfolding darts own_link cell_link corners flip first_bit
  read_differs some e =
      let old = dead_link t 0 (R.empty 0) 0 (omega arith) in
      let new : link (vtk_table t rows) 0 0 ≡ 1 = read_own 0 0 (omega arith) (omega arith) in
      let same : unused ≡ 1 = sym old ∙ ap (λ (u : List ℕ). link u 0 0) e ∙ new in
      omega arith
