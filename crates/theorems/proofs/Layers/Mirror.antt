-- A walk of remove that ends in the side it begins at ends where it begins (`walk_own`): if it ends where a word of links 0..n-2
-- leads from x, then walked back it is the walk moved by that word. In its middle stands a link n, whose side is not
-- folded, so that it is free and the word leads from x to x; or an opposite side, to which no such word leads (`mirror`).
use Prim.Native.Nat.{ℕ, zero, suc}
use mathlib.Core.Path.{◌≡◌, refl, sym, ap, ◌∙◌, subst}
use mathlib.Core.Bool.{true}
use mathlib.Core.List.{List}
use Rattle.model.specs.Table.{link, walk, live}
use Rattle.model.specs.Sew.{side}
use Rattle.model.specs.Meaning.Maps.{BlockTable}
use Rattle.model.specs.Meaning.Sets.{Marked}
use Rattle.model.specs.Meaning.Walks.{hop, Reaches, arrived, onward}
use Rattle.theorems.proofs.Maps.Tables.{map_table}
use Rattle.theorems.proofs.Sewing.Side.{on_side}
use Rattle.theorems.proofs.Cells.Chart.{block_straight}
use Rattle.theorems.proofs.Layers.Walk.{facing, facing_twice, link_live, link_back, hop_live, hop_back}
use Rattle.theorems.proofs.Layers.Near.{Near, near_side, side_near, near_live, near_link, near_facing, facing_other}

module _ {n : ℕ} {t : List ℕ} (B : BlockTable n t) where
  -- ---- the walk, by its number of hops

  hops : ℕ → ℕ → ℕ
  hops zero y = y
  hops (suc k) y = hops k (hop n t y)

  hops_last : (k y : ℕ) → hops (suc k) y ≡ hop n t (hops k y)
  unfolding hops
  hops_last zero y = refl
  hops_last (suc k) y = hops_last k (hop n t y)

  hops_live : (k y : ℕ) → live t y ≡ true → live t (hops k y) ≡ true
  unfolding hops
  hops_live zero y l = l
  hops_live (suc k) y l = hops_live k (hop n t y) (hop_live B y l)

  hops_of : {m : List ℕ} {z y : ℕ} → Reaches n t m z y → (k : ℕ) × (hops k y ≡ z)
  unfolding hops
  hops_of (arrived e) = (0, e)
  hops_of (onward _ p) = let (k, e) = hops_of p in (suc k, e)

  -- ---- a walk from y that ends where the word leads from link n of y

  module _ {w : List ℕ} (near : Near n w) where
    abbrev moved : ℕ → ℕ
    moved = walk t w

    -- link n before the word
    moved_link : (y : ℕ) → live t y ≡ true → link t n (moved (link t n y)) ≡ moved y
    moved_link y l = sym (near_link B near (link t n y) (link_live B y l)) ∙ ap moved (link_back B y l)

    mirror : (k y : ℕ) → live t y ≡ true → hops k y ≡ moved (link t n y) → moved y ≡ y
    unfolding hops
    -- the middle is a link n
    mirror zero y l e =
        let z = link t n y in
        let lz = link_live B y l in
        let there : Marked (side n t n z) (link t n z)
        = subst (Marked (side n t n z)) (sym e ∙ sym (link_back B y l)) (near_side (on_side (map_table B) z lz) near) in
        let free : z ≡ y = sym (block_straight B z lz there) ∙ link_back B y l in
        ap moved (sym free) ∙ sym e
    -- the middle is an opposite side
    mirror (suc zero) y l e =
        absurd (facing_other B near y l (sym (hop_back B y l) ∙ ap (link t n) e ∙ moved_link y l))
    mirror (suc (suc k)) y l e =
        let y' = hop n t y in
        let l' = hop_live B y l in
        let v = hops k y' in
        let lv = hops_live k y' l' in
        let over : facing n t v ≡ moved y
        = sym (hop_back B v lv) ∙ ap (link t n) (sym (hops_last k y') ∙ e) ∙ moved_link y l in
        let meets : v ≡ moved (link t n y')
        = sym (facing_twice B v lv) ∙ ap (facing n t) over ∙ sym (near_facing B near y l) ∙ ap moved (sym (hop_back B y l)) in
        let inner : moved y' ≡ y' = mirror k y' l' meets in
        let kept : facing n t (moved y) ≡ facing n t y
        = sym (near_facing B near y l) ∙ ap moved (sym (hop_back B y l)) ∙ near_link B near y' l' ∙ ap (link t n) inner
        ∙ hop_back B y l in
        sym (facing_twice B (moved y) (near_live B near y l)) ∙ ap (facing n t) kept ∙ facing_twice B y l

  pub walk_own : {m : List ℕ} (x z : ℕ) → live t x ≡ true → Marked (side n t n x) z → Reaches n t m z (link t n x) → z ≡ x
  walk_own x z l s p =
      let (w, near, e) = side_near n t x z s in
      let (k, ends) = hops_of p in
      let lx = link_live B x l in
      let fixed = mirror near k (link t n x) lx (ends ∙ e ∙ ap (walk t w) (sym (link_back B x l))) in
      e ∙ sym (moved_link near x l) ∙ ap (link t n) fixed ∙ link_back B x l
