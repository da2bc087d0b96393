-- The darts that unsew frees are marked: what the record is drafted from (`unsewn_freed`); it has one change for each of them
-- (`freed_changes`).
use Prim.Native.Nat.{ℕ, ◌+◌, ◌*◌, ◌≤◌, ◌<◌}
use mathlib.Core.Path.{◌≡◌, refl, sym, ap, ◌∙◌}
use mathlib.Core.Logic.{inl, inr, ◌≢◌, ⊎_elim}
use mathlib.Core.Bool.{true, false}
use mathlib.Core.List.{List}
use native.Mathlib.Omega.{arith}
use lib.ListN.{length, get_or, get_or-eq_default}
use lib.Dec.{eqb}
use borrow.Author.Tests.{eq-eqb, ne_eqb}
use Rattle.model.specs.Lists.{tabulate, count}
use Rattle.model.specs.Table.{slots, link, live}
use Rattle.model.specs.Journal.{changes_from}
use Rattle.model.specs.Sew.{unsew_table}
use Rattle.model.specs.Meaning.Sets.{Marked, Bits}
use Rattle.model.specs.Meaning.Pairings.{OnSide}
use Rattle.theorems.proofs.Lists.Scan.{if_eq, if_lt, length_tab, get_or_tab}
use Rattle.theorems.proofs.Sets.Closure.{marked_in}
use Rattle.theorems.proofs.Sets.Pigeon.{count_none}
use Rattle.theorems.proofs.Sets.Sizes.{size_into}
use Rattle.theorems.proofs.Maps.Tables.{live_below, rule_at}
use Rattle.theorems.proofs.Operations.Relink.{relinked_long}
use Rattle.theorems.proofs.Operations.Changes.{changed_links, changes_size, changed_one, changed_none}
use Rattle.theorems.proofs.Sewing.Side.{live_before, side_live, side_comes, side_free_back}
use Rattle.theorems.proofs.Sewing.Unsew.{unsew_relinked, unsew_free, unsew_partner, unsew_rest, unsew_other}
use Rattle.marked_links.specs.Marked.{Freed}
use Rattle.call_unsew.specs.Marking.{Marking, Unsewn}

-- ---- one change for each marked dart

-- 1 at the marked darts, 0 elsewhere
unfoldable bit : List ℕ → ℕ → ℕ
bit m x = elim (eqb (get_or m x 0) 1) [ true ↦ 1 | false ↦ 0 ]

bit_one : (m : List ℕ) (x : ℕ) → Marked m x → bit m x ≡ 1
unfolding bit
bit_one m x h = rw (eq-eqb _ _ h, bit)

bit_none : (m : List ℕ) (x : ℕ) → (Marked m x → ⊥) → bit m x ≡ 0
unfolding bit
bit_none m x h = rw (ne_eqb _ _ h, bit)

module _ {t v m : List ℕ} {i : ℕ} (F : Freed t v m i) (inside : (x : ℕ) → Marked m x → x < slots t) where
  bits : List ℕ
  bits = tabulate (slots t) (bit m)

  at : (x : ℕ) → x < slots t → get_or bits x 0 ≡ bit m x
  unfolding bits
  at x low = get_or_tab (bit m) (slots t) x 0 low

  long : length bits ≡ slots t
  unfolding bits
  long = length_tab (bit m) (slots t)

  to : (x : ℕ) → Marked m x → Marked bits x
  to x h = at x (inside x h) ∙ bit_one m x h

  from : (x : ℕ) → Marked bits x → Marked m x
  from x h =
      let low = marked_in bits x h in
      if_eq (get_or m x 0) 1 (λ e. e) (λ e.
      let off = at x (rw (sym long) low) ∙ bit_none m x e in
      absurd (omega arith))

  same_size : count 1 bits ≡ count 1 m
  same_size =
      let less = size_into (λ x. x) bits m (λ x y _ _ e. e) from in
      let more = size_into (λ x. x) m bits (λ x y _ _ e. e) to in
      omega arith

  are_bits : Bits bits
  are_bits x = if_lt x (slots t)
      (λ low. if_eq (get_or m x 0) 1 (λ h. inr (to x h)) (λ h. inl (at x low ∙ bit_none m x h)))
      (λ high. let size = long in inl (get_or-eq_default bits 0 (omega arith)))

  slot : (x : ℕ) → x < slots t → changed_links t v x ≡ 1 * get_or bits x 0 + 0 * get_or bits x 0
  slot x low = if_eq (get_or m x 0) 1
      (λ h.
      let one = changed_one t v x i F.index (λ q. F.sewn x low h (q ∙ F.free x low h)) (λ j b ne. F.other x j low b ne) in
      let bit = to x h in
      omega arith)
      (λ h.
      let none = changed_none t v x (λ j b. if_eq j i (λ e. rw e (F.rest x low h)) (λ ne. F.other x j low b ne)) in
      let bit = at x low ∙ bit_none m x h in
      omega arith)

  pub freed_changes : length (changes_from 0 t v) ≡ count 1 m
  freed_changes =
      let size = changes_size t v F.fits F.long 1 0 bits bits long long are_bits are_bits slot in
      let same = same_size in
      omega arith

-- ---- the darts of unsew

module _ {n : ℕ} {t : List ℕ} {i d : ℕ} (on : OnSide n t i d) (sewn : link t i d ≢ d) where
  index : i < 4
  index = let top = on.table.dim.1 in let low = on.index in omega arith

  module _ {m₀ m : List ℕ} {r : ℕ} (clear : (x : ℕ) → Marked m₀ x → ⊥) (wide : slots t ≤ length m₀)
      (M : Marking (Unsewn n t i d) m₀ m r) where
    unsewn : (x : ℕ) → Marked m x → Unsewn n t i d x
    unsewn x h = ⊎_elim (λ k. absurd (clear x k)) (λ u. u) (M.only x h)

    -- it was not free, and is free
    moved : (x : ℕ) → Unsewn n t i d x → link t i x ≢ x
    moved x (y, own, inl e) q = sewn (side_free_back on y own (rw e at q))
    moved x (y, own, inr e) q =
        sewn (side_free_back on y own (sym e ∙ sym q ∙ ap (link t i) e ∙ side_comes on y own i on.index))

    free : (x : ℕ) → Unsewn n t i d x → link (unsew_table n t i d) i x ≡ x
    free x (y, own, inl e) = rw e (unsew_free on y own)
    free x (y, own, inr e) = rw e (unsew_partner on y own)

    lives : (x : ℕ) → Unsewn n t i d x → live t x ≡ true
    lives x (y, own, inl e) = rw e (side_live on y own)
    lives x (y, own, inr e) = rw e ((rule_at on.table y (side_live on y own)).goes i index)

    pub unsewn_inside : (x : ℕ) → Marked m x → x < slots t
    unsewn_inside x h = live_below on.table x (lives x (unsewn x h))

    rest : (x : ℕ) → (Marked m x → ⊥) → link (unsew_table n t i d) i x ≡ link t i x
    rest x out = unsew_rest on x (λ h. out (M.all x (x, h, inl refl)))
        (λ h.
        let live = live_before on.table x i index (side_live on (link t i x) h) in
        out (M.all x (link t i x, h, inr (sym ((rule_at on.table x live).comes i index))))) i index

    pub unsewn_freed : Freed t (unsew_table n t i d) m i
    unsewn_freed = record {
      long = relinked_long on.table on.index (unsew_relinked on);
      fits = on.table.whole;
      few = on.table.few;
      wide = rw M.long wide;
      index = index;
      sewn = λ x _ h. moved x (unsewn x h);
      free = λ x _ h. free x (unsewn x h);
      rest = λ x _ out. rest x out;
      other = λ x j _ low ne. unsew_other on x j low ne;
    }

    pub unsewn_number : r ≡ length (changes_from 0 t (unsew_table n t i d))
    unsewn_number =
        let none = count_none m₀ clear in
        let new = M.new in
        let size = freed_changes unsewn_freed unsewn_inside in
        omega arith
