-- remove at a dart of the new crossing edges gives back the table that insert was given, entry for entry: `remove_back`.
use Prim.Native.Nat.{ℕ, ◌-◌, ◌<◌}
use mathlib.Core.Path.{◌≡◌, sym, ap, ◌∙◌, subst}
use mathlib.Core.Logic.{⊎_elim}
use mathlib.Core.Bool.{true, false}
use mathlib.Core.List.{List, [], ◌∷◌, Memᴰ as In}
use native.Mathlib.Omega.{arith}
use Rattle.model.specs.Table.{slots, link, walk, live}
use Rattle.model.specs.Remove.{opposite, marked, remove_table}
use Rattle.model.specs.NewDarts.{new_dart}
use Rattle.model.specs.Insert.{laid}
use Rattle.model.specs.Meaning.Sheets.{marks_of}
use Rattle.model.specs.Meaning.Walks.{hop, arrived, onward, FirstOutside, Removes}
use Rattle.model.specs.Meaning.Walls.{Clear, Joined}
use Rattle.theorems.proofs.Lists.Scan.{test, if_eq}
use Rattle.theorems.proofs.Lists.Ones.{in_or}
use Rattle.theorems.proofs.Maps.Rules.{dead_link}
use Rattle.theorems.proofs.Maps.Tables.{map_table, rule_at}
use Rattle.theorems.proofs.Operations.Frame.{insert_frame}
use Rattle.theorems.proofs.Operations.Relink.{table_same}
use Rattle.theorems.proofs.Layers.Walk.{walk_append, outside_unique}
use Rattle.theorems.proofs.Layers.Remove.{remove_removes}
use Rattle.theorems.proofs.Layers.NewDarts.{new_in, not_new}
use Rattle.theorems.proofs.Insert.Laid.{Laying, spread, laid_length, laid_wall}
use Rattle.theorems.proofs.Insert.Sheet.{crossing, crossing_new, crossing_dart, crossing_cells, walk_p}

module _ {n : ℕ} {t hs fs : List ℕ} {nx : ℕ → ℕ} (C : Laying n t hs fs nx) (clear : Clear n t hs nx) (joined : Joined n t hs nx)
    (h : ℕ) (i : In h hs) where
  abbrev after : List ℕ
  after = laid n t hs fs nx

  abbrev seed : ℕ
  seed = crossing C h

  abbrev m : List ℕ
  m = marks_of n after seed

  abbrev left : List ℕ
  left = remove_table n after seed

  R : Removes n after m left
  R = remove_removes (crossing_dart C clear joined h i)

  low : n < 4
  low = let dim = C.table.dim in omega arith

  in_marked : (x : ℕ) → In x fs → marked m x ≡ true
  in_marked x k = (crossing_cells C clear joined h i x).1 k

  out_marked : (x : ℕ) → (In x fs → ⊥) → marked m x ≡ false
  out_marked x out = test (marked m x) (λ e. absurd (out ((crossing_cells C clear joined h i x).0 e))) (λ e. e)

  -- the walk from a dart x of the wall: x, p(x), p(x.n), x.n
  over_wall : (x : ℕ) → In x hs → FirstOutside n after m (link t n x) (link after n x)
  unfolding hop walk
  over_wall x k = rw (laid_wall C x k) (record {
    reached = onward (in_marked _ (new_in (spread C) 0 x (let two = C.table.dim.0 in omega arith) k))
        (arrived (sym (walk_append after (opposite n) (n ∷ []) (new_dart n hs fs 0 x)) ∙ walk_p C x k));
    outside = out_marked _ (not_new (spread C) _ (C.wall.lives _ (C.wall.over x k)));
  })

  kept : (x j : ℕ) → x < slots t → (In x fs → ⊥) → j < 4 → (j ≡ n → In x hs → ⊥) → link after j x ≡ link t j x
  kept x j b out = insert_frame t C.table.whole x b n hs fs nx out j

  -- link n of a dart that is not new leads to none that is
  old_over : (x : ℕ) → In (link t n x) fs → ⊥
  old_over x k = test (live t x)
      (λ l. not_new (spread C) (link t n x) ((rule_at (map_table C.table) x l).goes n low) k)
      (λ l.
      let none = dead_link t x l n low in
      let inside = C.vacant.inside (link t n x) k in
      let few = C.table.few in
      omega arith)

  back_n : (x : ℕ) → x < slots t → (In x fs → ⊥) → link left n x ≡ link t n x
  back_n x b out = ⊎_elim
      (λ k.
      let w = over_wall x k in
      let entered = in_marked _ (new_in (spread C) 0 x (let two = C.table.dim.0 in omega arith) k) in
      outside_unique (R.found x (out_marked x out) (ap (marked m) (laid_wall C x k) ∙ entered)) w)
      (λ off.
      let same = kept x n b out low (λ _. off) in
      R.keeps x (out_marked x out) (ap (marked m) same ∙ out_marked (link t n x) (old_over x)) ∙ same) (in_or hs x)

  back_link : (x j : ℕ) → x < slots t → j < 4 → link left j x ≡ link t j x
  back_link x j b l = ⊎_elim
      (λ k. R.gone x j l (in_marked x k) ∙ sym (dead_link t x (C.vacant.dead x k) j l))
      (λ out. if_eq j n (λ e. rw e (back_n x b out))
      (λ e. R.stays x j l e (out_marked x out) ∙ kept x j b out l (λ q. absurd (e q)))) (in_or fs x)

  remove_crossing : remove_table n (laid n t hs fs nx) (crossing C h) ≡ t
  remove_crossing = table_same t C.table.whole left (R.long ∙ laid_length C) back_link

  -- "Removing the sheet through the new crossing edges must .. give back the old table entry for entry"
  pub remove_back : remove_table n (laid n t hs fs nx) (new_dart n hs fs (n - 1) h) ≡ t
  remove_back = subst (λ (d : ℕ). remove_table n after d ≡ t) (crossing_new C h) remove_crossing
