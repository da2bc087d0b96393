-- Rows read one by one: `along_start`, `along_next`, `along_more`; and what they come to: `along_read`.
use Prim.Native.Nat.{ℕ, suc, ◌+◌, ◌*◌, ◌-◌, ◌≤◌, ◌<◌}
use mathlib.Core.Path.{◌≡◌, refl, sym, ap, ◌∙◌, subst}
use mathlib.Core.List.Memᴰ.{head as here}
use mathlib.Core.List.Memᴰ.{tail as there}
use mathlib.Core.List.{List, [], ◌∷◌, Memᴰ as In}
use mathlib.Core.Option.{some}
use native.Mathlib.Omega.{arith}
use native.Mathlib.Numerals.{add-one}
use lib.ListN.{length, get_or, take, drop, length-drop}
use lib.Seq.{drop-cons, get_or-drop, get_or-take, length-take-le, ext_get_or}
use Rattle.model.specs.Vtk.{words, Counted, counted}
use Rattle.model.specs.Meaning.Vtk.{RowsAt}
use Rattle.theorems.proofs.Lists.Scan.{if_eq}
use Rattle.theorems.proofs.Lists.Ones.{get_or_in}
use Rattle.vtk_words.specs.Words.{number_at}
use Rattle.vtk_words.proofs.Counting.{FirstRow, rows_first}
use Rattle.vtk_rows.specs.Rows.{RowAt, RowRead, EightsAt, EightsRead}

-- c of the rows are read, and the others stand at p
pub record Along (text : List ℕ) (rows : List (List ℕ)) (before after : List ℕ) (p c : ℕ) : Type 0 where
  pub left : RowsAt text p (drop c rows)
  pub put : (d j : ℕ) → d < c → j < 8 → get_or after (8 * d + j) 0 ≡ get_or (get_or rows d []) j 0
  pub above : (x : ℕ) → 8 * c ≤ x → get_or after x 0 ≡ get_or before x 0

module _ (text : List ℕ) (at k : ℕ) (rows : List (List ℕ)) (h : EightsAt text at k rows) (before : List ℕ) where
  pub along_start : Along text rows before before at 0
  along_start = record {
    left = h.stand;
    put = λ d j l m. absurd (omega arith);
    above = λ x l. refl;
  }

  module _ (after : List ℕ) (p c : ℕ) (low : c < k) (g : Along text rows before after p c) where
    inside : c < length rows
    inside = let e = h.enough in omega arith

    split : drop c rows ≡ get_or rows c [] ∷ drop (suc c) rows
    split = drop-cons rows c [] inside

    next : FirstRow (length (drop (suc c) rows)) g.left.size (words (drop p text)) (get_or rows c []) (drop (suc c) rows)
    next =
        let read = g.left.read in
        rows_first (length (drop (suc c) rows)) g.left.size (words (drop p text)) (get_or rows c []) (drop (suc c) rows) (rw split at read)

    -- the next word is 8
    pub along_next : (d : Counted) × (counted (words (drop p text)) ≡ some d) × (d.value ≡ 8)
    along_next = let f = next in (record { value = length (get_or rows c []); rest = f.rest }, f.is, h.eight c inside)

    module _ (v start : ℕ) (long : counted (words (drop p text)) ≡ some (number_at text v start)) where
      behind : next.rest ≡ words (drop start text)
      behind =
          let f = next in
          let same : record { value = length (get_or rows c []); rest = f.rest } ≡ number_at text v start = cc f.is in
          ap (λ (d : Counted). d.rest) same

      -- and the row behind it
      pub along_row : RowAt text start (get_or rows c [])
      along_row =
          let read = next.read in
          let eight = h.eight c inside in
          record {
            read = rw (eight, behind) at read;
            few = λ j l. g.left.few (get_or rows c []) (subst (In (get_or rows c [])) (sym split) (here refl)) (get_or (get_or rows c []) j 0)
                (get_or_in (get_or rows c []) j 0 (omega arith));
          }

      pub along_more : (end : ℕ) (now : List ℕ) → end ≤ length text → RowRead text start (get_or rows c []) after now (8 * c) end
          → Along text rows before now end (c + 1)
      along_more end now high r =
          let eight = h.eight c inside in
          let more = next.more in
          record {
            left = rw (add-one c) (record {
              low = high;
              size = g.left.size - suc (length (get_or rows c []));
              read = rw (r.behind, ← behind, ← eight) more;
              few = λ row i. g.left.few row (subst (In row) (sym split) (there i));
            });
            put = λ d j l m. if_eq d c
                (λ e. rw e (r.stands.put j m))
                (λ e. r.stands.below (8 * d + j) (omega arith) ∙ g.put d j (omega arith) m);
            above = λ x l. r.stands.above x (omega arith) ∙ g.above x (omega arith);
          }

  pub along_read : (after : List ℕ) (p : ℕ) → length after ≡ length before → 8 * k ≤ length before
      → Along text rows before after p k → EightsRead text k rows before after p
  along_read after p same room g = record {
    left = g.left;
    row = λ c l.
        let e = h.enough in
        let eight = h.eight c (omega arith) in
        let long : length (take 8 (drop (8 * c) after)) ≡ 8 = length-take-le 8 (drop (8 * c) after) (simp length-drop (omega arith)) in
        ext_get_or 0 (take 8 (drop (8 * c) after)) (get_or rows c []) (omega arith) (λ j m.
        get_or-take 8 (drop (8 * c) after) j 0 (omega arith) ∙ get_or-drop (8 * c) after j 0 ∙ g.put c j l (omega arith));
    same = same;
    stays = ext_get_or 0 (drop (8 * k) after) (drop (8 * k) before) (simp length-drop (omega arith)) (λ j m.
        get_or-drop (8 * k) after j 0 ∙ g.above (8 * k + j) (omega arith) ∙ sym (get_or-drop (8 * k) before j 0));
  }
