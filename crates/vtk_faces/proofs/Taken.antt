-- The cells of a text, a block at a time.
-- Main theorems: `block_own`, `block_three`, `block_rest`; `taken_block`; `twice_here`, `twice_more`, `twice_none`.
use Prim.Native.Nat.{ℕ, ◌+◌, ◌*◌, ◌-◌, ◌≤◌, ◌<◌}
use mathlib.Core.Path.{◌≡◌, sym, ap, ◌∙◌}
use mathlib.Core.Logic.{◌≢◌}
use mathlib.Core.Bool.{true, false, not}
use mathlib.Core.List.{List, []}
use native.Mathlib.Omega.{arith}
use lib.ListN.{length, get_or, take, drop, length-take, length-drop}
use lib.Seq.{get_or-take, get_or-drop}
use borrow.Author.Tests.{not-true}
use Rattle.model.specs.Faces.{repeats}
use Rattle.model.specs.Meaning.Vtk.{Hexahedra}
use Rattle.theorems.proofs.Lists.Scan.{test, clash, if_lt}
use Rattle.vtk_faces.specs.Buffers.{Held}
use Rattle.vtk_rows.specs.Rows.{EightsRead}
use Rattle.vtk_faces.specs.Faces.{Sited, held_face}
use Rattle.vtk_faces.specs.Judged.{Ran}
use Rattle.vtk_faces.specs.Blocks.{Lent, Own, Block}
use Rattle.vtk_faces.specs.Repeats.{all_once}
use Rattle.vtk_faces.specs.Texts.{face_from, Rest, BlockAt}
use Rattle.vtk_faces.proofs.Blocks.{ran_wide}
use Rattle.vtk_faces.proofs.Same.{ran_same}
use Rattle.vtk_faces.proofs.Resting.{read_face, read_left}
use Rattle.vtk_faces.proofs.Twice.{all_at, at_all}

-- ---- a block and what stands behind it

module _ (rows : List (List ℕ)) (d k : ℕ) (buffer text : List ℕ) (at cells : ℕ) (B : BlockAt rows d k buffer text at cells) where
  pub block_own : (sites heads nexts mates : List ℕ) → Sited sites → Lent heads nexts mates k
      → ((h : ℕ) → h < 16384 → get_or heads h 0 ≡ 0) → Own buffer sites heads nexts mates k
  block_own sites heads nexts mates sited lent clear = record {
    sited = sited;
    long = B.long;
    lent = lent;
    clear = clear;
  }

  module _ (heads nexts mates : List ℕ) (number : ℕ) (K : Block buffer (6 * k) heads nexts mates number) where
    own_ran : Ran (face_from rows d) (6 * k) (6 * k) mates number
    own_ran = ran_same (held_face buffer) (face_from rows d) (6 * k) B.held (6 * k) mates number K.ran

    pub block_three : number ≡ 22 → Ran (face_from rows d) (6 * k) (6 * k + 6 * cells) mates 22
    block_three e = let ran = own_ran in ran_wide (face_from rows d) (6 * k) (6 * k) _ mates (omega arith) (rw e at ran)

    pub block_rest : number ≢ 22 → Rest rows d k buffer heads nexts mates number text at cells
    block_rest going =
        let long = B.long in
        record {
          chained = record {
            chains = K.chains going;
            fits = omega arith;
            held = λ p b. sym (B.held p b);
          };
          state = own_ran.goes going;
          stand = B.stand;
          eight = B.hexahedra.eight;
          number = B.number;
        }

-- k cells from the cell d on were read
pub taken_block : (rows : List (List ℕ)) (d k left : ℕ) (text old buffer : List ℕ) (r : ℕ) → Hexahedra rows → d + left ≡ length rows
    → k ≤ left → 8 * k ≤ length buffer → EightsRead text k (drop d rows) old buffer r → BlockAt rows d k buffer text r (left - k)
unfolding face_from
taken_block rows d k left text old buffer r H whole low long E = record {
  hexahedra = H;
  held = λ p b. sym (read_face rows d k buffer E.row p b);
  long = long;
  stand = read_left rows d text k old buffer r E;
  number = omega arith;
}

-- ---- 21

module _ (rows : List (List ℕ)) where
  -- no vertex stands twice in the first d cells
  abbrev pub OnceUpto : ℕ → Type 0
  OnceUpto d = (c : ℕ) → c < d → repeats (get_or rows c []) ≡ false

  pub twice_none : (d : ℕ) → length rows ≤ d → OnceUpto d → all_once rows ≡ true
  twice_none d l h = all_at (λ row. not (repeats row)) rows [] (λ c b. ap not (h c (omega arith)))

  module _ (d k : ℕ) (enough : d + k ≤ length rows) where
    abbrev part : List (List ℕ)
    part = take k (drop d rows)

    pub part_long : k ≡ length part
    part_long = simp (length-take, length-drop) (omega arith)

    part_at : (c : ℕ) → c < k → get_or part c [] ≡ get_or rows (d + c) []
    part_at c b = get_or-take k (drop d rows) c [] b ∙ get_or-drop d rows c []

    pub part_held : (text old buffer : List ℕ) (r : ℕ) → 8 * k ≤ length buffer → EightsRead text k (drop d rows) old buffer r
        → Held buffer part
    part_held text old buffer r long E =
        let n = part_long in
        record {
          long = omega arith;
          row = λ c b. E.row c (omega arith) ∙ sym (get_or-take k (drop d rows) c [] (omega arith));
        }

    pub twice_more : OnceUpto d → all_once part ≡ true → OnceUpto (d + k)
    twice_more h e c b = if_lt c d (h c) (λ l.
        let n = part_long in
        let same : d + (c - d) ≡ c = omega arith in
        let once = at_all (λ row. not (repeats row)) part [] (c - d) (omega arith) e in
        sym (ap repeats (part_at (c - d) (omega arith) ∙ ap (λ (x : ℕ). get_or rows x []) same)) ∙ not-true _ once)

    pub twice_here : all_once part ≡ false → all_once rows ≡ false
    twice_here e = test (all_once rows)
        (λ q. absurd (clash (all_at (λ row. not (repeats row)) part [] (λ c b.
        let n = part_long in
        ap (λ (row : List ℕ). not (repeats row)) (part_at c (omega arith))
        ∙ at_all (λ row. not (repeats row)) rows [] (d + c) (omega arith) q)) e)) (λ q. q)
