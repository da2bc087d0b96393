-- The cells of a text behind those of a block, some at a time.
-- Main theorems: `read_face`, `eights_at`; `resting_none`, `resting_chunk`, `resting_more`, `resting_three`, `resting_all`.
use Prim.Native.Nat.{ℕ, ◌+◌, ◌*◌, ◌/◌, ◌%◌, ◌≤◌, ◌<◌}
use mathlib.Core.Path.{◌≡◌, sym, ap, ◌∙◌, subst}
use mathlib.Core.Logic.{◌≢◌}
use mathlib.Core.List.{List, []}
use native.Mathlib.Omega.{arith}
use lib.ListN.{length, get_or, take, drop, length-drop}
use lib.Seq.{get_or-drop, drop-drop}
use Rattle.model.specs.Faces.{round, face_darts}
use Rattle.model.specs.Meaning.Vtk.{RowsAt, face_at}
use Rattle.vtk_rows.specs.Rows.{EightsAt, EightsRead}
use Rattle.vtk_faces.specs.Faces.{held_row, held_face}
use Rattle.vtk_faces.specs.Judged.{State, Ran}
use Rattle.vtk_faces.specs.Rest.{Chunk}
use Rattle.vtk_faces.specs.Texts.{face_from, Rest}
use Rattle.vtk_faces.proofs.Blocks.{ran_wide, state_ran}

-- ---- rows read from the cell e on

module _ (rows : List (List ℕ)) (e : ℕ) where
  -- the faces of the cells that were read
  pub read_face : (some : ℕ) (buffer : List ℕ)
      → ((c : ℕ) → c < some → take 8 (drop (8 * c) buffer) ≡ get_or (drop e rows) c [])
      → (j : ℕ) → j < 6 * some → face_at rows (6 * e + j) ≡ held_face buffer j
  unfolding face_at held_face held_row
  read_face some buffer row j b =
      let cell : (6 * e + j) / 6 ≡ e + j / 6 = omega arith in
      let face : (6 * e + j) % 6 ≡ j % 6 = omega arith in
      rw (cell, face) (sym (ap (λ (r : List ℕ). round r (get_or face_darts (j % 6) 0))
      (row (j / 6) (omega arith) ∙ get_or-drop e rows (j / 6) [])))

  -- so many more can be read
  pub eights_at : (text : List ℕ) (p some : ℕ) → RowsAt text p (drop e rows)
      → ((c : ℕ) → c < length rows → length (get_or rows c []) ≡ 8) → e + some ≤ length rows → EightsAt text p some (drop e rows)
  eights_at text p some stand eight enough =
      let long = length-drop e rows in
      record {
        stand = stand;
        eight = λ c b. ap length (get_or-drop e rows c []) ∙ eight (e + c) (omega arith);
        enough = omega arith;
      }

  -- and the others stand behind them
  pub read_left : (text : List ℕ) (some : ℕ) (before buffer : List ℕ) (r : ℕ) → EightsRead text some (drop e rows) before buffer r
      → RowsAt text r (drop (e + some) rows)
  read_left text some before buffer r R = subst (RowsAt text r) (drop-drop some e rows) R.left

-- ---- behind a block

-- so many cells behind the block are judged
pub record Resting (rows : List (List ℕ)) (d k : ℕ) (text : List ℕ) (p done : ℕ) (mates : List ℕ) (other : ℕ) : Type 0 where
  pub state : State (face_from rows d) (6 * k) (6 * k + 6 * done) mates other
  pub stand : RowsAt text p (drop (d + k + done) rows)

module _ (rows : List (List ℕ)) (d k : ℕ) (buffer heads nexts mates₀ : List ℕ) (before : ℕ) (text : List ℕ) (at cells : ℕ)
    (R : Rest rows d k buffer heads nexts mates₀ before text at cells) where
  abbrev F : ℕ → List ℕ
  F = face_from rows d

  pub resting_none : Resting rows d k text at 0 mates₀ before
  resting_none =
      let none : 6 * k + 6 * 0 ≡ 6 * k = omega arith in
      let here : d + k + 0 ≡ d + k = omega arith in
      record { state = rw none R.state; stand = rw here R.stand }

  module _ (p done some : ℕ) (mates : List ℕ) (other : ℕ) (S : Resting rows d k text p done mates other) (enough : done + some ≤ cells) where
    pub resting_eights : EightsAt text p some (drop (d + k + done) rows)
    resting_eights =
        let number = R.number in
        eights_at rows (d + k + done) text p some S.stand R.eight (omega arith)

    module _ (old chunk : List ℕ) (r : ℕ) (E : EightsRead text some (drop (d + k + done) rows) old chunk r) where
      pub resting_chunk : Chunk F (6 * k) (6 * k + 6 * done) buffer heads nexts mates other chunk some
      unfolding face_from
      resting_chunk = record {
        chained = R.chained;
        state = S.state;
        these = λ j b.
            let same : 6 * d + (6 * k + 6 * done + j) ≡ 6 * (d + k + done) + j = omega arith in
            ap (face_at rows) same ∙ read_face rows (d + k + done) some chunk E.row j b;
      }

      module _ (after : List ℕ) (number : ℕ) (ran : Ran F (6 * k) (6 * k + 6 * done + 6 * some) after number) where
        pub resting_more : number ≢ 22 → Resting rows d k text r (done + some) after number
        resting_more going =
            let more : 6 * k + 6 * done + 6 * some ≡ 6 * k + 6 * (done + some) = omega arith in
            let next : d + k + done + some ≡ d + k + (done + some) = omega arith in
            let state = ran.goes going in
            let stand = read_left rows (d + k + done) text some old chunk r E in
            record { state = rw more at state; stand = rw next at stand }

        pub resting_three : number ≡ 22 → Ran F (6 * k) (6 * k + 6 * cells) after 22
        resting_three e = ran_wide F (6 * k) _ _ after (omega arith) (rw e at ran)

  pub resting_all : (p done : ℕ) (mates : List ℕ) (other : ℕ) → Resting rows d k text p done mates other → done ≡ cells
      → Ran F (6 * k) (6 * k + 6 * cells) mates other
  resting_all p done mates other S e =
      state_ran F (6 * k) (6 * k + 6 * cells) mates other (subst (λ (n : ℕ). State F (6 * k) (6 * k + 6 * n) mates other) e S.state)
