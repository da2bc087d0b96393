-- Rows that are kept in a buffer as they are read. One row, number by number: `kept_start`, `kept_more`. All of them, row by row:
-- `stand_start`, `stand_more`; and what they come to: `stand_keeps`.
use Prim.Native.Nat.{ℕ, ◌+◌, ◌*◌, ◌≤◌, ◌<◌}
use mathlib.Core.Path.{◌≡◌, refl, sym, ap, ◌∙◌}
use mathlib.Core.Logic.{◌≢◌}
use mathlib.Core.List.{List, [], ◌∷◌, ◌++◌}
use native.Mathlib.Omega.{arith}
use lib.ListN.{length, get_or, take, drop, set, length-append, length-set, length-drop, get_or-append}
use lib.Seq.{get_or-append_seam, get_or-set_same, get_or-set_other, get_or-take, get_or-drop, length-take-le, ext_get_or}
use Rattle.theorems.proofs.Lists.Scan.{if_eq, if_lt}
use Rattle.vtk_form.specs.Parts.{RoomOf, Kept, Keeps}

-- ---- one row

module _ (before : List ℕ) (base room : ℕ) where
  pub kept_start : Kept before before base room []
  kept_start = record { same = refl; put = λ j l m. absurd (omega arith); below = λ x l. refl; above = λ x l. refl }

  module _ (after now done : List ℕ) (v : ℕ) (fits : base + room ≤ length after) (k : Kept before after base room done)
      (in_room : length done < room → now ≡ set after (base + length done) v) (no_room : room ≤ length done → now ≡ after) where
    other : (x : ℕ) → x ≢ base + length done → get_or now x 0 ≡ get_or after x 0
    other x e = if_lt (length done) room
        (λ l. ap (λ (b : List ℕ). get_or b x 0) (in_room l) ∙ get_or-set_other after (base + length done) x v 0 e)
        (λ l. ap (λ (b : List ℕ). get_or b x 0) (no_room l))

    pub kept_more : Kept before now base room (done ++ (v ∷ []))
    kept_more = record {
      same = if_lt (length done) room
          (λ l. ap length (in_room l) ∙ length-set after (base + length done) v ∙ k.same)
          (λ l. ap length (no_room l) ∙ k.same);
      put = λ j l m.
          let long = length-append done (v ∷ []) in
          if_eq j (length done)
          (λ e. rw (e, in_room (omega arith), get_or-set_same after (base + length done) v 0 (omega arith), get_or-append_seam done v [] 0))
          (λ e. other (base + j) (λ q. e (omega arith)) ∙ k.put j l (omega (arith, e)) ∙ sym (get_or-append done (v ∷ []) 0 j (omega (arith, e))));
      below = λ x l. other x (λ q. absurd (omega arith)) ∙ k.below x l;
      above = λ x l. if_lt (length done) room
          (λ m. other x (λ q. absurd (omega arith)) ∙ k.above x l)
          (λ m. ap (λ (b : List ℕ). get_or b x 0) (no_room m) ∙ k.above x l);
    }

-- ---- several

-- as far as the buffer goes, the first numbers of each row stand in its eight words
abbrev pub Stand : List ℕ → List (List ℕ) → Type 0
Stand buffer rows = (d j : ℕ) → d < length rows → j < 8 → j < length (get_or rows d []) → 8 * d + 8 ≤ length buffer
    → get_or buffer (8 * d + j) 0 ≡ get_or (get_or rows d []) j 0

pub stand_start : (buffer : List ℕ) → Stand buffer []
stand_start buffer d j l = absurd (omega arith)

pub stand_more : (before after : List ℕ) (done : List (List ℕ)) (row : List ℕ) (base words : ℕ)
    → RoomOf (length done) (length before) base words → Kept before after base words row
    → Stand before done → Stand after (done ++ (row ∷ []))
stand_more before after done row base words r k s d j l m n fits =
    let long = length-append done (row ∷ []) in
    let same = k.same in
    if_eq d (length done)
    (λ e.
    let is : get_or (done ++ (row ∷ [])) d [] ≡ row = rw (e, get_or-append_seam done row [] []) in
    let (at, all) = r.eight (omega arith) in
    let put = k.put j (omega arith) (rw is at n) in
    rw (is, e, ← at) put)
    (λ e.
    let is : get_or (done ++ (row ∷ [])) d [] ≡ get_or done d [] = get_or-append done (row ∷ []) [] d (omega (arith, e)) in
    rw is (stays (omega (arith, e)) ∙ s d j (omega (arith, e)) m (rw is at n) (omega arith)))
  where
    stays : d < length done → get_or after (8 * d + j) 0 ≡ get_or before (8 * d + j) 0
    stays low = if_lt (length before) (8 * length done + 8)
        (λ over.
        let none = r.none over in
        if_lt (8 * d + j) base (k.below (8 * d + j)) (λ high. k.above (8 * d + j) (omega arith)))
        (λ within. let (at, _) = r.eight within in k.below (8 * d + j) (omega arith))

pub stand_keeps : (buffer : List ℕ) (rows : List (List ℕ)) → Stand buffer rows → Keeps buffer rows
stand_keeps buffer rows s c l eight fits =
    let long : length (take 8 (drop (8 * c) buffer)) ≡ 8 = length-take-le 8 (drop (8 * c) buffer) (simp length-drop (omega arith)) in
    ext_get_or 0 (take 8 (drop (8 * c) buffer)) (get_or rows c []) (omega arith) (λ j m.
    get_or-take 8 (drop (8 * c) buffer) j 0 (omega arith) ∙ get_or-drop (8 * c) buffer j 0 ∙ s c j l (omega arith) (omega arith) fits)
