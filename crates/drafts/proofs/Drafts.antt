-- A record is written triple by triple: `draft_none` begins a draft, `draft_at` adds a triple, `draft_closed` gives the
-- journal with the record written; `written_read` reads its changes back.
use Prim.Native.Nat.{ℕ, zero, suc, ◌+◌, ◌*◌, ◌-◌, min, ◌≤◌, ◌<◌}
use mathlib.Core.Path.{◌≡◌, refl, sym, ap, ◌∙◌}
use mathlib.Core.List.{List, [], ◌∷◌, ◌++◌, append_assoc, append-nil}
use native.Mathlib.Omega.{arith}
use lib.ListN.{length, get_or, set, take, drop, length-append, length-set, length-take, length-drop, take-append-drop}
use lib.Seq.{sets, sets-eq, take_at, drop_at, drop-drop, set_at, take-suc, drop-cons, length-take-le, drop-set-lt}
use Rattle.model.specs.Journal.{Change, cursor, triples, record_of, record_length, written, read_changes, changes_at}
use Rattle.theorems.proofs.History.Record.{length_triples, length_record, read_triples}
use Rattle.drafts.specs.Drafts.{drafted}

triples_append : (cs ds : List Change) → triples (cs ++ ds) ≡ triples cs ++ triples ds
unfolding triples
triples_append [] ds = refl
triples_append (c ∷ cs) ds = ap (λ (r : List ℕ). c.entry ∷ c.old ∷ c.new ∷ r) (triples_append cs ds)

-- a draft of no changes
pub draft_none : (j : List ℕ) → drafted j [] ≡ j
unfolding drafted triples
draft_none j =
    let a = suc (suc (cursor j)) in
    let q : a + 3 * 0 ≡ a = omega arith in
    rw (q, append-nil (take a j)) (take-append-drop a j)

draft_cursor : (j : List ℕ) (cs : List Change) → zero < length j → cursor (drafted j cs) ≡ cursor j
unfolding cursor drafted
draft_cursor [] cs h = absurd (omega arith)
draft_cursor (x ∷ xs) cs h = refl

draft_long : (j : List ℕ) (cs : List Change) → length (drafted j cs)
    ≡ min (suc (suc (cursor j))) (length j) + 3 * length cs + (length j - (suc (suc (cursor j)) + 3 * length cs))
draft_long j cs = unfold drafted in simp (length-append, length_triples, length-take, length-drop)

-- where there is room behind a draft, there is as much in the journal that it was begun in
draft_room : (j : List ℕ) (cs : List Change) (m : ℕ) → 2 < m
    → cursor (drafted j cs) + (3 * length cs + m) ≤ length (drafted j cs)
    → (cursor (drafted j cs) ≡ cursor j) × (cursor j + (3 * length cs + m) ≤ length j)
draft_room j cs m some h =
    let l = draft_long j cs in
    let p : zero < length j = omega arith in
    let q = draft_cursor j cs p in
    (q, omega arith)

module _ (j : List ℕ) (cs : List Change) where
  abbrev front : List ℕ
  front = take (suc (suc (cursor j))) j ++ triples cs

  abbrev stop : ℕ
  stop = suc (suc (cursor j)) + 3 * length cs

  front_length : stop ≤ length j → length front ≡ stop
  front_length h =
      let l = length-take-le (suc (suc (cursor j))) j (omega arith) in
      let f = length_triples cs in
      rw length-append (omega arith)

  draft_length : stop ≤ length j → length (drafted j cs) ≡ length j
  unfolding drafted
  draft_length h = let f = front_length h in rw (length-append front, length-drop) (omega arith)

  -- where the record has room, its draft leaves the cursor and the length
  pub draft_keeps : cursor j + record_length (length cs) ≤ length j
      → (cursor (drafted j cs) ≡ cursor j) × (length (drafted j cs) ≡ length j)
  draft_keeps h = (draft_cursor j cs (omega arith), draft_length (omega arith))

  -- three stores behind the last triple
  added : (c : Change) → stop + 3 ≤ length j
      → sets (drafted j cs) stop (c.entry ∷ c.old ∷ c.new ∷ []) ≡ drafted j (cs ++ c ∷ [])
  unfolding drafted triples
  added c h =
      let l = draft_length (omega arith) in
      let f = front_length (omega arith) in
      let n = length-append cs (c ∷ []) in
      let q : suc (suc (cursor j)) + 3 * length (cs ++ c ∷ []) ≡ stop + 3 = omega arith in
      let vs = c.entry ∷ c.old ∷ c.new ∷ [] in
      sets-eq vs (drafted j cs) stop (omega arith)
      ∙ ap (λ (r : List ℕ). r ++ vs ++ drop (stop + 3) (drafted j cs)) (take_at front (drop stop j) stop f)
      ∙ ap (λ (r : List ℕ). front ++ vs ++ r)
      (sym (drop-drop 3 stop (drafted j cs)) ∙ ap (drop 3) (drop_at front (drop stop j) stop f) ∙ drop-drop 3 stop j)
      ∙ rw (triples_append cs (c ∷ []), q, append_assoc (take (suc (suc (cursor j))) j) (triples cs) vs)

  -- the three words around the triples
  draft_words : cursor j + record_length (length cs) ≤ length j
      → drafted j cs
      ≡ take (cursor j) j ++ (get_or j (cursor j) 0 ∷ get_or j (suc (cursor j)) 0 ∷ (triples cs ++ get_or j stop 0 ∷ drop (suc stop) j))
  unfolding drafted
  draft_words h =
      let c = cursor j in
      rw (take-suc j (suc c) 0 (omega arith), take-suc j c 0 (omega arith), drop-cons j stop 0 (omega arith)) (simp append_assoc)

  -- the two counts and the tag make the words of the record
  counted : (tag : ℕ) → cursor j + record_length (length cs) ≤ length j
      → set (set (set (drafted j cs) (cursor j) (length cs)) (cursor j + 1) tag) (cursor j + (3 * length cs + 2)) (length cs)
      ≡ take (cursor j) j ++ record_of tag cs ++ drop (cursor j + record_length (length cs)) j
  unfolding record_of
  counted tag h =
      let c = cursor j in
      let n = length cs in
      let x = get_or j (suc c) 0 in
      let y = get_or j stop 0 in
      let behind = drop (suc stop) j in
      let l = length-take-le c j (omega arith) in
      let f = length_triples cs in
      let a = length-append (take c j) (n ∷ []) in
      let b = length-append (take c j) (n ∷ tag ∷ triples cs) in
      let q : c + (3 * n + 3) ≡ suc stop = omega arith in
      ap (λ (r : List ℕ). set (set (set r c n) (c + 1) tag) (c + (3 * n + 2)) n) (draft_words h)
      ∙ ap (λ (r : List ℕ). set (set r (c + 1) tag) (c + (3 * n + 2)) n)
      (set_at (take c j) (get_or j c 0) (x ∷ (triples cs ++ y ∷ behind)) n c l
      ∙ sym (append_assoc (take c j) (n ∷ []) (x ∷ (triples cs ++ y ∷ behind))))
      ∙ ap (λ (r : List ℕ). set r (c + (3 * n + 2)) n)
      (set_at (take c j ++ n ∷ []) x (triples cs ++ y ∷ behind) tag (c + 1) (omega arith)
      ∙ append_assoc (take c j) (n ∷ []) (tag ∷ (triples cs ++ y ∷ behind))
      ∙ sym (append_assoc (take c j) (n ∷ tag ∷ triples cs) (y ∷ behind)))
      ∙ set_at (take c j ++ n ∷ tag ∷ triples cs) y behind n (c + (3 * n + 2)) (omega arith)
      ∙ rw q (simp append_assoc)

  -- a record that is written leaves the length, and gives its changes back
  pub written_length : (tag : ℕ) → cursor j + record_length (length cs) ≤ length j
      → length (written j (record_of tag cs)) ≡ length j
  unfolding written
  written_length tag h =
      let r = length_record tag cs in
      let l = length-take-le (cursor j) j (omega arith) in
      simp (length-set, length-append, length-drop) (omega arith)

  pub written_read : (tag : ℕ) → 2 ≤ cursor j → cursor j + record_length (length cs) ≤ length j
      → changes_at (written j (record_of tag cs)) (cursor j) (length cs) ≡ cs
  unfolding changes_at written record_of
  written_read tag low h =
      let c = cursor j in
      let n = length cs in
      let e = c + length (record_of tag cs) in
      let words = take c j ++ record_of tag cs ++ drop e j in
      let l = length-take-le c j (omega arith) in
      ap (read_changes n)
      (drop-set-lt (c + 2) (set words 0 e) 1 e (omega arith) ∙ drop-set-lt (c + 2) words 0 e (omega arith)
      ∙ sym (drop-drop 2 c words)
      ∙ ap (λ (r : List ℕ). drop 2 (drop c r)) (append_assoc (take c j) (record_of tag cs) (drop e j))
      ∙ ap (drop 2) (drop_at (take c j) (record_of tag cs ++ drop e j) c l)
      ∙ append_assoc (triples cs) (n ∷ []) (drop e j))
      ∙ read_triples cs _

-- ---- what the code stores

-- a triple at the word behind the last one
pub draft_at : (v j : List ℕ) (cs : List Change) (c : Change) (w : ℕ) → v ≡ drafted j cs → w ≡ cursor j + (3 * length cs + 2)
    → w + 4 ≤ length v → set (set (set v w c.entry) (w + 1) c.old) (w + 2) c.new ≡ drafted j (cs ++ c ∷ [])
draft_at v j cs c w draft at h =
    let l = draft_long j cs in
    let long = ap length draft in
    let x : w ≡ stop j cs = omega arith in
    let y : stop j cs + 1 ≡ suc (stop j cs) = omega arith in
    let z : stop j cs + 2 ≡ suc (suc (stop j cs)) = omega arith in
    rw (draft, x, y, z) (added j cs c (omega arith))

-- in a draft w of k changes

module _ (w j : List ℕ) (cs : List Change) (k : ℕ) (draft : w ≡ drafted j cs) (count : k ≡ length cs) where
  -- the two counts, the tag, the cursor and the end: the record is written
  pub draft_closed : (tag : ℕ) → cursor w + record_length k ≤ length w
      → let i = cursor w + 3 * k + 2 in
      set (set (set (set (set w (cursor w) k) (cursor w + 1) tag) i k) 0 (i + 1)) 1 (i + 1) ≡ written j (record_of tag cs)
  unfolding written
  draft_closed tag h =
      let r = draft_room j cs 3 (omega arith) (rw (draft, count) at h) in
      let x : cursor j + 3 * length cs + 2 ≡ cursor j + (3 * length cs + 2) = omega arith in
      let y : cursor j + (3 * length cs + 2) + 1 ≡ cursor j + (3 * length cs + 3) = omega arith in
      rw (draft, count, r.0, x, y, counted j cs tag r.1, length_record tag cs)
