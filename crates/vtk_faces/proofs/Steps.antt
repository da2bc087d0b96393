-- The faces of the buffer, one after the other.
-- Main theorems: `own_gone`; `own_none`, `own_met`.
use Prim.Native.Nat.{ℕ, ◌+◌, ◌*◌, ◌-◌, ◌/◌, ◌%◌, ◌≤◌, ◌<◌}
use mathlib.Core.Path.{◌≡◌, refl, sym, ap, ◌∙◌, subst}
use mathlib.Core.Logic.{inl, ◌≢◌}
use mathlib.Core.Bool.{Bool, true}
use mathlib.Core.List.{List}
use native.Mathlib.Omega.{arith}
use lib.ListN.{length, get_or, set, length-set}
use lib.Seq.{get_or-set_same, get_or-set_other}
use Rattle.model.specs.Faces.{round, face_darts, same_order}
use Rattle.std.specs.Prelude.{Option, Some, None, is_some, IfSome}
use Rattle.std.specs.Option.{unwrap_or}
use Rattle.theorems.proofs.Lists.Scan.{test, clash, if_eq}
use Rattle.vtk_faces.specs.Faces.{held_row, held_face}
use Rattle.vtk_faces.specs.Walks.{face_walk, walk_at}
use Rattle.vtk_faces.specs.Turns.{turn_back, Leads, TurnOf, held_round, Turned}
use Rattle.vtk_faces.specs.Hashes.{hash_of}
use Rattle.vtk_faces.specs.Chains.{Found}
use Rattle.vtk_faces.specs.Judged.{order_number, Met, Going, Gone}
use Rattle.vtk_faces.proofs.Walks.{first_low}
use Rattle.vtk_faces.proofs.Hashes.{hash_low}
use Rattle.vtk_faces.proofs.Chains.{chains_more}
use Rattle.vtk_faces.proofs.Judging.{met_none, steps}

-- what is read from the j-th dart of the face at the position p
held_walk : (buffer : List ℕ) (p j : ℕ) → j < 8
    → held_round buffer (8 * p + j) ≡ round (held_row buffer (p / 6)) (face_walk j (get_or face_darts (p % 6) 0))
unfolding held_round walk_at
held_walk buffer p j low =
    let cell : (8 * p + j) / 48 ≡ p / 6 = omega arith in
    let face : (8 * p + j) % 48 / 8 ≡ p % 6 = omega arith in
    let step : (8 * p + j) % 48 % 8 ≡ j = omega arith in
    rw (cell, face, step)

-- two faces of which the one is turned against the other
module _ (buffer : List ℕ) (p q t : ℕ) (T : Leads (held_face buffer p) (held_face buffer q) t) where
  turned_on : held_face buffer q ≡ held_round buffer (8 * p + t)
  unfolding held_face
  turned_on = T.on (held_row buffer (p / 6)) (get_or face_darts (p % 6) 0) (first_low (p % 6) (omega arith)) refl
      ∙ sym (held_walk buffer p t T.few)

  turned_back : turn_back t < 8 → held_face buffer p ≡ held_round buffer (8 * q + turn_back t)
  unfolding held_face
  turned_back b = T.back (held_row buffer (q / 6)) (get_or face_darts (q % 6) 0) (first_low (q % 6) (omega arith)) refl
      ∙ sym (held_walk buffer q (turn_back t) b)

module _ (rows sites heads nexts mates : List ℕ) (i : ℕ) (G : Going rows sites heads nexts mates i) where
  abbrev F : ℕ → List ℕ
  F = held_face rows

  -- the entry that is found is one
  pub own_entry : (e : ℕ) → Found F i (F i) e → (e < length mates) × (0 < e → 8 * ((e - 1) / 6) + 8 ≤ length rows)
  own_entry e found =
      let low = found.low in
      let fits = G.fits in
      let room = G.mates_room in
      (omega arith, λ on. omega arith)

  -- F i is turned by t against the face of the entry e, and that by b against F i, where the two agree
  module _ (mid : List ℕ) (h e t b number : ℕ) (agree : Bool) (hash : h ≡ hash_of (F i)) (found : Found F i (F i) e)
      (none : e ≡ 0 → t ≡ 0) (order : 0 < e → agree ≡ same_order (F (e - 1)) (F i)) (low_turn : t < 8)
      (turn : 0 < e → agree ≡ true → Leads (F (e - 1)) (F i) t) (is : b ≡ turn_back t) (few : b < 8)
      (met : Met e agree (8 * (i + 1) + b) mates mid number) where
    abbrev after : List ℕ
    after = set mid (i + 1) (8 * e + t)

    room : i + 1 < length mid
    room = let room = G.mates_room in let same = met.long in omega arith

    word_new : get_or after (i + 1) 0 ≡ 8 * e + t
    word_new = get_or-set_same mid (i + 1) _ 0 room

    word_old : (p : ℕ) → p < i → get_or after (p + 1) 0 ≡ get_or mid (p + 1) 0
    word_old p low = get_or-set_other mid (i + 1) (p + 1) _ 0 (λ z. absurd (omega arith))

    -- where the face of the entry has its first mate
    module _ (on : 0 < e) (fine : number ≡ 0) where
      free : get_or mates e 0 ≡ 0
      free = if_eq (get_or mates e 0) 0 (λ z. z) (λ d. absurd (let n = met.third on (omega arith) in omega arith))

      agreed : agree ≡ true
      agreed = test agree (λ q. q) (λ q. absurd (let n = (met.pair on free).1 ∙ ap order_number q in omega arith))

      leads : Leads (F (e - 1)) (F i) t
      leads = turn on agreed

      mid_entry : get_or mid e 0 ≡ 8 * (i + 1) + b
      mid_entry =
          let low = found.low in
          let room = G.mates_room in
          ap (λ (l : List ℕ). get_or l e 0) (met.pair on free).0 ∙ get_or-set_same mates e _ 0 (omega arith)

      mid_other : (p : ℕ) → p + 1 ≢ e → get_or mid (p + 1) 0 ≡ get_or mates (p + 1) 0
      mid_other p d = ap (λ (l : List ℕ). get_or l (p + 1) 0) (met.pair on free).0 ∙ get_or-set_other mates e (p + 1) _ 0 d

    own_turned : number ≡ 0 → Turned rows i mates → Turned rows (i + 1) after
    own_turned fine before p x low word = if_eq p i new (λ d. old p x (omega arith) word)
      where
        new : p ≡ i → F p ≡ held_round rows x
        new z =
            let at : get_or after (i + 1) 0 ≡ x + 8 = rw z at word in
            let told = word_new in
            if_eq e 0 (λ q. absurd (let m = none q in omega arith)) (λ q.
            let on : 0 < e = omega arith in
            let place : 8 * (e - 1) + t ≡ x = omega arith in
            rw z (turned_on rows (e - 1) i t (leads on fine) ∙ ap (held_round rows) place))

        old : (p x : ℕ) → p < i → get_or after (p + 1) 0 ≡ x + 8 → F p ≡ held_round rows x
        old p x low word = if_eq e 0
            (λ q. before p x low (sym (word_old p low ∙ ap (λ (l : List ℕ). get_or l (p + 1) 0) (met.alone q).1) ∙ word))
            (λ q.
            let on : 0 < e = omega arith in
            if_eq (p + 1) e
            (λ r.
            let told : get_or mid e 0 ≡ x + 8 = ap (λ (k : ℕ). get_or mid k 0) (sym r) ∙ sym (word_old p low) ∙ word in
            let mark = mid_entry on fine in
            let place : 8 * i + turn_back t ≡ x = omega arith in
            let entry : e - 1 ≡ p = omega arith in
            ap F (sym entry) ∙ turned_back rows (e - 1) i t (leads on fine) (omega arith) ∙ ap (held_round rows) place)
            (λ r. before p x low (sym (word_old p low ∙ mid_other on fine p r) ∙ word)))

    pub own_gone : Gone rows mates (set heads h (i + 1)) (set nexts (i + 1) (get_or heads h 0)) after i number
    own_gone =
        let long = length-set mid (i + 1) (8 * e + t) in
        let inside = room in
        record {
          chains = chains_more F i h heads nexts G.chains hash (rw hash (hash_low (F i))) G.nexts_room;
          turned = own_turned;
          stepped = steps F i i (i + 1) mates mid after G.judged (omega arith) (omega arith) (λ _. refl)
              (omega arith) e (8 * (i + 1) + b) number found agree met order (omega arith) (inl (omega arith))
              word_old (λ _. (λ z. word_new ∙ omega (arith, none z), omega (arith, word_new)));
        }

  -- F i meets none
  pub own_none : (h : ℕ) → h ≡ hash_of (F i) → Found F i (F i) 0
      → Gone rows mates (set heads h (i + 1)) (set nexts (i + 1) (get_or heads h 0)) (set mates (i + 1) 0) i 0
  unfolding turn_back
  own_none h hash found = own_gone mates h 0 0 0 0 true hash found (λ _. refl) (λ on. absurd (omega arith)) (omega arith)
      (λ on. absurd (omega arith)) refl (omega arith) (met_none true (8 * (i + 1) + 0) mates)

  -- F i meets the face at the position p, against which it is turned so
  module _ (p : ℕ) (seen : List ℕ) (is : seen ≡ F p) (turn : Option ℕ) (T : TurnOf seen (F i) turn) where
    pub turn_low : unwrap_or turn 0 < 8
    turn_low = by turn T.leads
      where
        by : (o : Option ℕ) → IfSome o (Leads seen (F i)) → unwrap_or o 0 < 8
        by None _ = omega arith
        by (Some t) l = l.few

    leads_at : is_some turn ≡ true → Leads (F p) (F i) (unwrap_or turn 0)
    leads_at some = subst (λ (s : List ℕ). Leads s (F i) (unwrap_or turn 0)) is (by turn T.leads some)
      where
        by : (o : Option ℕ) → IfSome o (Leads seen (F i)) → is_some o ≡ true → Leads seen (F i) (unwrap_or o 0)
        by None _ e = absurd (clash e refl)
        by (Some t) l e = l

    pub own_met : (mid : List ℕ) (h b number : ℕ) → h ≡ hash_of (F i) → Found F i (F i) (p + 1) → b ≡ turn_back (unwrap_or turn 0) → b < 8
        → Met (p + 1) (is_some turn) (8 * (i + 1) + b) mates mid number
        → Gone rows mates (set heads h (i + 1)) (set nexts (i + 1) (get_or heads h 0)) (set mid (i + 1) (8 * (p + 1) + unwrap_or turn 0)) i number
    own_met mid h b number hash found back few met =
        let same : p + 1 - 1 ≡ p = omega arith in
        own_gone mid h (p + 1) (unwrap_or turn 0) b number (is_some turn) hash found (λ z. absurd (omega arith))
        (λ _. rw same (sym T.order ∙ ap (λ (s : List ℕ). same_order s (F i)) is)) turn_low
        (λ _ some. rw same (leads_at some)) back few met
