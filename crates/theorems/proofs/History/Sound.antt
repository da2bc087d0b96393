-- Sound changes. `sound_undo`, `sound_redo`: those from a table to another of the same length are sound, back from the new
-- table and forward from the old one. `sound_changes`: sound changes change as many entries as they are.
use Prim.Native.Nat.{ℕ, suc, ◌≤◌, ◌<◌}
use mathlib.Core.Path.{◌≡◌, refl, sym, ap, ◌∙◌, subst₂}
use mathlib.Core.Logic.{◌⊎◌, inl, inr, ◌≢◌}
use mathlib.Core.Bool.{Bool, true, false, not, ◌&&◌}
use mathlib.Core.List.{List, [], ◌∷◌, ◌++◌, append_assoc, append-nil}
use native.Mathlib.Nat.{suc_inj}
use native.Mathlib.Omega.{arith}
use lib.ListN.{length, get_or, set, length-append, length-set}
use lib.Seq.{set_at, get_or_at, get_or-set_other}
use lib.Dec.{eqb, leb, ltb}
use borrow.Author.Tests.{eqb-true, eq-eqb, leb-true, le-leb, ltb-true, lt-ltb, not-true}
use Rattle.model.specs.Journal.{Change, changes_from, put_new, put_old, put, sound}
use Rattle.theorems.proofs.Lists.Scan.{bool_cases, if_eq, and_i, and_l, and_r}
use Rattle.theorems.proofs.History.Record.{changes_same, changes_other, eqb_comm, longer}

-- ---- what soundness says of the first change

-- the value that undo, or redo, replaces, and the one that it puts
abbrev pub replaced : Bool → Change → ℕ
replaced redo c = elim redo [ true ↦ c.old | false ↦ c.new ]

abbrev pub put_in : Bool → Change → ℕ
put_in redo c = elim redo [ true ↦ c.new | false ↦ c.old ]

pub record FirstSound (redo : Bool) (t : List ℕ) (e : ℕ) (c : Change) (cs : List Change) : Type 0 where
  pub rising : e ≤ c.entry
  pub within : c.entry < length t
  pub differs : eqb c.old c.new ≡ false
  pub held : get_or t c.entry 0 ≡ replaced redo c
  pub rest : sound redo t (suc c.entry) cs ≡ true

module _ (redo : Bool) (t : List ℕ) (e : ℕ) (c : Change) (cs : List Change) where
  pub first_sound : sound redo t e (c ∷ cs) ≡ true → FirstSound redo t e c cs
  unfolding sound
  first_sound h =
      let rising = leb e c.entry in
      let within = ltb c.entry (length t) in
      let differs = not (eqb c.old c.new) in
      let held = eqb (get_or t c.entry 0) (replaced redo c) in
      let four = and_l (rising && within && differs && held) _ h in
      let three = and_l (rising && within && differs) _ four in
      let two = and_l (rising && within) _ three in
      record {
        rising = leb-true _ _ (and_l rising within two);
        within = ltb-true _ _ (and_r rising within two);
        differs = not-true _ (and_r (rising && within) differs three);
        held = eqb-true _ _ (and_r (rising && within && differs) held four);
        rest = and_r (rising && within && differs && held) _ h;
      }

  pub sound_first : FirstSound redo t e c cs → sound redo t e (c ∷ cs) ≡ true
  unfolding sound
  sound_first f =
      let low = le-leb e c.entry f.rising in
      let high = lt-ltb c.entry (length t) f.within in
      and_i (and_i (and_i (and_i low high) (rw f.differs)) (eq-eqb _ _ f.held)) f.rest

-- ---- the changes are sound: back from the new table, and forward from the old one

sound_from : (xs ys before : List ℕ) (e a : ℕ) → length before ≡ e → a ≤ e → length xs ≡ length ys
    → sound false (before ++ ys) a (changes_from e xs ys) ≡ true
unfolding changes_from sound
sound_from [] [] before e a l h q = refl
sound_from [] (y ∷ ys) before e a l h q = absurd (omega arith)
sound_from (x ∷ xs) [] before e a l h q = absurd (omega arith)
sound_from (x ∷ xs) (y ∷ ys) before e a l h q =
    go (λ c k. sound_from xs ys (before ++ y ∷ []) (suc e) c (longer before y e l) k (suc_inj q)) (bool_cases (eqb x y))
  where
    change : Change
    change = record { entry = e; old = x; new = y }

    go : ((c : ℕ) → c ≤ suc e → sound false ((before ++ y ∷ []) ++ ys) c (changes_from (suc e) xs ys) ≡ true)
        → (eqb x y ≡ true) ⊎ (eqb x y ≡ false) → sound false (before ++ y ∷ ys) a (changes_from e (x ∷ xs) (y ∷ ys)) ≡ true
    go rest (inl p) = rw (changes_same e x y xs ys p) (simp append_assoc at (rest a (omega arith)))
    go rest (inr p) =
        rw (changes_other e x y xs ys p) (sound_first false (before ++ y ∷ ys) a change (changes_from (suc e) xs ys) (record {
          rising = h;
          within = rw length-append (omega arith);
          differs = p;
          held = get_or_at before y ys 0 e l;
          rest = simp append_assoc at (rest (suc e) (omega arith));
        }))

pub sound_undo : (t u : List ℕ) → length t ≡ length u → sound false u 0 (changes_from 0 t u) ≡ true
sound_undo t u h = sound_from t u [] 0 0 refl (omega arith) h

-- forward they are the changes back, old and new exchanged
sound_turned : (xs ys t : List ℕ) (e a : ℕ) → sound true t a (changes_from e xs ys) ≡ sound false t a (changes_from e ys xs)
unfolding changes_from sound
sound_turned [] [] t e a = refl
sound_turned [] (y ∷ ys) t e a = refl
sound_turned (x ∷ xs) [] t e a = refl
sound_turned (x ∷ xs) (y ∷ ys) t e a = go (sound_turned xs ys t (suc e)) (bool_cases (eqb x y))
  where
    go : ((c : ℕ) → sound true t c (changes_from (suc e) xs ys) ≡ sound false t c (changes_from (suc e) ys xs))
        → (eqb x y ≡ true) ⊎ (eqb x y ≡ false)
        → sound true t a (changes_from e (x ∷ xs) (y ∷ ys)) ≡ sound false t a (changes_from e (y ∷ ys) (x ∷ xs))
    go rest (inl p) = rw (changes_same e x y xs ys p, changes_same e y x ys xs (eqb_comm x y ∙ p)) (rest a)
    go rest (inr p) =
        let q = eqb_comm x y ∙ p in
        rw (changes_other e x y xs ys p, changes_other e y x ys xs q) (rw (p, q, rest (suc e)))

pub sound_redo : (t u : List ℕ) → length t ≡ length u → sound true t 0 (changes_from 0 t u) ≡ true
sound_redo t u h = sound_turned t u t 0 0 ∙ sound_undo u t (sym h)

-- ---- sound changes, put forward or back, change as many entries as they are

-- they are as sound from the next entry on, if they do not begin at this one
sound_later : (redo : Bool) (t : List ℕ) (e : ℕ) (c : Change) (cs : List Change) → e ≢ c.entry
    → sound redo t e (c ∷ cs) ≡ true → sound redo t (suc e) (c ∷ cs) ≡ true
sound_later redo t e c cs other h =
    let f = first_sound redo t e c cs h in
    let low = f.rising in
    sound_first redo t (suc e) c cs (record {
      rising = omega arith;
      within = f.within;
      differs = f.differs;
      held = f.held;
      rest = f.rest;
    })

-- an entry before them does not matter
sound_set : (redo : Bool) (t : List ℕ) (k v e : ℕ) (cs : List Change) → k < e → sound redo t e cs ≡ true
    → sound redo (set t k v) e cs ≡ true
unfolding sound
sound_set redo t k v e [] l h = refl
sound_set redo t k v e (c ∷ cs) l h =
    let f = first_sound redo t e c cs h in
    let low = f.rising in
    sound_first redo (set t k v) e c cs (record {
      rising = f.rising;
      within = rw length-set f.within;
      differs = f.differs;
      held = get_or-set_other t k c.entry v 0 (λ q. omega arith) ∙ f.held;
      rest = sound_set redo t k v (suc c.entry) cs (omega arith) f.rest;
    })

put_cons : (redo : Bool) (c : Change) (cs : List Change) (t : List ℕ)
    → put redo (c ∷ cs) t ≡ put redo cs (set t c.entry (put_in redo c))
unfolding put put_new put_old
put_cons true c cs t = refl
put_cons false c cs t = refl

replaced_other : (redo : Bool) (c : Change) → eqb c.old c.new ≡ false → eqb (replaced redo c) (put_in redo c) ≡ false
replaced_other true c h = h
replaced_other false c h = eqb_comm c.old c.new ∙ h

changes_none : (xs : List ℕ) (e : ℕ) → changes_from e xs xs ≡ []
unfolding changes_from
changes_none [] e = refl
changes_none (x ∷ xs) e = changes_same e x x xs xs (eq-eqb x x refl) ∙ changes_none xs (suc e)

-- what they make of the entries from e on
record PutFrom (redo : Bool) (xs before : List ℕ) (e : ℕ) (cs : List Change) : Type 0 where
  made : List ℕ
  is : put redo cs (before ++ xs) ≡ before ++ made
  changes : length (changes_from e xs made) ≡ length cs

put_none : (redo : Bool) (t : List ℕ) → put redo [] t ≡ t
unfolding put put_new put_old
put_none true t = refl
put_none false t = refl

put_at_end : (redo : Bool) (before : List ℕ) (e : ℕ) (cs : List Change) → length before ≡ e
    → sound redo (before ++ []) e cs ≡ true → PutFrom redo [] before e cs
unfolding changes_from
put_at_end redo before e [] l h = record { made = []; is = put_none redo _; changes = refl }
put_at_end redo before e (c ∷ cs) l h =
    let f = first_sound redo (before ++ []) e c cs h in
    let low = f.rising in
    let high = rw (append-nil before) at f.within in
    absurd (omega arith)

-- .. and of those behind the entry e, whatever that is
abbrev PutBehind : Bool → List ℕ → List ℕ → ℕ → Type 0
PutBehind redo xs before e = (v : ℕ) (cs : List Change) → sound redo ((before ++ v ∷ []) ++ xs) (suc e) cs ≡ true
    → PutFrom redo xs (before ++ v ∷ []) (suc e) cs

-- the entry x at e
module _ {redo : Bool} (x : ℕ) {xs before : List ℕ} {e : ℕ} (l : length before ≡ e) (rest : PutBehind redo xs before e) where
  -- it stays
  put_later : (c : Change) (cs : List Change) → e ≢ c.entry → sound redo (before ++ x ∷ xs) e (c ∷ cs) ≡ true
      → PutFrom redo (x ∷ xs) before e (c ∷ cs)
  put_later c cs other h =
      let r = rest x (c ∷ cs) (rw (append_assoc before (x ∷ []) xs) (sound_later redo (before ++ x ∷ xs) e c cs other h)) in
      record {
        made = x ∷ r.made;
        is = ap (put redo (c ∷ cs)) (sym (append_assoc before (x ∷ []) xs)) ∙ r.is ∙ append_assoc before (x ∷ []) r.made;
        changes = ap length (changes_same e x x xs r.made (eq-eqb x x refl)) ∙ r.changes;
      }

  -- it is the first to be changed
  put_here : (c : Change) (cs : List Change) → e ≡ c.entry → sound redo (before ++ x ∷ xs) e (c ∷ cs) ≡ true
      → PutFrom redo (x ∷ xs) before e (c ∷ cs)
  put_here c cs here h =
      let f = first_sound redo (before ++ x ∷ xs) e c cs h in
      let v = put_in redo c in
      let table = set_at before x xs v c.entry (l ∙ here) ∙ sym (append_assoc before (v ∷ []) xs) in
      let behind = sound_set redo (before ++ x ∷ xs) c.entry v (suc c.entry) cs (omega arith) f.rest in
      let r = rest v cs (subst₂ (λ t k. sound redo t (suc k) cs ≡ true) table (sym here) behind) in
      let old : x ≡ replaced redo c = sym (get_or_at before x xs 0 c.entry (l ∙ here)) ∙ f.held in
      let differ = ap (λ (y : ℕ). eqb y v) old ∙ replaced_other redo c f.differs in
      record {
        made = v ∷ r.made;
        is = put_cons redo c cs _ ∙ ap (put redo cs) table ∙ r.is ∙ append_assoc before (v ∷ []) r.made;
        changes = ap length (changes_other e x v xs r.made differ) ∙ ap suc r.changes;
      }

put_from : (redo : Bool) (xs before : List ℕ) (e : ℕ) (cs : List Change) → length before ≡ e
    → sound redo (before ++ xs) e cs ≡ true → PutFrom redo xs before e cs
put_from redo [] before e cs l h = put_at_end redo before e cs l h
put_from redo (x ∷ xs) before e cs l h = go (λ v ds. put_from redo xs (before ++ v ∷ []) (suc e) ds (longer before v e l)) cs h
  where
    go : PutBehind redo xs before e → (cs : List Change) → sound redo (before ++ x ∷ xs) e cs ≡ true
        → PutFrom redo (x ∷ xs) before e cs
    go rest [] h = record { made = x ∷ xs; is = put_none redo _; changes = ap length (changes_none (x ∷ xs) e) }
    go rest (c ∷ cs) h = if_eq e c.entry (λ q. put_here x l rest c cs q h) (λ q. put_later x l rest c cs q h)

pub sound_changes : (redo : Bool) (t : List ℕ) (cs : List Change) → sound redo t 0 cs ≡ true
    → length (changes_from 0 t (put redo cs t)) ≡ length cs
sound_changes redo t cs h =
    let r = put_from redo t [] 0 cs refl h in
    ap (λ (u : List ℕ). length (changes_from 0 t u)) r.is ∙ r.changes
