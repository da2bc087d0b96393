-- pick's contract leaves nothing open but the queue of an accepted call: `pick_determined`.
use Prim.Native.Nat.{ℕ}
use mathlib.Core.Path.{◌≡◌, sym, ◌∙◌, subst}
use mathlib.Core.List.{List, []}
use Rattle.std.specs.Prelude.{Result, Ok, Err, OnErr}
use Rattle.model.specs.Calls.{pick_call, pick_taken}
use Rattle.answers.specs.Answers.{Answer, Refused, outcome}
use Rattle.answers.proofs.Determined.{Same, determined}
use Rattle.call_pick.specs.declared.Picked.{Picked}
use Rattle.call_pick.specs.Given.{answer_of, taken_of}

-- what pick's contract says of a call that gives r, and leaves the marks s and the queue v
pub record Meets (n : ℕ) (t m w : List ℕ) (d : ℕ) (r : Result Picked Refused) (s v : List ℕ) : Type 0 where
  pub outcome : outcome (answer_of r) t s [] ≡ pick_call n t m w d
  pub taken : taken_of r ≡ pick_taken n t m w d
  pub refused : OnErr r (v ≡ w)

abbrev Refuses : Answer → Type 0
Refuses (Ok done) = ⊥
Refuses (Err refused) = Unit {0}

-- where one refuses, so does the other, and both leave the queue as it was lent
kept : (v v' w : List ℕ) (r r' : Result Picked Refused) → answer_of r ≡ answer_of r' → OnErr r (v ≡ w) → OnErr r' (v' ≡ w)
    → OnErr r (v ≡ v')
kept v v' w (Ok picked) r' same h h' = tt
kept v v' w (Err refused) (Err refused') same h h' = h ∙ sym h'
kept v v' w (Err refused) (Ok picked) same h h' = absurd (subst Refuses same tt)

pub pick_determined : {n : ℕ} {t m w : List ℕ} {d : ℕ} {s s' v v' : List ℕ} (r r' : Result Picked Refused) → Meets n t m w d r s v
    → Meets n t m w d r' s' v'
    → Same (answer_of r) t s [] (answer_of r') t s' [] × (taken_of r ≡ taken_of r') × OnErr r (v ≡ v')
pick_determined r r' P Q =
    let same = determined (answer_of r) (answer_of r') P.outcome Q.outcome in
    (same, P.taken ∙ sym Q.taken, kept _ _ _ r r' same.answer P.refused Q.refused)
