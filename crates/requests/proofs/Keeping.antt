-- What a call does not take stays, an op past the last name is check, and what the names that a match leaves over stand for.
use Prim.Native.Nat.{ℕ, zero, suc, ◌≤◌, ◌<◌}
use mathlib.Core.Path.{◌≡◌, refl, ap}
use mathlib.Core.Logic.{◌≢◌, ◌⊎◌, inl, inr, ⊎_elim}
use mathlib.Core.List.{List, []}
use native.Mathlib.Omega.{arith}
use Rattle.model.specs.Calls.{Outcome}
use Rattle.model.specs.Runs.{Call, keeping}
use Rattle.model.specs.Session.{calls, call_of}
use Rattle.answers.specs.Answers.{Answer, outcome}
use Rattle.requests.specs.declared.Op.{Op}
use Rattle.requests.specs.declared.Op.TheVariants.{Check, Orbit, Sheet, Add, Sew, Unsew, Remove, Split, Undo, Redo, Insert, SewList, Pick, ReadVtk}
use Rattle.requests.specs.Names.{Names}

module _ (r : Answer) (t m j : List ℕ) {o : Outcome} where
  pub keeps_both : outcome r t [] [] ≡ o → outcome r t m j ≡ keeping o m j
  unfolding keeping
  keeps_both e = ap (λ o. keeping o m j) e

  pub keeps_marks : outcome r t [] j ≡ o → outcome r t m j ≡ keeping o m o.journal
  unfolding keeping
  keeps_marks e = ap (λ o. keeping o m o.journal) e

  -- of a call that is lent marks and does not write them
  pub keeps_lent : outcome r t m j ≡ o → outcome r t m j ≡ keeping o m o.journal
  unfolding keeping
  keeps_lent e = ap (λ o. keeping o m o.journal) e

  pub keeps_journal : outcome r t m [] ≡ o → outcome r t m j ≡ keeping o o.marks j
  unfolding keeping
  keeps_journal e = ap (λ o. keeping o o.marks j) e

pub call_check : (p tag i d e : ℕ) → p ≢ 1 → p ≢ 2 → p ≢ 3 → p ≢ 4 → p ≢ 5 → p ≢ 6 → p ≢ 7 → p ≢ 8 → p ≢ 9
    → call_of p tag i d e ≡ Call.check
unfolding call_of calls
call_check zero tag i d e a b c f g h k l m = refl
call_check (suc zero) tag i d e a b c f g h k l m = absurd (a refl)
call_check (suc (suc zero)) tag i d e a b c f g h k l m = absurd (b refl)
call_check (suc (suc (suc zero))) tag i d e a b c f g h k l m = absurd (c refl)
call_check (suc (suc (suc (suc zero)))) tag i d e a b c f g h k l m = absurd (f refl)
call_check (suc (suc (suc (suc (suc zero))))) tag i d e a b c f g h k l m = absurd (g refl)
call_check (suc (suc (suc (suc (suc (suc zero)))))) tag i d e a b c f g h k l m = absurd (h refl)
call_check (suc (suc (suc (suc (suc (suc (suc zero))))))) tag i d e a b c f g h k l m = absurd (k refl)
call_check (suc (suc (suc (suc (suc (suc (suc (suc zero)))))))) tag i d e a b c f g h k l m = absurd (l refl)
call_check (suc (suc (suc (suc (suc (suc (suc (suc (suc zero))))))))) tag i d e a b c f g h k l m = absurd (m refl)
call_check (suc (suc (suc (suc (suc (suc (suc (suc (suc (suc p)))))))))) tag i d e a b c f g h k l m = refl

past_check : (p tag i d e : ℕ) → (p ≡ 0) ⊎ (10 ≤ p) → call_of p tag i d e ≡ Call.check
past_check p tag i d e (inl h) =
    call_check p tag i d e (omega arith) (omega arith) (omega arith) (omega arith) (omega arith) (omega arith) (omega arith) (omega arith) (omega arith)
past_check p tag i d e (inr h) =
    call_check p tag i d e (omega arith) (omega arith) (omega arith) (omega arith) (omega arith) (omega arith) (omega arith) (omega arith) (omega arith)

-- the names that are none of the session's but check
pub other_check : (p tag i d e : ℕ) (op : Op) → Names p op → op ≢ Orbit → op ≢ Sheet → op ≢ Add → op ≢ Sew → op ≢ Unsew → op ≢ Remove → op ≢ Split → op ≢ Undo → op ≢ Redo → call_of p tag i d e ≡ Call.check
other_check p tag i d e Check h a b f g j k l m o = past_check p tag i d e (⊎_elim inl (λ z. inr (omega arith)) h)
other_check p tag i d e Orbit h a b f g j k l m o = absurd (a refl)
other_check p tag i d e Sheet h a b f g j k l m o = absurd (b refl)
other_check p tag i d e Add h a b f g j k l m o = absurd (f refl)
other_check p tag i d e Sew h a b f g j k l m o = absurd (g refl)
other_check p tag i d e Unsew h a b f g j k l m o = absurd (j refl)
other_check p tag i d e Remove h a b f g j k l m o = absurd (k refl)
other_check p tag i d e Split h a b f g j k l m o = absurd (l refl)
other_check p tag i d e Undo h a b f g j k l m o = absurd (m refl)
other_check p tag i d e Redo h a b f g j k l m o = absurd (o refl)
other_check p tag i d e Insert h a b f g j k l m o = past_check p tag i d e (inr (omega arith))
other_check p tag i d e SewList h a b f g j k l m o = past_check p tag i d e (inr (omega arith))
other_check p tag i d e Pick h a b f g j k l m o = past_check p tag i d e (inr (omega arith))
other_check p tag i d e ReadVtk h a b f g j k l m o = past_check p tag i d e (inr (omega arith))

-- the names that are the session's
pub session_name : (p k : ℕ) (op : Op) → Names p op → op ≢ Insert → op ≢ SewList → op ≢ Pick → op ≢ ReadVtk → 10 ≤ k → k < 14 → p ≢ k
session_name p k Check h a b f g low high = ⊎_elim (λ z. omega arith) (λ z. omega arith) h
session_name p k Orbit h a b f g low high = omega arith
session_name p k Sheet h a b f g low high = omega arith
session_name p k Add h a b f g low high = omega arith
session_name p k Sew h a b f g low high = omega arith
session_name p k Unsew h a b f g low high = omega arith
session_name p k Remove h a b f g low high = omega arith
session_name p k Split h a b f g low high = omega arith
session_name p k Undo h a b f g low high = omega arith
session_name p k Redo h a b f g low high = omega arith
session_name p k Insert h a b f g low high = absurd (a refl)
session_name p k SewList h a b f g low high = absurd (b refl)
session_name p k Pick h a b f g low high = absurd (f refl)
session_name p k ReadVtk h a b f g low high = absurd (g refl)
