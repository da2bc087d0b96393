-- A contract leaves nothing open: `determined`. Every call's contract says that its outcome is one value of the model.
use Prim.Native.Nat.{ℕ, zero, suc}
use mathlib.Core.Path.{◌≡◌, refl, sym, ap, ◌∙◌}
use mathlib.Core.List.{List, [], ◌∷◌}
use lib.ListN.{get_or}
use Rattle.std.specs.Prelude.{Ok, Err}
use Rattle.model.specs.Calls.{Outcome}
use Rattle.refusals.specs.declared.Reason.{Reason}
use Rattle.refusals.specs.declared.Reason.TheVariants.{WrongDimension, WrongTableLength, WrongMarksLength, WrongQueueLength, WrongJournal, WrongListLength, LinkNotLive, LinkNotReturned, PairNotReturning, Link3NotFree, NotEmpty, WrongForm, OtherType, VertexRepeated, FaceShared, OtherOrder, OutOfRange, NotLive, NoBlockMap, NotDrawn, NotEnclosed, NotSewn, WrongTurns, NotConnected, SameSide, NotFree, Free, NoPairing, CrossesItself, TooFewSlots, NoRoom, NoRecord, BrokenRecord}
use Rattle.refusals.specs.Numbers.{number_of}
use Rattle.answers.specs.Answers.{Answer, number, place, count, outcome, refusal, accepted}

-- ---- an outcome tells its answer

-- the reasons by their numbers, from 1; no reason has 27 or 33 to 36
abbrev reasons : List Reason
reasons =
    WrongDimension ∷ WrongTableLength ∷ WrongMarksLength ∷ WrongJournal ∷ LinkNotLive ∷ OutOfRange ∷
    NotLive ∷ NoBlockMap ∷ SameSide ∷ NotFree ∷ Free ∷ NoPairing ∷
    CrossesItself ∷ TooFewSlots ∷ NoRoom ∷ NoRecord ∷ BrokenRecord ∷ NotEmpty ∷
    WrongForm ∷ OtherType ∷ VertexRepeated ∷ FaceShared ∷ OtherOrder ∷ LinkNotReturned ∷
    PairNotReturning ∷ Link3NotFree ∷ WrongDimension ∷ NotDrawn ∷ NotEnclosed ∷ NotSewn ∷
    WrongTurns ∷ NotConnected ∷ WrongDimension ∷ WrongDimension ∷ WrongDimension ∷ WrongDimension ∷
    WrongQueueLength ∷ WrongListLength ∷ []

-- the answer with a number, place and count
abbrev answer_of : ℕ → ℕ → ℕ → Answer
answer_of zero p k = accepted p k
answer_of (suc z) p k = refusal (get_or reasons z WrongDimension) p k

answer_refusal : (why : Reason) (p k : ℕ) → answer_of (number_of why) p k ≡ refusal why p k
answer_refusal WrongDimension p k = refl
answer_refusal WrongTableLength p k = refl
answer_refusal WrongMarksLength p k = refl
answer_refusal WrongQueueLength p k = refl
answer_refusal WrongJournal p k = refl
answer_refusal WrongListLength p k = refl
answer_refusal LinkNotLive p k = refl
answer_refusal LinkNotReturned p k = refl
answer_refusal PairNotReturning p k = refl
answer_refusal Link3NotFree p k = refl
answer_refusal NotEmpty p k = refl
answer_refusal WrongForm p k = refl
answer_refusal OtherType p k = refl
answer_refusal VertexRepeated p k = refl
answer_refusal FaceShared p k = refl
answer_refusal OtherOrder p k = refl
answer_refusal OutOfRange p k = refl
answer_refusal NotLive p k = refl
answer_refusal NoBlockMap p k = refl
answer_refusal NotDrawn p k = refl
answer_refusal NotEnclosed p k = refl
answer_refusal NotSewn p k = refl
answer_refusal WrongTurns p k = refl
answer_refusal NotConnected p k = refl
answer_refusal SameSide p k = refl
answer_refusal NotFree p k = refl
answer_refusal Free p k = refl
answer_refusal NoPairing p k = refl
answer_refusal CrossesItself p k = refl
answer_refusal TooFewSlots p k = refl
answer_refusal NoRoom p k = refl
answer_refusal NoRecord p k = refl
answer_refusal BrokenRecord p k = refl

answer_back : (r : Answer) → answer_of (number r) (place r) (count r) ≡ r
answer_back (Ok done) = refl
answer_back (Err refused) = answer_refusal refused.reason refused.place refused.count

-- ---- two ways in which a call may end are the same

pub record Same (r : Answer) (t m j : List ℕ) (r' : Answer) (t' m' j' : List ℕ) : Type 0 where
  pub answer : r ≡ r'
  pub number : number r ≡ number r'
  pub place : place r ≡ place r'
  pub count : count r ≡ count r'
  pub table : t ≡ t'
  pub marks : m ≡ m'
  pub journal : j ≡ j'

-- "two outcomes meeting it are equal": o is what the model gives for the call's input
pub determined : {o : Outcome} {t m j t' m' j' : List ℕ} (r r' : Answer)
    → outcome r t m j ≡ o → outcome r' t' m' j' ≡ o → Same r t m j r' t' m' j'
determined r r' one other =
    let same = one ∙ sym other in
    record {
      answer = sym (answer_back r) ∙ ap (λ (x : Outcome). answer_of x.number x.place x.count) same ∙ answer_back r';
      number = ap (λ (x : Outcome). x.number) same;
      place = ap (λ (x : Outcome). x.place) same;
      count = ap (λ (x : Outcome). x.count) same;
      table = ap (λ (x : Outcome). x.table) same;
      marks = ap (λ (x : Outcome). x.marks) same;
      journal = ap (λ (x : Outcome). x.journal) same;
    }
