use Prim.Native.Nat.{ℕ, ◌+◌, ◌≤◌, ◌<◌}
use mathlib.Core.Path.{◌≡◌, sym, ◌∙◌, subst}
use mathlib.Core.List.{List}
use native.Mathlib.Omega.{arith}
use lib.ListN.{get_or}
use Rattle.model.specs.Table.{slots}
use Rattle.model.specs.Meaning.Sheets.{BlockDart}
use Rattle.theorems.proofs.Lists.Scan.{if_lt}
use Rattle.theorems.proofs.Layers.Sheet.{sheet_live}
use Rattle.picks.specs.Enter.{Dart}
use Rattle.picks.proofs.Darts.{dart_of, dart_low, dart_few, dart_there}
use Rattle.picks.proofs.Taking.{Taking, Meeting, meeting_first, meeting_next, met_sheet, met_length, met_enters, met_new, met_old}
use Rattle.picks.proofs.Taking.{tail_few, word_dart, taken_marks, taken_size, taken_queue}
use Rattle.picks.proofs.flood.Goals as goal
use Rattle.picks.proofs.flood.Goals.{then-marks-y-eq0, else-marks-y-eq0}
use Rattle.picks.proofs.flood.Goals.{At-loop-marks, Else-taken-tail, Joined-marks-y-eq0}

pub loop-marks-init : goal.loop-marks-init
loop-marks-init c =
    (rw c.requires.1 (meeting_first c.requires.0 _ c.requires.2), omega arith)

abbrev seed : (c : At-loop-marks) → BlockDart c.args.n c.args.table.now c.args.d
seed c = c.requires.0

met : (c : At-loop-marks) → Dart c.args.table.now c.loop-marks.y
met c = dart_of (record { table = (seed c).table; lives = sheet_live (seed c) _ (met_sheet (seed c) c.loop-marks.invariant.0) })

pub overflow_cast-y : goal.overflow_cast-y
overflow_cast-y c = let low = dart_few (met c) in omega arith

pub bounds-marks-y : goal.bounds-marks-y
bounds-marks-y c =
    let low = dart_low (met (goal.at.bounds-marks-y c).At-loop-marks) in
    let (long, _) = met_length (seed (goal.at.bounds-marks-y c).At-loop-marks) c.loop-marks.invariant.0 in
    omega arith

pub enter_cell-tail-requires : goal.enter_cell-tail-requires
enter_cell-tail-requires c =
    met_enters (seed (goal.at.enter_cell-tail-requires c).At-loop-marks) c.loop-marks.invariant.0 c.if-marks-y-eq0.true

same_taking : {n : ℕ} {t : List ℕ} {d : ℕ} {m m' w w' : List ℕ} {taken tail tail' : ℕ} → m ≡ m' → w ≡ w' → tail ≡ tail'
    → Taking n t d m' w' taken tail' × (get_or m' d 0 ≡ 1) → Taking n t d m w taken tail × (get_or m d 0 ≡ 1)
same_taking marks queue end P = rw (marks, queue, end) P

joined : (c : Joined-marks-y-eq0) →
    let a = c.args in
    Taking a.n a.table.now a.d c.if-marks-y-eq0.marks c.if-marks-y-eq0.queue c.loop-marks.taken c.if-marks-y-eq0.tail
    × (get_or c.if-marks-y-eq0.marks a.d 0 ≡ 1)
joined c =
    let D = seed (goal.at.Joined-marks-y-eq0 c).At-loop-marks in
    let M = c.loop-marks.invariant.0 in
    elim c.if-marks-y-eq0.branch [
      | then-marks-y-eq0 w ↦
          let (is, Q) = w.enter_cell-tail.ensures in
          same_taking w.marks-is w.queue-is (w.tail-is ∙ is) (met_new D M w.if-marks-y-eq0.true Q)
      | else-marks-y-eq0 w ↦ same_taking w.marks-is w.queue-is w.tail-is (met_old D M w.if-marks-y-eq0.false)
    ]

-- the words are slots, as many as the table has
few : (c : Joined-marks-y-eq0) → (c.if-marks-y-eq0.tail ≤ slots c.args.table.now) × (c.if-marks-y-eq0.tail ≤ 65536)
few c =
    let most = tail_few (seed (goal.at.Joined-marks-y-eq0 c).At-loop-marks) (joined c).0 in
    let slots = (seed (goal.at.Joined-marks-y-eq0 c).At-loop-marks).table.few in
    (most, omega arith)

-- ---- all are taken off
pub overflow_cast-result : goal.overflow_cast-result
overflow_cast-result c = let (_, most) = few (goal.at.overflow_cast-result c).Joined-marks-y-eq0 in omega arith

pub overflow_cast-result-then-taken-tail : goal.overflow_cast-result-then-taken-tail
overflow_cast-result-then-taken-tail c = let (_, most) = few (goal.at.overflow_cast-result-then-taken-tail c).Joined-marks-y-eq0 in let low = (joined (goal.at.overflow_cast-result-then-taken-tail c).Joined-marks-y-eq0).0.low in omega arith

pub returns-then-taken-tail : goal.returns-then-taken-tail
returns-then-taken-tail c =
    let D = seed (goal.at.returns-then-taken-tail c).At-loop-marks in
    let (P, begun) = joined (goal.at.returns-then-taken-tail c).Joined-marks-y-eq0 in
    let all = c.if-taken-tail.true in
    let end : c.if-marks-y-eq0.tail ≤ c.loop-marks.taken = omega arith in
    let size = taken_size D P begun end in
    record { marks_after = (taken_marks D P begun end, taken_queue D P begun end); entered_value = (size, all ∙ size) }

-- ---- the next is taken off
left : (c : Else-taken-tail) → c.loop-marks.taken < c.if-marks-y-eq0.tail
left c = let low = (joined (goal.at.Else-taken-tail c).Joined-marks-y-eq0).0.low in let other = c.if-taken-tail.false in if_lt c.loop-marks.taken c.if-marks-y-eq0.tail (λ h. h) (λ h. absurd (other (same low h)))
  where
    same : {a b : ℕ} → a ≤ b → b ≤ a → a ≡ b
    same h k = omega arith

pub offset_bounds-queue-taken : goal.offset_bounds-queue-taken
offset_bounds-queue-taken c = let (_, most) = few (goal.at.offset_bounds-queue-taken c).Joined-marks-y-eq0 in let some = left c in omega arith

pub bounds-queue-taken : goal.bounds-queue-taken
bounds-queue-taken c =
    let (most, _) = few (goal.at.bounds-queue-taken c).Joined-marks-y-eq0 in
    let words = (joined (goal.at.bounds-queue-taken c).Joined-marks-y-eq0).0.words in
    let some = left (goal.at.bounds-queue-taken c).Else-taken-tail in
    omega arith

pub overflow_add-taken : goal.overflow_add-taken
overflow_add-taken c = let (_, most) = few (goal.at.overflow_add-taken c).Joined-marks-y-eq0 in let some = left (goal.at.overflow_add-taken c).Else-taken-tail in omega arith

pub link_in-y-requires : goal.link_in-y-requires
link_in-y-requires c =
    let D = word_dart (seed (goal.at.link_in-y-requires c).At-loop-marks) (joined (goal.at.link_in-y-requires c).Joined-marks-y-eq0).0 _ (left (goal.at.link_in-y-requires c).Else-taken-tail) in
    let three = D.table.dim.1 in
    dart_there (dart_of D) _ (omega arith)

pub loop-marks-smaller : goal.loop-marks-smaller
loop-marks-smaller c =
    let (most, _) = few (goal.at.loop-marks-smaller c).Joined-marks-y-eq0 in
    let some = left (goal.at.loop-marks-smaller c).Else-taken-tail in
    omega arith

pub loop-marks-preserved : goal.loop-marks-preserved
loop-marks-preserved c =
    let a = c.args in
    let (P, begun) = joined (goal.at.loop-marks-preserved c).Joined-marks-y-eq0 in
    let (most, _) = few (goal.at.loop-marks-preserved c).Joined-marks-y-eq0 in
    let some = left (goal.at.loop-marks-preserved c).Else-taken-tail in
    let next = meeting_next (seed (goal.at.loop-marks-preserved c).At-loop-marks) P begun some in (
      subst (λ (y : ℕ). Meeting a.n a.table.now a.d c.if-marks-y-eq0.marks c.if-marks-y-eq0.queue (c.loop-marks.taken + 1) c.if-marks-y-eq0.tail y)
          (sym c.link_in-y.ensures) next,
      omega arith,
    )
