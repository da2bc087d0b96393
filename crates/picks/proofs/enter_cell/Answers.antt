-- `picks::enter_cell` meets its contract: the first four places, the next four, and what link 2 leads to from these.
use Prim.Native.Nat.{ℕ, ◌+◌, ◌≤◌}
use mathlib.Core.Path.{◌≡◌, sym, ap, ◌∙◌}
use mathlib.Core.List.{List}
use native.Mathlib.Omega.{arith}
use lib.ListN.{length}
use Rattle.model.specs.Table.{link}
use Rattle.model.specs.Meaning.Places.{place}
use Rattle.model.specs.Meaning.Sheets.{half}
use Rattle.theorems.proofs.Lists.Scan.{if_eq}
use Rattle.sheets.proofs.Halves.{half_solid, half_flat}
use Rattle.picks.specs.Enter.{Dart, across, side_at, Entered}
use Rattle.picks.proofs.Darts.{dart_of, dart_there, dart_next, dart_across}
use Rattle.picks.proofs.Entering.{entered_as, entered_more}
use Rattle.picks.proofs.Places.{place_dart, first_side, far_side, beside_places}
use Rattle.picks.proofs.enter_cell.Goals as goal
use Rattle.picks.proofs.enter_cell.Goals.{After-enter_side, After-enter_side-2, After-link_in-far, Else-n-eq2}

room : (n a l : ℕ) → a + half n ≤ l → a + 4 ≤ l
room n a l h = if_eq n 3 (λ e. let is = half_solid n e in omega arith) (λ e. let is = half_flat n e in omega arith)

pub enter_side-requires : goal.enter_side-requires
enter_side-requires c =
    let P = c.requires in
    (dart_of P.dart, P.long, room _ _ _ P.room)

four : (c : After-enter_side) →
    let a = c.args in
    Entered a.marks.now a.queue.now a.at 4 (place a.n a.table.now a.g) c.enter_side.new.marks c.enter_side.new.queue
four c = entered_as c.enter_side.ensures (first_side c.requires.dart)

pub returns-then-n-eq2 : goal.returns-then-n-eq2
returns-then-n-eq2 c =
    let flat = half_flat c.args.n (λ three. absurd (omega (arith, c.if-n-eq2.true, three))) in
    (ap (λ (k : ℕ). c.args.at + k) (sym flat), rw flat (four (goal.at.returns-then-n-eq2 c).After-enter_side))

solid : (c : Else-n-eq2) → c.args.n ≡ 3
solid c = let dim = c.requires.dart.table.dim in omega (arith, c.if-n-eq2.false)

abbrev table : Else-n-eq2 → List ℕ
table c = c.args.table.now

dart : (c : Else-n-eq2) → Dart (table c) c.args.g
dart c = dart_of c.requires.dart

pub link_in-y-requires : goal.link_in-y-requires
link_in-y-requires c = dart_there (dart c) 2 (omega arith)

pub across-z-requires : goal.across-z-requires
across-z-requires c = rw c.link_in-y.ensures (dart_next (dart (goal.at.across-z-requires c).Else-n-eq2) 2 (omega arith))

pub link_in-far-requires : goal.link_in-far-requires
link_in-far-requires c =
    rw (c.across-z.ensures, c.link_in-y.ensures)
    (dart_there (dart_across (dart_next (dart (goal.at.link_in-far-requires c).Else-n-eq2) 2 (omega arith))) 2 (omega arith))

far_is : (c : After-link_in-far) →
    let t = table (goal.at.After-link_in-far c).Else-n-eq2 in
    c.link_in-far.result ≡ link t 2 (across t (link t 2 c.args.g))
far_is c =
    let t = table (goal.at.After-link_in-far c).Else-n-eq2 in
    c.link_in-far.ensures ∙ ap (link t 2) (c.across-z.ensures ∙ ap (across t) c.link_in-y.ensures)

-- the words and the marks are as many as at first
enough : (c : Else-n-eq2) → c.args.at + 16 ≤ length c.enter_side.new.queue
enough c =
    let words = (four (goal.at.Else-n-eq2 c).After-enter_side).words in
    let P = c.requires in
    let is = half_solid c.args.n (solid c) in
    let room = P.room in
    omega arith

pub enter_side-requires-2 : goal.enter_side-requires-2
enter_side-requires-2 c =
    let room = enough (goal.at.enter_side-requires-2 c).Else-n-eq2 in (
      rw (far_is (goal.at.enter_side-requires-2 c).After-link_in-far) (dart_next (dart_across (dart_next (dart (goal.at.enter_side-requires-2 c).Else-n-eq2) 2 (omega arith))) 2 (omega arith)),
      (four (goal.at.enter_side-requires-2 c).After-enter_side).long ∙ c.requires.long,
      omega arith,
    )

eight : (c : After-enter_side-2) →
    let a = c.args in
    Entered a.marks.now a.queue.now a.at 8 (place a.n a.table.now a.g) c.enter_side-2.new.marks
    c.enter_side-2.new.queue
eight c =
    entered_more (four (goal.at.After-enter_side-2 c).After-enter_side) c.enter_side-2.ensures
    (λ j h. far_side c.requires.dart (solid (goal.at.After-enter_side-2 c).Else-n-eq2) j h ∙ ap (λ (x : ℕ). side_at (table (goal.at.After-enter_side-2 c).Else-n-eq2) x j) (sym (far_is (goal.at.After-enter_side-2 c).After-link_in-far)))

pub enter_beside-requires : goal.enter_beside-requires
enter_beside-requires c =
    let E = eight (goal.at.enter_beside-requires c).After-enter_side-2 in
    let room = enough (goal.at.enter_beside-requires c).Else-n-eq2 in
    let words = E.words in
    let same = (four (goal.at.enter_beside-requires c).After-enter_side).words in
    let is = half_solid c.args.n (solid (goal.at.enter_beside-requires c).Else-n-eq2) in
    record { by_index = λ j h. rw (E.listed j h) (dart_of (place_dart c.requires.dart j (rw is (omega arith)))); marks_len = (E.long ∙ c.requires.long, omega arith) }

pub overflow_add-result-2 : goal.overflow_add-result-2
overflow_add-result-2 c =
    let is = half_solid c.args.n (solid (goal.at.overflow_add-result-2 c).Else-n-eq2) in
    let room = c.requires.room in
    let words = c.requires.words in
    let few = c.requires.dart.table.few in
    omega arith

pub returns : goal.returns
returns c =
    let D = c.requires.dart in
    let E = eight (goal.at.returns c).After-enter_side-2 in
    let is = half_solid c.args.n (solid (goal.at.returns c).Else-n-eq2) in (
      ap (λ (k : ℕ). c.args.at + k) (sym is),
      rw is (entered_more E c.enter_beside.ensures
          (λ j h. beside_places D (solid (goal.at.returns c).Else-n-eq2) j h ∙ ap (link (table (goal.at.returns c).Else-n-eq2) 2) (sym (E.listed j h)))),
    )
