-- `picks::mark_beside` meets its contract.
use Prim.Native.Nat.{ℕ, ◌≤◌}
use mathlib.Core.Path.{◌≡◌, refl, ap, ◌∙◌, subst}
use mathlib.Core.Logic.{inl, inr}
use native.Mathlib.Omega.{arith}
use lib.ListN.{length}
use Rattle.model.specs.Table.{slots, link}
use Rattle.sheets.specs.Spread.{Other}
use Rattle.sheets.proofs.Marks.{other_long}
use Rattle.picks.specs.Enter.{Dart}
use Rattle.picks.proofs.Darts.{dart_of, dart_there, dart_next, dart_marked}
use Rattle.picks.proofs.mark_beside.Goals as goal
use Rattle.picks.proofs.mark_beside.Goals.{After-link_in-z, After-mark_other, Start}

dart : (s : Start) → Dart s.args.table.now s.args.x
dart s = dart_of s.requires.0

three : (s : Start) → s.args.n ≤ 3
three s = s.requires.0.table.dim.1

pub link_in-y-requires : goal.link_in-y-requires
link_in-y-requires c = dart_there (dart (goal.at.link_in-y-requires c).Start) 1 (omega arith)

pub mark_other-requires : goal.mark_other-requires
mark_other-requires c =
    let low = three (goal.at.mark_other-requires c).Start in
    dart_marked (dart_next (dart (goal.at.mark_other-requires c).Start) 1 (omega arith)) _ _ c.args.marks.now (omega arith) c.link_in-y.ensures c.requires.1

first : (c : After-mark_other) →
    let a = c.args in
    Other a.n a.table.now a.marks.now (link a.table.now 1 a.x) c.mark_other.new.marks
first c =
    let a = c.args in
    subst (λ (y : ℕ). Other a.n a.table.now a.marks.now y c.mark_other.new.marks) c.link_in-y.ensures
    c.mark_other.ensures

all_marks : (c : After-mark_other) → length c.mark_other.new.marks ≡ slots c.args.table.now
all_marks c =
    other_long c.args.n c.args.table.now c.args.marks.now _ _ (first c) ∙ c.requires.1

pub link_in-z-requires : goal.link_in-z-requires
link_in-z-requires c =
    rw c.link_in-y.ensures (dart_there (dart_next (dart (goal.at.link_in-z-requires c).Start) 1 (omega arith)) 2 (omega arith))

second_is : (c : After-link_in-z) →
    let a = c.args in
    c.link_in-z.result ≡ link a.table.now 2 (link a.table.now 1 a.x)
second_is c =
    c.link_in-z.ensures ∙ ap (link c.args.table.now 2) c.link_in-y.ensures

pub mark_other-requires-then-n-eq3 : goal.mark_other-requires-then-n-eq3
mark_other-requires-then-n-eq3 c =
    let low = three (goal.at.mark_other-requires-then-n-eq3 c).Start in
    let D = dart_next (dart_next (dart (goal.at.mark_other-requires-then-n-eq3 c).Start) 1 (omega arith)) 2 (omega arith) in
    dart_marked D _ _ c.mark_other.new.marks (omega arith) (second_is (goal.at.mark_other-requires-then-n-eq3 c).After-link_in-z) (all_marks (goal.at.mark_other-requires-then-n-eq3 c).After-mark_other)

pub returns-then-n-eq3 : goal.returns-then-n-eq3
returns-then-n-eq3 c =
    let a = c.args in
    let second = subst (λ (y : ℕ). Other a.n a.table.now c.mark_other.new.marks y c.mark_other-then-n-eq3.new.marks) (second_is (goal.at.returns-then-n-eq3 c).After-link_in-z)
    c.mark_other-then-n-eq3.ensures in
    (c.mark_other.new.marks, first (goal.at.returns-then-n-eq3 c).After-mark_other, inl (c.if-n-eq3.true, second))

pub returns-else-n-eq3 : goal.returns-else-n-eq3
returns-else-n-eq3 c = (c.mark_other.new.marks, first (goal.at.returns-else-n-eq3 c).After-mark_other, inr (c.if-n-eq3.false, refl))
