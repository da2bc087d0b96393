-- `new_darts::write` meets its contract. The loops' invariants: the new darts before those of the i-th dart, and of these the ones before
-- the role, are behind the pass, and p old darts.
use Prim.Native.Nat.{◌+◌, ◌*◌}
use Rattle.new_darts.specs.News.{Made}
use Rattle.new_darts.specs.Sources.{Drafts, DraftsTo}
use Rattle.new_darts.proofs.write.Given as goal

abbrev pub invariant-loop-i : goal.invariant-loop-i
invariant-loop-i g l =
    (M : Made) → Drafts l.sources g.O.Operation.insert M l.fn.journal
    → DraftsTo l.sources g.O.Operation.insert M l.sources.nexts.now l.fn.journal l.p (l.sources.n * l.i) l.w l.journal

abbrev pub invariant-loop-role : goal.invariant-loop-role
invariant-loop-role g l =
    (M : Made) → Drafts l.sources g.O.Operation.insert M l.fn.journal
    → DraftsTo l.sources g.O.Operation.insert M l.sources.nexts.now l.fn.journal l.p (l.sources.n * l.i + l.role) l.w l.journal
