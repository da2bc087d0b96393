-- `new_darts::write_darts` meets its contract. The loop's invariant: k old darts are behind the pass, whose next triple is at v.
use Prim.Native.Nat.{ℕ, ◌+◌, ◌*◌, ◌-◌, ◌≤◌, ◌<◌}
use mathlib.Core.Path.{◌≡◌}
use mathlib.Core.List.{List}
use lib.ListN.{get_or}
use Rattle.new_darts.specs.News.{Made}
use Rattle.new_darts.specs.Sources.{DraftsTo}
use Rattle.new_darts.proofs.write_darts.Given as goal

abbrev pub invariant-loop-k : goal.invariant-loop-k
invariant-loop-k g s =
    (s.p ≤ s.k) × (s.v ≡ s.w + 3 * (s.k - s.p))
    × ((nexts : List ℕ) (M : Made) (q : ℕ) (j : List ℕ)
    → DraftsTo s.sources g.O.Operation.insert M nexts j s.p q s.w s.initial.journal
    → ((l : ℕ) → q ≤ l → l < s.sources.n * s.sources.size → s.x ≤ get_or s.sources.fresh.now l 0)
    → DraftsTo s.sources g.O.Operation.insert M nexts j s.k q s.v s.journal)
