-- `printing::dart` meets its contract.
use mathlib.Core.Path.{sym, ◌∙◌}
use native.Mathlib.Omega.{arith}
use Rattle.printing.proofs.Rising.{darts_live, darts_dead}
use Rattle.texts.proofs.Writing.{appended_none}
use Rattle.printing.proofs.dart.Goals as goal

pub returns-then-live : goal.returns-then-live
returns-then-live c =
    let alive = sym c.live.ensures ∙ c.if-live.true in (
      rw (← darts_live c.args.table.now c.args.d alive) c.dart_lines.ensures.0,
      c.dart_lines.ensures.1,
    )

pub returns : goal.returns
returns c =
    let dead = sym c.live.ensures ∙ c.if-live.false in
    (rw (← darts_dead c.args.table.now c.args.d dead) (appended_none _ _), omega arith)
