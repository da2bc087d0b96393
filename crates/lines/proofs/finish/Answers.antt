-- `lines::finish` meets its contract, by the ends of `ends`.
use Prim.Native.Nat.{◌*◌, ◌≤◌}
use mathlib.Core.Path.{sym, ◌∙◌}
use native.Mathlib.Omega.{arith}
use lib.ListN.{length}
use lib.Seq.{length-take-le}
use Rattle.std.proofs.lemmas.Bool.{not-true, not-false}
use Rattle.model.specs.Session.{bad}
use Rattle.texts.proofs.Writing.{appended_none}
use Rattle.lines.proofs.Fresh.{slots_part}
use Rattle.lines.proofs.Steps.{ends_done, ends_held, ends_other, ends_op, at_op_same}
use Rattle.lines.proofs.finish.Goals as goal
use Rattle.lines.proofs.finish.Goals.{then-s-ne0-via-then-s-ne0, then-s-ne0-via-else-s-ne0+then-ne}

pub returns-then-s : goal.returns-then-s
returns-then-s c =
    λ xs m j h. rw (← ends_done c.args.s xs c.args.table.now m j c.if-s.true) (appended_none _ _)

pub returns-then-s-ne0 : goal.returns-then-s-ne0
unfolding bad
returns-then-s-ne0 c =
    λ xs m j h. elim c.then-s-ne0.branch [
      | then-s-ne0-via-then-s-ne0 w ↦
          rw (← ends_held c.args.s xs c.args.table.now m j c.if-s.false w.if-s-ne0.true h) c.say.ensures.0
      | then-s-ne0-via-else-s-ne0+then-ne w ↦
          let elsewhere = at_op_same c.args.s.key ∙ not-true _ (sym w.ne.ensures ∙ w.if-ne.true) in
          rw (← ends_other c.args.s xs c.args.table.now m j c.if-s.false elsewhere) c.say.ensures.0
    ]

pub slice_bounds-ending-end : goal.slice_bounds-ending-end
slice_bounds-ending-end c =
    sym (length-take-le _ _ (omega (arith, c.requires.0, c.requires.1.few)))

pub ending-requires : goal.ending-requires
ending-requires c =
    let s = c.args.s in
    let inside : 4 * s.slots ≤ length c.args.table.now = omega (arith, c.requires.0, c.requires.1.few) in
    let all = slots_part s.slots c.args.table.now inside in
    let long = length-take-le (4 * s.slots) c.args.table.now inside in
    (omega (arith, c.requires.1.few, c.requires.2), omega (arith, c.requires.1.few))

pub returns : goal.returns
returns c =
    let op = at_op_same c.args.s.key ∙ not-false _ (sym c.ne.ensures ∙ c.if-ne.false) in
    λ xs m j h. rw (← ends_op c.args.s xs c.args.table.now m j c.if-s.false c.if-s-ne0.false op)
    c.ending.ensures
