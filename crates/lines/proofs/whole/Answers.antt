-- `lines::whole` meets its contract: the machine prints the session.
use Rattle.texts.proofs.Writing.{appended_inside}
use native.Mathlib.Omega.{arith}
use Rattle.lines.proofs.Printed.{printed_whole}
use Rattle.lines.proofs.whole.Goals as goal

pub finish-requires : goal.finish-requires
finish-requires c =
    let k = c.feed-fed.auto in
    let told = c.feed-fed.ensures in
    (omega (arith, k.table, c.requires.0.table), told.kept, omega (arith, told.few, k.out, c.requires.1))

pub returns : goal.returns
returns c =
    let told = c.feed-fed.ensures in
    let last = c.feed-fed.new in
    let k = c.feed-fed.auto in
    let end = c.finish.ensures last.text last.marks last.journal
    (omega (arith, told.kept.short, k.text, c.requires.0.line)) in (
      printed_whole c.args.input.now (c.start.ensures.2 _ _ _ _)
          told.printed (rw told.machine at end),
      appended_inside end (omega (arith, told.few, k.out, c.requires.1)),
    )
