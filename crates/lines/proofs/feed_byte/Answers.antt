-- `lines::feed_byte` meets its contract.
use Rattle.lines.proofs.Steps.{done_told, held_told}
use Rattle.lines.proofs.feed_byte.Goals as goal

pub returns-then-s : goal.returns-then-s
returns-then-s c = done_told _ _ _ _ _ _ _ _ c.if-s.true c.requires.room.1

pub returns-then-b-eq10 : goal.returns-then-b-eq10
returns-then-b-eq10 c =
    rw c.if-b-eq10.true c.line_ended.ensures

pub returns : goal.returns
returns c =
    held_told c.args.s c.args.b c.args.text.now _ _ _ _ _ _ _ c.if-s.false c.if-b-eq10.false
    c.requires.room.1
    c.hold-held.ensures.0 c.hold-held.ensures.1
