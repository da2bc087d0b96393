-- `printing::to_line` meets its contract: its parts, one behind the other.
use native.Mathlib.Omega.{arith}
use Rattle.printing.proofs.Rising.{to_whole}
use Rattle.printing.proofs.to_line.Goals as goal

pub link_comma-second-requires : goal.link_comma-second-requires
link_comma-second-requires c =
    (omega (arith, c.put-first.ensures.ends, c.put-first.auto.out, c.requires), omega arith)

pub link_comma-third-requires : goal.link_comma-third-requires
link_comma-third-requires c = (
  omega (
    arith,
    c.link_comma-second.ensures.1,
    c.link_comma-second.auto.out,
    c.put-first.ensures.ends,
    c.put-first.auto.out,
    c.requires,
  ),
  omega arith,
)

pub link_comma-last-requires : goal.link_comma-last-requires
link_comma-last-requires c = (
  omega (
    arith,
    c.link_comma-third.ensures.1,
    c.link_comma-third.auto.out,
    c.link_comma-second.ensures.1,
    c.link_comma-second.auto.out,
    c.put-first.ensures.ends,
    c.put-first.auto.out,
    c.requires,
  ),
  omega arith,
)

pub say-requires : goal.say-requires
say-requires c =
    omega (
      arith,
      c.link_comma-last.ensures.1,
      c.link_comma-last.auto.out,
      c.link_comma-third.ensures.1,
      c.link_comma-third.auto.out,
      c.link_comma-second.ensures.1,
      c.link_comma-second.auto.out,
      c.put-first.ensures.ends,
      c.put-first.auto.out,
      c.requires,
    )

pub returns : goal.returns
returns c =
    let a = c.args in (
      to_whole a.table.now a.d c.put-first.ensures c.link_comma-second.ensures.0
          c.link_comma-third.ensures.0
          c.link_comma-last.ensures.0 (rw (← c.link.ensures) c.say.ensures.0),
      omega (
        arith,
        c.say.ensures.1,
        c.link_comma-last.ensures.1,
        c.link_comma-last.auto.out,
        c.link_comma-third.ensures.1,
        c.link_comma-third.auto.out,
        c.link_comma-second.ensures.1,
        c.link_comma-second.auto.out,
        c.put-first.ensures.ends,
        c.put-first.auto.out,
        c.requires,
      ),
    )
