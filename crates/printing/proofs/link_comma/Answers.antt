-- `printing::link_comma` meets its contract.
use native.Mathlib.Omega.{arith}
use Rattle.texts.proofs.Writing.{appended_then, decimal_length}
use Rattle.printing.proofs.link_comma.Goals as goal

pub put_decimal-end-requires : goal.put_decimal-end-requires
put_decimal-end-requires c =
    let short = decimal_length 19 c.link.result (omega arith) in
    omega (arith, c.requires.0)

pub put-requires : goal.put-requires
put-requires c =
    let short = decimal_length 19 c.link.result (omega arith) in
    omega (arith, c.put_decimal-end.ensures.ends, c.put_decimal-end.auto.out, c.requires.0)

pub returns : goal.returns
returns c =
    let whole = appended_then c.put_decimal-end.ensures c.put.ensures in
    let short = decimal_length 19 c.link.result (omega arith) in
    (rw (← c.link.ensures) whole, omega (arith, c.put.ensures.ends, c.put_decimal-end.ensures.ends))
