use mathlib.Core.Path.{ap}
use native.Mathlib.Omega.{arith}
use lib.ListN.{length}
use Rattle.texts.proofs.Writing.{appended_then, decimal_small, decimal_more, decimal_longer}
use Rattle.texts.proofs.+put_decimal.Goals as goal

pub overflow_cast-v : goal.overflow_cast-v
overflow_cast-v t c = omega arith

pub overflow_add-v : goal.overflow_add-v
overflow_add-v t c = omega arith

pub put_byte-requires : goal.put_byte-requires
put_byte-requires t c =
    let e = ap length (decimal_small c.args.v c.if-v-lt10.true) in
    omega (arith, c.requires)

pub returns-then-v-lt10 : goal.returns-then-v-lt10
returns-then-v-lt10 t c =
    rw (decimal_small c.args.v c.if-v-lt10.true) c.put_byte.ensures

pub put_decimal-last-requires : goal.put_decimal-last-requires
put_decimal-last-requires t c =
    let e = decimal_longer c.args.v c.if-v-lt10.false in
    (omega (arith, c.decreases), omega (arith, c.requires))

pub overflow_cast-v-2 : goal.overflow_cast-v-2
overflow_cast-v-2 t c = omega arith

pub overflow_add-v-2 : goal.overflow_add-v-2
overflow_add-v-2 t c = omega arith

pub put_byte-requires-2 : goal.put_byte-requires-2
put_byte-requires-2 t c =
    let e = decimal_longer c.args.v c.if-v-lt10.false in
    omega (arith, c.put_decimal-last.ensures.ends, c.put_decimal-last.auto.out, c.requires)

pub returns : goal.returns
returns t c =
    rw (decimal_more c.args.v c.if-v-lt10.false)
    (appended_then c.put_decimal-last.ensures c.put_byte-2.ensures)
