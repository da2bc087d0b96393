-- `texts::say` meets its contract: a u64 has at most 20 digits.
use native.Mathlib.Omega.{arith}
use Rattle.model.specs.Text.{said}
use Rattle.texts.proofs.Writing.{appended_then, decimal_length, said_length}
use Rattle.texts.proofs.say.Goals as goal

pub put_decimal-end-requires : goal.put_decimal-end-requires
put_decimal-end-requires c =
    let short = decimal_length 19 c.args.v (omega arith) in
    omega (arith, c.put-value.ensures.ends, c.put-value.auto.out, c.requires)

pub put_byte-requires : goal.put_byte-requires
put_byte-requires c =
    let short = decimal_length 19 c.args.v (omega arith) in
    omega (
      arith,
      c.put-value.ensures.ends,
      c.put-value.auto.out,
      c.put_decimal-end.ensures.ends,
      c.put_decimal-end.auto.out,
      c.requires,
    )

pub returns : goal.returns
unfolding said
returns c =
    let whole = appended_then (appended_then c.put-value.ensures c.put_decimal-end.ensures) c.put_byte.ensures in
    (whole, omega (arith, whole.ends, said_length c.args.key.now c.args.v (omega arith)))
