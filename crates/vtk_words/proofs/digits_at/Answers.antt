use Prim.Native.Nat.{ℕ, ◌*◌, ◌+◌, ◌-◌}
use mathlib.Core.Path.{◌≡◌, ap, sym, ◌∙◌, subst}
use mathlib.Core.Option.{Option, some}
use native.Mathlib.Omega.{arith}
use lib.ListN.{length, get_or}
use Rattle.std.specs.Prelude.{Err}
use Rattle.model.specs.Vtk.{Counted}
use Rattle.vtk_words.specs.Words.{NumberOf, number_at}
use Rattle.vtk_words.proofs.Numbering.{on_end, on_blank, on_digit, on_other}
use Rattle.vtk_words.proofs.digits_at.Goals as goal

pub returns-then-is_blank : goal.returns-then-is_blank
returns-then-is_blank c =
    let blank = sym c.is_blank.ensures ∙ c.if-is_blank.true in (
      omega arith,
      c.loop-k.invariant.1 ∙ on_blank c.loop-k.v c.args.text.now c.loop-k.k (omega arith) blank,
      c.loop-k.invariant.0,
    )

pub returns-then-not-is_ascii_digit : goal.returns-then-not-is_ascii_digit
returns-then-not-is_ascii_digit c =
    let full = sym c.is_blank.ensures ∙ c.if-is_blank.false in
    c.loop-k.invariant.1 ∙ on_other c.loop-k.v c.args.text.now c.loop-k.k (omega arith) full c.if-not-is_ascii_digit.ensures.cases

pub returns-then-nineteen_digits : goal.returns-then-nineteen_digits
returns-then-nineteen_digits c =
    let a = c.args in
    let x = get_or a.text.now c.loop-k.k 0 in
    let digit = c.if-not-is_ascii_digit.ensures.cases in
    let same = c.loop-k.invariant.1 ∙ on_digit c.loop-k.v a.text.now c.loop-k.k (omega arith) digit.0 digit.1 in
    subst (λ (o : Option Counted). NumberOf a.text.now o (Err c.large_at.result)) (sym same)
    (c.large_at.ensures (10 * c.loop-k.v + (x - 48)) (omega arith))

pub loop-k-preserved : goal.loop-k-preserved
loop-k-preserved c =
    let digit = c.if-not-is_ascii_digit.ensures.cases in
    (omega arith, c.loop-k.invariant.1 ∙ on_digit c.loop-k.v c.args.text.now c.loop-k.k (omega arith) digit.0 digit.1)

pub returns : goal.returns
returns c =
    let end : c.loop-k.k ≡ length c.args.text.now = omega arith in
    let whole = on_end c.loop-k.v c.args.text.now c.loop-k.k (omega arith) in
    (omega arith, c.loop-k.invariant.1 ∙ whole ∙ ap (λ (k : ℕ). some (number_at c.args.text.now c.loop-k.v k)) end, c.loop-k.invariant.0)
