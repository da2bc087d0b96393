use mathlib.Core.Option.{some}
use Rattle.vtk_words.specs.Words.{number_at}
use Prim.Native.Nat.{ℕ, ◌*◌, ◌+◌, ◌-◌}
use mathlib.Core.Path.{◌≡◌, ap, refl, sym, ◌∙◌}
use native.Mathlib.Omega.{arith}
use lib.ListN.{length, get_or}
use Rattle.vtk_words.proofs.Numbering.{on_end, on_blank, on_digit, on_other}
use Rattle.vtk_words.proofs.large_at.Goals as goal

pub loop-k-init : goal.loop-k-init
loop-k-init c = λ v h. (v, h, refl)

pub returns-then-is_blank : goal.returns-then-is_blank
returns-then-is_blank c = λ v h.
    let (u, high, same) = c.loop-k.invariant v h in (
      omega arith,
      (u, same ∙ on_blank u c.args.text.now c.loop-k.k (omega arith) (sym c.is_blank.ensures ∙ c.if-is_blank.true), high),
    )

pub returns-then-not-is_ascii_digit : goal.returns-then-not-is_ascii_digit
returns-then-not-is_ascii_digit c = λ v h.
    let (u, high, same) = c.loop-k.invariant v h in
    same ∙ on_other u c.args.text.now c.loop-k.k (omega arith)
    (sym c.is_blank.ensures ∙ c.if-is_blank.false) c.if-not-is_ascii_digit.ensures.cases

pub loop-k-preserved : goal.loop-k-preserved
loop-k-preserved c =
    let a = c.args in
    let x = get_or a.text.now c.loop-k.k 0 in
    let digit = c.if-not-is_ascii_digit.ensures.cases in
    λ v h.
    let (u, high, same) = c.loop-k.invariant v h in
    (10 * u + (x - 48), omega arith, same ∙ on_digit u a.text.now c.loop-k.k (omega arith) digit.0 digit.1)

pub returns : goal.returns
returns c = λ v h.
    let (u, high, same) = c.loop-k.invariant v h in
    let end : c.loop-k.k ≡ length c.args.text.now = omega arith in
    let whole = on_end u c.args.text.now c.loop-k.k (omega arith) in
    (omega arith, (u, same ∙ whole ∙ ap (λ (k : ℕ). some (number_at c.args.text.now u k)) end, high))
