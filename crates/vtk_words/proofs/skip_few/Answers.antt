use Prim.Native.Nat.{ℕ, suc, ◌+◌, ◌-◌, ◌<◌}
use mathlib.Core.Path.{◌≡◌, sym, ap, ◌∙◌}
use native.Mathlib.Omega.{arith}
use lib.ListN.{length, drop}
use lib.Seq.{drop-nil}
use Rattle.model.specs.Vtk.{words}
use Rattle.vtk_words.proofs.Passing.{end_none, first_of}
use Rattle.vtk_words.proofs.skip_few.Goals as goal

pub loop-init : goal.loop-init
loop-init c =
    let a = c.args in
    let all : a.n ≡ a.n - 0 = omega arith in
    (omega arith, omega arith, ap (λ (k : ℕ). drop k (words (drop a.at a.text.now))) all)

pub returns-then-start-text : goal.returns-then-start-text
returns-then-start-text c =
    let a = c.args in
    let text = a.text.now in
    let begins = c.word_start-start.ensures in
    let none = end_none text c.word_start-start.result (omega arith) in
    record {
      high = begins.high;
      same = c.loop.invariant.2 ∙ ap (drop (a.n - c.loop.counter)) (begins.same ∙ none) ∙ drop-nil (a.n - c.loop.counter) ∙ sym none;
    }

pub loop-preserved : goal.loop-preserved
loop-preserved c =
    let a = c.args in
    let text = a.text.now in
    let begins = c.word_start-start.ensures in
    let ends = c.word_end-p.ensures in
    let start = c.word_start-start.result in
    let low : start < length text = let h = begins.high in let q = c.if-start-text.false in omega arith in
    let first = first_of text c.loop.p start c.word_end-p.result begins ends low in
    let more : a.n - c.loop.counter ≡ suc (a.n - (c.loop.counter + 1)) = omega arith in
    (omega arith, ends.high, c.loop.invariant.2 ∙ rw (first, more))

pub returns : goal.returns
returns c =
    let a = c.args in
    let done : a.n - c.loop.counter ≡ 0 = omega arith in
    record {
      high = c.loop.invariant.1;
      same = c.loop.invariant.2 ∙ ap (λ (m : ℕ). drop m (words (drop c.loop.p a.text.now))) done;
    }
