-- `vtk_form::behind_line` meets its contract.
use Prim.Native.Nat.{ℕ, ◌+◌, ◌<◌}
use mathlib.Core.Path.{◌≡◌, ◌∙◌, sym, ap, subst}
use mathlib.Core.List.{List}
use mathlib.Core.Logic.{◌≢◌}
use native.Mathlib.Omega.{arith}
use lib.ListN.{length, get_or, drop}
use Rattle.std.specs.Option.{MatchOption}
use Rattle.std.specs.List.{AllWithin, HoldsAt}
use Rattle.std.proofs.Common.{rules, tests, get_or-drop, Option}
use Rattle.std.proofs.lemmas.Iterator.{IsFirst-from_position, YieldsList-from_slice}
use Rattle.std.proofs.lemmas.Slice.{between_to_end}
use Rattle.vtk_form.proofs.Lines.{line_end, line_found, line_past}
use Rattle.vtk_form.proofs.behind_line.Goals as goal
use Rattle.vtk_form.proofs.behind_line.Goals.{After-position}

-- the bytes behind `at`, and the first of them that ends a line
rest_is : (c : After-position) → c.in_ok-rest.rest.now ≡ drop c.args.at c.args.text.now
rest_is c = c.in_ok-rest.ensures.lookup.0.2 ∙ between_to_end c.args.text.now c.args.at (length c.args.text.now) (omega arith)

abbrev FirstEnd : List ℕ → Option ℕ → Type 0
FirstEnd rest r =
    MatchOption r (AllWithin (λ x. x ≢ 10) rest 0 (length rest)) (λ i. (i < length rest) × HoldsAt (λ x. x ≡ 10) rest i × AllWithin (λ x. x ≢ 10) rest 0 i)

found : (c : After-position) → FirstEnd c.in_ok-rest.rest.now c.position.result
found c =
    IsFirst-from_position _ _ c.position.result (λ x. x ≡ 10) (λ x. x ≢ 10) c.position.ensures.ran (YieldsList-from_slice c.in_ok-rest.rest.now cc)
    (λ x q k. search (rules, tests)) (λ x q k. search (rules, tests))

-- the bytes before the first hit of `position`
passed : (c : After-position) (k : ℕ) → AllWithin (λ x. x ≢ 10) c.in_ok-rest.rest.now 0 k → (j : ℕ) → j < k → c.args.at + j < length c.args.text.now → get_or c.args.text.now (c.args.at + j) 0 ≢ 10
passed c k h j l m e = h j 0 (omega arith) l (ap (λ (xs : List ℕ). get_or xs j 0) (rest_is c) ∙ get_or-drop c.args.at c.args.text.now j 0 ∙ e)

long : (c : After-position) → c.args.at + length c.in_ok-rest.rest.now ≡ length c.args.text.now
long c = omega (arith, c.in_ok-rest.ensures.lookup.0.3)

pub returns : goal.returns
returns c =
    let p = goal.at.returns c in
    let text = c.args.text.now in
    let at = c.args.at in
    let k = c.in_ok-k.k in
    let (low, hit, before) = subst (FirstEnd c.in_ok-rest.rest.now) c.in_ok-k.was (found p.After-position) in
    let all = long p.After-position in
    let is : get_or text (at + k) 0 ≡ 10 = sym (ap (λ (xs : List ℕ). get_or xs k 0) (rest_is p.After-position) ∙ get_or-drop at text k 0) ∙ hit 0 in
    (omega arith, line_past text at k (λ j l. passed p.After-position k before j l (omega arith)) (omega arith) ∙ line_found text (at + k) (omega arith) is)

pub returns-in_err-rest : goal.returns-in_err-rest
returns-in_err-rest c = rw c.from_residual.ensures (line_end c.args.text.now c.args.at (grind (arith, c.in_err-rest.ensures.lookup)))

pub returns-in_err-k : goal.returns-in_err-k
returns-in_err-k c =
    let p = goal.at.returns-in_err-k c in
    let text = c.args.text.now in
    let at = c.args.at in
    let k = length c.in_ok-rest.rest.now in
    let none = subst (FirstEnd c.in_ok-rest.rest.now) c.in_err-k.was (found p.After-position) in
    let all = long p.After-position in
    rw c.from_residual-in_err-k.ensures (line_past text at k (λ j l. passed p.After-position k none j l (omega arith)) (omega arith) ∙ line_end text (at + k) (omega arith))
