use mathlib.Core.Path.{refl}
use mathlib.Core.List.{[], ◌∷◌, ◌++◌}
use native.Mathlib.Omega.{arith}
use lib.ListN.{length-append}
use Rattle.model.specs.Lists.{all_of}
use Rattle.vtk_words.proofs.Counting.{same_value}
use Rattle.vtk_words.proofs.Told.{number_told, number_unfit}
use Rattle.vtk_form.proofs.Gone.{gone_start, gone_more, gone_next, gone_end}
use Rattle.vtk_form.proofs.Keeping.{kept_start, kept_more}
use Rattle.vtk_form.proofs.Named.{named_next, named_more}
use Rattle.vtk_form.proofs.behind_row.Goals as goal

pub loop-i-init : goal.loop-i-init
unfolding all_of
loop-i-init c = (omega arith, omega arith, omega arith, ([], gone_start _ _, refl, refl, kept_start _ _ _))

pub returns-in_err-v : goal.returns-in_err-v
returns-in_err-v c = rw c.from_residual.ensures (λ row h named.
    let a = c.args in
    let (done, g, _, _, _) = c.loop-i.invariant.3 in
    let (x, (vs, same, f)) = gone_next _ _ _ done _ g (omega arith) row h in
    let low = named_next a.points row done x vs same named in
    let high = number_unfit a.text.now _ c.number_at.result c.ok.ensures.value c.in_err-v.was c.number_at.ensures _ f.is in
    absurd (omega arith))

pub returns-then-v-points : goal.returns-then-v-points
returns-then-v-points c = λ row h named.
    let a = c.args in
    let (done, g, _, _, _) = c.loop-i.invariant.3 in
    let (x, (vs, same, f)) = gone_next _ _ _ done _ g (omega arith) row h in
    let low = named_next a.points row done x vs same named in
    let (_, is, _) = number_told a.text.now _ c.number_at.result c.ok.ensures.value c.in_ok-v.was c.number_at.ensures in
    let value = same_value f.is is in
    absurd (omega arith)

pub loop-i-preserved : goal.loop-i-preserved
loop-i-preserved c =
    let a = c.args in
    let (done, g, named, long, kept) = c.loop-i.invariant.3 in
    let (high, is, _) = number_told a.text.now _ c.number_at.result c.ok.ensures.value c.in_ok-v.was c.number_at.ensures in
    let (in_room, no_room) = c.keep.ensures in
    let next = kept_more _ a.base a.room c.loop-i.rows _ done c.in_ok-v.field-0.value (omega arith) kept
    (rw (← long) at in_room) (rw (← long) at no_room) in
    let one = length-append done (c.in_ok-v.field-0.value ∷ []) in (
      omega arith,
      high,
      next.same,
      (
        done ++ (c.in_ok-v.field-0.value ∷ []),
        gone_more _ _ _ done _ g (omega arith) _ is,
        named_more a.points done c.in_ok-v.field-0.value named (omega arith),
        omega arith,
        next,
      ),
    )

pub returns : goal.returns
returns c =
    let (done, g, named, long, kept) = c.loop-i.invariant.3 in
    let (read, behind) = gone_end _ _ _ done _ g (omega arith) in
    record { high = c.loop-i.invariant.1; row = done; read = read; named = named; behind = behind; kept = kept }
