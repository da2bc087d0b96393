use Prim.Native.Nat.{ℕ, suc, ◌-◌}
use mathlib.Core.Path.{◌≡◌, refl, sym, ap}
use mathlib.Core.Bool.{true}
use mathlib.Core.List.{[], ◌∷◌, ◌++◌}
use native.Mathlib.Omega.{arith}
use lib.ListN.{length-append}
use lib.Dec.{eqb}
use Rattle.model.specs.Lists.{all_of}
use Rattle.theorems.proofs.Vtk.Form.{numbers_long}
use Rattle.vtk_words.proofs.Counting.{none_some, same_value, same_rest, rows_long}
use Rattle.vtk_words.proofs.Told.{number_told, number_unfit}
use Rattle.vtk_form.specs.Parts.{all_named, is_eight}
use Rattle.vtk_form.proofs.Gone.{rows_start, rows_step, rows_next, rows_end, rows_over}
use Rattle.vtk_form.proofs.Keeping.{stand_start, stand_more, stand_keeps}
use Rattle.vtk_form.proofs.Named.{all_more, all_next}
use Rattle.vtk_form.proofs.behind_rows.Goals as goal

pub loop-i-init : goal.loop-i-init
unfolding all_of
loop-i-init c = (omega arith, omega arith, omega arith, omega arith, ([], rows_start _ _ _, refl, refl, refl, stand_start c.args.rows.now))

pub returns-in_err-k : goal.returns-in_err-k
returns-in_err-k c = rw c.from_residual.ensures (λ rows h _.
    let (done, g, _, _, _, _) = c.loop-i.invariant.4 in
    let (row, (others, _, f)) = rows_next _ _ _ _ _ done _ g (omega arith) rows h in
    let high = number_unfit _ _ c.number_at.result c.ok.ensures.value c.in_err-k.was c.number_at.ensures _ f.is in
    let low = f.low in
    absurd (omega arith))

pub returns-then-k-left : goal.returns-then-k-left
returns-then-k-left c = λ rows h _.
    let (done, g, _, _, _, _) = c.loop-i.invariant.4 in
    let (row, (others, _, f)) = rows_next _ _ _ _ _ done _ g (omega arith) rows h in
    let (_, is, _) = number_told _ _ c.number_at.result c.ok.ensures.value c.in_ok-k.was c.number_at.ensures in
    let long = same_value f.is is in
    let low = f.low in
    absurd (omega arith)

pub returns-in_err-p : goal.returns-in_err-p
returns-in_err-p c = rw c.from_residual-in_err-p.ensures (λ rows h named.
    let a = c.args in
    let (done, g, _, _, _, _) = c.loop-i.invariant.4 in
    let (row, (others, same, f)) = rows_next _ _ _ _ _ done _ g (omega arith) rows h in
    let (_, is, _) = number_told _ _ c.number_at.result c.ok.ensures.value c.in_ok-k.was c.number_at.ensures in
    let read = f.read in
    c.in_err-p.ensures row
    (rw (same_value f.is is, same_rest f.is is) at read) (all_next (all_named a.points) rows done row others same named))

pub loop-i-preserved : goal.loop-i-preserved
loop-i-preserved c =
    let a = c.args in
    let (done, g, named, eight, count, stand) = c.loop-i.invariant.4 in
    let (_, is, _) = number_told _ _ c.number_at.result c.ok.ensures.value c.in_ok-k.was c.number_at.ensures in
    let f = c.in_ok-p.ensures in
    let step = rows_step _ _ _ _ _ done _ g (omega arith) _ f.row is c.if-k-left.false f.read in
    let less : c.loop-i.left - 1 - c.in_ok-k.field-0.value ≡ c.loop-i.left - suc c.in_ok-k.field-0.value = omega arith in
    let long = numbers_long c.in_ok-k.field-0.value _ f.row f.read in
    let one = length-append done (f.row ∷ []) in
    let room = c.room_for-room.ensures in
    let same = f.kept.same in (
      omega arith,
      f.high,
      omega arith,
      omega arith,
      (
        done ++ (f.row ∷ []),
        rw (less, ← f.behind) step,
        all_more (all_named a.points) done f.row true true named (sym f.named),
        all_more is_eight done f.row c.loop-i.eight _ eight (ap (λ (m : ℕ). eqb m 8) (sym long)),
        omega arith,
        stand_more c.loop-i.rows _ done f.row _ _ (rw (← count) at room) f.kept stand,
      ),
    )

pub returns-then-some_left : goal.returns-then-some_left
returns-then-some_left c = λ rows h _.
    let (done, g, _, _, _, _) = c.loop-i.invariant.4 in
    none_some (rows_over _ _ _ _ _ done _ g (omega arith) (omega arith)) h

pub returns : goal.returns
returns c =
    let a = c.args in
    let (done, g, named, eight, count, stand) = c.loop-i.invariant.4 in
    let (read, behind) = rows_end _ _ _ _ _ done _ g (omega arith) (omega arith) in
    record {
      high = c.loop-i.invariant.1;
      rows = done;
      read = read;
      long = rows_long a.n a.size _ done read;
      named = sym named;
      eights = eight;
      behind = behind;
      kept = stand_keeps _ done stand;
    }
