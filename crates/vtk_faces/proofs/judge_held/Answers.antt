-- `vtk_faces::judge_held` meets its contract.
use mathlib.Core.Path.{◌≡◌}
use native.Mathlib.Omega.{arith}
use lib.ListN.{length, replicate, get_or-replicate}
use Rattle.std.proofs.lemmas.Result.{err_from_is_err_and}
use Rattle.vtk_faces.proofs.Verdicts.{block_verdict}
use borrow.Author.Rules.{rules}
use Rattle.vtk_faces.proofs.judge_held.Goals as goal

pub own_faces-requires : goal.own_faces-requires
own_faces-requires c =
    let (given, L) = c.requires in
    let C = given.is in
    let number = C.number in
    let long = C.held.long in
    let wide = L.heads_long in
    let zeros : c.fill.new.self ≡ replicate (length c.args.heads.now) 0 = c.fill.ensures.after (λ y e. e) in
    record {
      sited = c.sites-sites.ensures;
      long = omega arith;
      lent = record { few = L.few; heads_long = search rules; nexts_room = search rules; mates_room = search rules };
      clear = λ h low. rw zeros (get_or-replicate (length c.args.heads.now) h 0 0 (omega arith));
    }

pub returns-in_err-same : goal.returns-in_err-same
returns-in_err-same c = λ rs C.
    let p = err_from_is_err_and c.from_residual.result c.from_residual.ensures.1 in
    rw (p.1, p.2) (block_verdict _ _ rs C _ _ _ _ c.in_err-same.ensures)

pub returns : goal.returns
returns c = λ rs C. rw c.ordered.ensures (block_verdict _ _ rs C _ _ _ _ c.in_ok-same.ensures)
