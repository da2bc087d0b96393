-- `vtk_faces::judge_block` meets its contract.
use mathlib.Core.Path.{◌≡◌, refl}
use native.Mathlib.Omega.{arith}
use lib.ListN.{length, replicate, get_or-replicate}
use Rattle.std.proofs.lemmas.Result.{err_from_is_err_and}
use Rattle.vtk_faces.proofs.Blocks.{no_third}
use Rattle.vtk_faces.proofs.Taken.{block_own, block_three, block_rest}
use borrow.Author.Rules.{rules}
use Rattle.vtk_faces.proofs.judge_block.Goals as goal

pub own_faces-requires : goal.own_faces-requires
own_faces-requires c =
    let (sited, L, B) = c.requires in
    let wide = L.heads_long in
    let zeros : c.fill.new.self ≡ replicate (length c.args.heads.now) 0 = c.fill.ensures.after (λ y e. e) in
    block_own _ _ _ _ _ _ _ B.is _ _ _ _ sited
    (record { few = L.few; heads_long = search rules; nexts_room = search rules; mates_room = search rules })
    (λ h low. rw zeros (get_or-replicate (length c.args.heads.now) h 0 0 (omega arith)))

pub returns-in_err-own : goal.returns-in_err-own
returns-in_err-own c = λ rs d B.
    let p = err_from_is_err_and c.from_residual.result c.from_residual.ensures.1 in
    rw p.1 (block_three rs d _ _ _ _ _ B _ _ _ _ c.in_err-own.ensures refl)

pub judge_rest-requires : goal.judge_rest-requires
judge_rest-requires c =
    let (sited, L, B) = c.requires in (
      sited,
      record {
        rows = B.rows;
        d = B.d;
        k = _;
        is = block_rest _ _ _ _ _ _ _ B.is _ _ _ _ c.in_ok-own.ensures (no_third _);
      },
    )

pub returns : goal.returns
returns c = λ rs d B.
    c.judge_rest.ensures rs d _ (block_rest rs d _ _ _ _ _ B _ _ _ _ c.in_ok-own.ensures (no_third _))
