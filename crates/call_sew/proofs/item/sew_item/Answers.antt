-- `call_sew::item::sew_item` meets its contract: the checks 6 to 10, and behind them `sew_pair`.
use mathlib.Core.Path.{◌∙◌}
use Rattle.answers.proofs.Settled.{handed}
use Rattle.call_sew.proofs.Ends.{sew_refused, behind_ready}
use Rattle.call_sew.proofs.item.sew_item.Goals as goal

pub pair_fits-requires : goal.pair_fits-requires
pair_fits-requires c = let ready = c.requires.ready in (ready.dim, ready.table, ready.map)

pub returns-in_err-pair_fits : goal.returns-in_err-pair_fits
returns-in_err-pair_fits c =
    let pre = c.requires in
    (rw (handed c.from_residual.ensures.1) (sew_refused _ _ _ _ _ _ _ _ (behind_ready pre.ready _ _ _ ∙ c.in_err-pair_fits.ensures.gives)), pre.lent.blank)

pub sew_pair-requires : goal.sew_pair-requires
sew_pair-requires c =
    let pre = c.requires in record { e_value = behind_ready pre.ready _ _ _ ∙ c.in_ok-pair_fits.ensures.gives; lent = pre.lent }

pub returns : goal.returns
returns c = c.sew_pair.ensures
