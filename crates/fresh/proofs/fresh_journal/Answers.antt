-- `fresh::fresh_journal` meets its contract.
use Rattle.fresh.proofs.Filling.{journal_fresh}
use Rattle.fresh.proofs.fresh_journal.Goals as goal

pub returns : goal.returns
returns c =
    journal_fresh _ _ (c.fill.ensures.after (λ _ e. e)) c.requires
