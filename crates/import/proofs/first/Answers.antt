-- `import::first` meets its contract: the call's outcome is that of the model on a table with no live slot and a fresh journal.
use native.Mathlib.Omega.{arith}
use Rattle.std.specs.Prelude.{Ok, Err, refl}
use Rattle.refusals.proofs.Numbers.{some_number}
use Rattle.texts.proofs.Writing.{appended_inside}
use Rattle.import.proofs.Telling.{refused_whole, accepted_whole}
use Rattle.import.proofs.first.Goals as goal

pub returns-in-Ok : goal.returns-in-Ok
returns-in-Ok c =
    let text = c.args.text.now in (
      appended_inside c.map_head.ensures.0 (omega arith),
      accepted_whole (Ok c.in-Ok.done) text c.requires.text_len_bound.0 (c.fill.ensures.after (λ _ e. e)) c.requires.table_len.0 c.fresh_journal.ensures c.requires.table_len.1
          c.in-Ok.ensures refl c.map_head.ensures.0,
    )

pub returns-in-Err : goal.returns-in-Err
returns-in-Err c =
    let text = c.args.text.now in (
      appended_inside c.answer.ensures.0 (omega arith),
      refused_whole (Err c.in-Err.refused) text c.requires.text_len_bound.0 (c.fill.ensures.after (λ _ e. e)) c.requires.table_len.0 c.fresh_journal.ensures c.requires.table_len.1
          c.in-Err.ensures (some_number c.in-Err.refused.reason) c.answer.ensures.0,
    )
