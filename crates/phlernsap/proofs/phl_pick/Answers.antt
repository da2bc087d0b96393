-- `phlernsap::phl_pick` meets its contract, by that of `kernel::pick`.
use Rattle.std.specs.Prelude.{Err}
use Rattle.answers.specs.Answers.{accepted}
use Rattle.phlernsap.proofs.Gives.{gives}
use Rattle.phlernsap.proofs.phl_pick.Goals as goal

pub returns-in-Ok : goal.returns-in-Ok
returns-in-Ok c = record {
  marks_after = gives (accepted 0 _) c.give.ensures c.in-Ok.ensures.marks_after;
  taken_after = c.in-Ok.ensures.taken_value;
  queue_unchanged = λ refused. absurd (refused c.give.ensures.0);
}

pub returns-in-Err : goal.returns-in-Err
returns-in-Err c = record {
  marks_after = gives (Err c.in-Err.refused) c.give-in-Err.ensures c.in-Err.ensures.marks_after;
  taken_after = c.in-Err.ensures.taken_value;
  queue_unchanged = λ _. c.in-Err.ensures.queue_unchanged;
}
