-- `picks::pick` meets its contract.
use Prim.Native.Nat.{ℕ}
use mathlib.Core.Path.{ap, sym, ◌∙◌}
use lib.ListN.{replicate}
use Rattle.model.specs.Lists.{count}
use Rattle.model.specs.Sheet.{sheet_marks}
use Rattle.picks.proofs.pick.Goals as goal

pub flood-found-requires : goal.flood-found-requires
flood-found-requires c =
    (c.requires.0, c.clear.ensures ∙ ap (λ (n : ℕ). replicate n 0) c.requires.1, c.requires.2)

pub mark_rest-requires : goal.mark_rest-requires
mark_rest-requires c =
    let (marks, queued) = c.flood-found.ensures.marks_after in
    let (entered, taken) = c.flood-found.ensures.entered_value in
    record {
      seed = c.args.d;
      dart = c.requires.0;
      marks = marks;
      queued = queued;
      within = entered ∙ sym (ap (count 1) marks);
      words = c.flood-found.auto.queue ∙ c.requires.2;
    }

pub returns : goal.returns
returns c =
    let (marks, queued) = c.flood-found.ensures.marks_after in
    let (entered, taken) = c.flood-found.ensures.entered_value in
    let a = c.args in
    record { marks_after = c.mark_rest.ensures ∙ ap (sheet_marks a.n a.table.now) marks; entered_value = (entered, taken) }
