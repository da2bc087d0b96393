-- `lines::taking::done` meets its contract, key by key.
use mathlib.Core.Logic.{inl, inr}
use Rattle.lines.specs.declared.Key.TheVariants.{Dim, Op, I, D}
use Rattle.lines.specs.Held.{Fits}
use Rattle.lines.proofs.Steps.{Quiet, noted_quiet, noted_slots, noted_request}
use Rattle.lines.proofs.taking.done.Goals as goal

pub fresh-requires : goal.fresh-requires
unfolding Fits
fresh-requires c =
    let few = rw c.in-Slots.is at c.requires.fits.0 in
    (c.requires.in_bounds.0, c.requires.in_bounds.1, c.requires.in_bounds.2, few)

pub returns-in-Slots : goal.returns-in-Slots
returns-in-Slots c =
    noted_slots _ _ _ _ _ _ _ _ c.in-Slots.is c.fresh.ensures _ _

pub returns-in-E : goal.returns-in-E
returns-in-E c =
    noted_request _ _ _ _ _ _ _ _ c.ask-answer.result c.in-E.is
    c.ask-answer.ensures _ _ _ _ c.answer.ensures.0
    c.answer.ensures.1

pub returns-in-Dim : goal.returns-in-Dim
unfolding Quiet
returns-in-Dim c = elim c.in-Dim.is [
  | inl e ↦ noted_quiet _ _ _ _ _ Dim tt e _ _
  | inr f ↦ elim f [
    | inl e ↦ noted_quiet _ _ _ _ _ Op tt e _ _
    | inr g ↦ elim g [ inl e ↦ noted_quiet _ _ _ _ _ I tt e _ _ | inr e ↦ noted_quiet _ _ _ _ _ D tt e _ _ ]
  ]
]
