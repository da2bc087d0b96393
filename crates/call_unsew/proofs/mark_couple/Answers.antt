-- `call_unsew::mark_couple` meets its contract.
use mathlib.Core.Path.{sym, ◌∙◌}
use native.Mathlib.Omega.{arith}
use Rattle.theorems.proofs.Maps.Rules.{live_in}
use Rattle.sides.proofs.Entries.{live_entry, link_low}
use Rattle.call_unsew.proofs.Marks.{marking_few, marking_as, marking_both}
use Rattle.call_unsew.proofs.mark_couple.Goals as goal

pub link_in-y-requires : goal.link_in-y-requires
link_in-y-requires c =
    let (linked, index, lives, wide) = c.requires in
    live_entry linked _ _ lives index

pub mark-own-requires : goal.mark-own-requires
mark-own-requires c =
    let (linked, index, lives, wide) = c.requires in
    let low = live_in _ _ linked.fits lives in
    omega arith

pub mark-other-requires : goal.mark-other-requires
mark-other-requires c =
    let (linked, index, lives, wide) = c.requires in
    let low = live_in _ _ linked.fits lives in
    let to = link_low linked _ _ lives index in
    let is = c.link_in-y.ensures in
    let long = c.mark-own.ensures.long in
    omega arith

pub overflow_add-result : goal.overflow_add-result
overflow_add-result c =
    let wide = c.requires.3 in
    let few = marking_few (marking_both c.mark-own.ensures c.mark-other.ensures) in
    omega arith

pub returns : goal.returns
returns c =
    let is = c.link_in-y.ensures in
    marking_both c.mark-own.ensures (marking_as c.mark-other.ensures (λ z e. e ∙ is) (λ z e. e ∙ sym is))
