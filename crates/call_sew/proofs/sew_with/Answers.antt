-- `call_sew::sew_with` meets its contract, by `sew_items`.
use Rattle.call_sew.proofs.Parts.{lent_new}
use Rattle.call_sew.proofs.sew_with.Goals as goal

pub sew_items-requires : goal.sew_items-requires
sew_items-requires g c =
    let (room, low, half, whole) = c.requires.room in
    record { list_value = c.requires.list_value; lent = lent_new _ g.row.SLOTS g.row.HALF g.row.GROUPS (room, half, whole) }
