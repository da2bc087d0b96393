-- `call_sheet::sheet_in` meets its contract, by `sheets::sheet`.
use Rattle.answers.proofs.Layered.{sheet_given}
use Rattle.call_sheet.proofs.Ends.{sheet_accepted}
use Rattle.call_sheet.proofs.sheet_in.Goals as goal

pub sheet-size-requires : goal.sheet-size-requires
sheet-size-requires c =
    let passed = c.requires.d_value in let room = c.requires.table_bound in
    let (dart, long) = sheet_given _ _ _ _ passed in
    (dart, long, room)

pub returns : goal.returns
returns c =
    let given = c.requires in
    sheet_accepted _ _ _ _ given.d_value c.sheet-size.ensures
