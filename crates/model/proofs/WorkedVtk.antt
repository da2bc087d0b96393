-- The worked texts are read or refused as they must be, each computed from the definitions: `texts_hold`, `refusals_hold`.
use Rattle.std.specs.Prelude.{◌≡◌, refl, []}
use Rattle.model.specs.Table.{live_count}
use Rattle.model.specs.Text.{last_digits, decimal}
use Rattle.model.specs.Runs.{do_call, keeping, begin}
use Rattle.model.specs.Everything.{everything}
use Rattle.model.specs.Meaning.Worked.{do_all, sees, sees_all, holds_from, holds, failing}
use Rattle.model.specs.WorkedVtk.{zeros, file, one, row, refuses, texts, refusals}

pub texts_hold : failing texts ≡ []
unfolding everything live_count texts row file zeros one last_digits decimal failing holds holds_from sees_all sees begin do_all do_call keeping
texts_hold = refl

pub refusals_hold : failing refusals ≡ []
unfolding everything refusals refuses row file zeros last_digits decimal failing holds holds_from sees_all sees begin do_all do_call keeping
refusals_hold = refl
