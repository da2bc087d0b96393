-- The worked sessions print what they must, each computed from the definitions: `all_printed`.
use Rattle.std.specs.Prelude.{◌≡◌, refl, [], ◌∷◌, length, take}
use Rattle.model.specs.Lists.{equal}
use Rattle.model.specs.Table.{live_count}
use Rattle.model.specs.Text.{bytes}
use Rattle.model.specs.Calls.{refused}
use Rattle.model.specs.Runs.{do_call, keeping, begin}
use Rattle.model.specs.Session.{slots_due}
use Rattle.model.specs.Session.{taken, dart_lines}
use Rattle.model.specs.Session.{talk, session}
use Rattle.model.specs.Import.{to_lines, map_lines, told}
use Rattle.model.specs.Everything.{everything}
use Rattle.model.specs.WorkedSession.{failing, row, talks, open_text, open_lines, journal_at}

pub all_printed : failing talks ≡ []
unfolding everything live_count begin equal do_call keeping open_text open_lines talk session failing talks row
all_printed = refl

-- "The journal has 16,384 words.", and is fresh before the first request
pub journal_words : length (journal_at (taken (slots_due 2) 8)) ≡ 16384
unfolding taken begin journal_at
journal_words = refl

pub journal_fresh : take 2 (journal_at (taken (slots_due 2) 8)) ≡ 2 ∷ 2 ∷ []
unfolding taken begin journal_at
journal_fresh = refl

-- "`dart=` and `to=` with its four links, parted by commas"
pub links_printed :
    dart_lines (7 ∷ 7 ∷ 7 ∷ 7 ∷ 0 ∷ 9 ∷ 10 ∷ 4294967295 ∷ []) 1 ≡ bytes "dart=1\nto=0,9,10,4294967295\n"
unfolding everything open_text open_lines
links_printed = refl

-- what import prints of a table's first slots, and of a refusal
pub map_printed : map_lines 3 2 (1 ∷ 0 ∷ 0 ∷ 4 ∷ 10 ∷ 1 ∷ 1 ∷ 99 ∷ 7 ∷ 7 ∷ 7 ∷ 7 ∷ []) ≡ bytes "dim=3\nslots=2\nto=1,0,0,4\nto=10,1,1,99\n"
unfolding everything open_text open_lines to_lines map_lines
map_printed = refl

pub refusal_told : told (refused 19 0 0 [] [] []) ≡ bytes "no=19\nat=0\nn=0\n"
unfolding everything open_text open_lines told
refusal_told = refl
