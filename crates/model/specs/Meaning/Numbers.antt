-- "Numbers a call gives back": 01's table, with the numbers of 02, as rows, a number and when it is given, and for each call
-- its rows in the order of its checks. A call gives the number of the first row that is given, or 0 (`First`).
use Rattle.std.specs.Prelude.{ℕ, ◌+◌, ◌*◌, ◌-◌, ◌%◌, ◌^◌, ◌≤◌, ◌<◌, ◌≡◌, ◌⊎◌, ◌≢◌, Bool, true, false, List, [], ◌∷◌, ◌++◌, length}
use Rattle.model.specs.Lists.{ones}
use Rattle.model.specs.Table.{slots, link, live, unused_slots}
use Rattle.model.specs.Map.{MapRule, links_live, links_return, pairs_commute, stays_flat}
use Rattle.model.specs.Cell.{cell_size}
use Rattle.model.specs.Sheet.{sheet}
use Rattle.model.specs.Add.{add_table}
use Rattle.model.specs.Sew.{side, sew_table, unsew_table}
use Rattle.model.specs.Remove.{remove_table}
use Rattle.model.specs.Split.{split_table}
use Rattle.model.specs.Wall.{wall_reached}
use Rattle.model.specs.Insert.{insert_table}
use Rattle.model.specs.Vtk.{Grid, grid_of, rows_in, types_in}
use Rattle.model.specs.Faces.{darts, vtk_table}
use Rattle.model.specs.Journal.{cursor, end, changes_from, record_of, changes_at, put}
use Rattle.model.specs.Checks.{rule_number}
use Rattle.model.specs.Runs.{Op, Call}
use Rattle.model.specs.Meaning.Ends.{undo_count, undo_start, redo_count}
use Rattle.model.specs.Meaning.Maps.{Map, BreaksFirst, Block}
use Rattle.model.specs.Meaning.Pairings.{Pairing}
use Rattle.model.specs.Meaning.Records.{Broken}
use Rattle.model.specs.Meaning.Sets.{Marked}
use Rattle.model.specs.Meaning.Walls.{BadMark, Leaves, Needed}
use Rattle.model.specs.Meaning.Vtk.{OfForm, OtherType, Repeated, ThreeCells, OtherCycle}

pub record NumberRow : Type 1 where
  pub number : ℕ
  pub given : Type 0

-- z is the number of the first row that is given, or 0
abbrev pub First : List NumberRow → ℕ → Type 0
First [] z = z ≡ 0
First (r ∷ rs) z = (r.given × (z ≡ r.number)) ⊎ ((r.given → ⊥) × First rs z)

-- ---- the rows

-- "n not 2 or 3"
abbrev pub dim_row : ℕ → NumberRow
dim_row n = record { number = 1; given = (n ≢ 2) × (n ≢ 3) }

-- of a read "n = 2 is refused by 1"
abbrev pub solid_row : ℕ → NumberRow
solid_row n = record { number = 1; given = n ≢ 3 }

-- "table length no multiple of 4, or above 262,144"
abbrev pub table_row : List ℕ → NumberRow
table_row t = record { number = 2; given = (length t % 4 ≢ 0) ⊎ (262144 < length t) }

-- "marks length differs from slots"
abbrev pub marks_row : List ℕ → List ℕ → NumberRow
marks_row t m = record { number = 3; given = length m ≢ slots t }

-- "queue length differs from slots"
abbrev pub queue_row : List ℕ → List ℕ → NumberRow
queue_row t w = record { number = 37; given = length w ≢ slots t }

-- "lent u32 words, 2 to 1,048,576. Word 0 is the cursor, word 1 the end; 2 <= cursor <= end <= length."
pub record JournalRule (j : List ℕ) : Type 0 where
  pub long : 2 ≤ length j
  pub few : length j ≤ 1048576
  pub low : 2 ≤ cursor j
  pub ends : cursor j ≤ end j
  pub within : end j ≤ length j

-- "journal length or its two words out of rule"
abbrev pub journal_row : List ℕ → NumberRow
journal_row j = record { number = 4; given = JournalRule j → ⊥ }

-- "not a map": the rule r is the first that is broken
abbrev pub rule_row : ℕ → List ℕ → MapRule → NumberRow
rule_row n t r = record { number = rule_number r; given = (d : ℕ) × (i : ℕ) × BreaksFirst n t r d i }

abbrev pub map_rows : ℕ → List ℕ → List NumberRow
map_rows n t = rule_row n t links_live ∷ rule_row n t links_return ∷ rule_row n t pairs_commute ∷ rule_row n t stays_flat ∷ []

-- "table not empty"
abbrev pub empty_row : List ℕ → NumberRow
empty_row t = record { number = 18; given = (d : ℕ) × (d < slots t) × (live t d ≡ true) }

-- "text not of the form"
abbrev pub form_row : List ℕ → NumberRow
form_row text = record { number = 19; given = (g : Grid) → OfForm text g → ⊥ }

-- "other cell type"
abbrev pub types_row : List ℕ → NumberRow
types_row types = record { number = 20; given = OtherType types }

-- "vertex repeated in a cell"
abbrev pub vertices_row : List (List ℕ) → NumberRow
vertices_row rows = record { number = 21; given = Repeated rows }

-- "three cells with the same four vertices in a face"
abbrev pub sharing_row : List (List ℕ) → NumberRow
sharing_row rows = record { number = 22; given = ThreeCells rows }

-- "same four vertices in another order"
abbrev pub order_row : List (List ℕ) → NumberRow
order_row rows = record { number = 23; given = OtherCycle rows }

-- "i above n, or mask above 2^(n+1) - 1"
abbrev pub index_row : ℕ → ℕ → NumberRow
index_row n i = record { number = 6; given = n < i }

abbrev pub mask_row : ℕ → ℕ → NumberRow
mask_row n mask = record { number = 6; given = 2 ^ (n + 1) ≤ mask }

-- "d or e not a live slot"
abbrev pub dart_row : List ℕ → ℕ → NumberRow
dart_row t d = record { number = 7; given = live t d ≡ false }

-- "not a block map"
abbrev pub block_row : ℕ → List ℕ → NumberRow
block_row n t = record { number = 8; given = Block n t → ⊥ }

-- "mark not 0 or 1 or a marked dead slot"
abbrev pub drawn_row : List ℕ → List ℕ → NumberRow
drawn_row t m = record { number = 28; given = (d : ℕ) × (d < slots t) × BadMark t m d }

-- "empty or not closed"
abbrev pub enclosed_row : ℕ → List ℕ → List ℕ → NumberRow
enclosed_row n t m = record { number = 29; given = ((h : ℕ) → Marked m h → ⊥) ⊎ ((h : ℕ) × Marked m h × Leaves n t m h) }

-- "free side in the wall"
abbrev pub sewn_wall_row : ℕ → List ℕ → List ℕ → NumberRow
sewn_wall_row n t m = record { number = 30; given = (h : ℕ) × Marked m h × (link t n h ≡ h) }

-- "what is needed of next fails"
abbrev pub turns_row : ℕ → List ℕ → List ℕ → NumberRow
turns_row n t m = record { number = 31; given = (h : ℕ) × Marked m h × (Needed n t m h → ⊥) }

-- "not connected"; `wall_reached_is` says what is reached
abbrev pub connected_row : ℕ → List ℕ → List ℕ → NumberRow
connected_row n t m = record { number = 32; given = (h : ℕ) × Marked m h × (Marked (wall_reached n t m) h → ⊥) }

-- "e in d's side"
abbrev pub apart_row : ℕ → List ℕ → ℕ → ℕ → ℕ → NumberRow
apart_row n t i d e = record { number = 9; given = Marked (side n t i d) e }

-- "d or e not i-free"
abbrev pub free_row : List ℕ → ℕ → ℕ → ℕ → NumberRow
free_row t i d e = record { number = 10; given = (link t i d ≢ d) ⊎ (link t i e ≢ e) }

-- "d is i-free"
abbrev pub sewn_row : List ℕ → ℕ → ℕ → NumberRow
sewn_row t i d = record { number = 11; given = link t i d ≡ d }

-- "no pairing exists"
abbrev pub pairing_row : ℕ → List ℕ → ℕ → ℕ → ℕ → NumberRow
pairing_row n t i d e = record { number = 12; given = Pairing n t i d e → ⊥ }

-- "some g in S has g.1 in S"
abbrev pub crossing_row : ℕ → List ℕ → ℕ → NumberRow
crossing_row n t d = record { number = 13; given = (g : ℕ) × Marked (sheet n t d) g × Marked (sheet n t d) (link t 1 g) }

-- "too few unused slots", for k darts
abbrev pub room_row : List ℕ → ℕ → NumberRow
room_row t k = record { number = 14; given = length (unused_slots t) < k }

-- "record longer than the words from cursor to length", where u is the new table
abbrev pub record_row : ℕ → List ℕ → List ℕ → List ℕ → NumberRow
record_row tag t u j = record { number = 15; given = length j - cursor j < length (record_of tag (changes_from 0 t u)) }

-- "cursor 2 (undo); cursor = end (redo)"
abbrev pub undo_row : List ℕ → NumberRow
undo_row j = record { number = 16; given = cursor j ≡ 2 }

abbrev pub redo_row : List ℕ → NumberRow
redo_row j = record { number = 16; given = cursor j ≡ end j }

-- "record broken, or result no map", of the record of k changes at the word a
abbrev pub StepFails : Bool → ℕ → List ℕ → List ℕ → ℕ → ℕ → Type 0
StepFails redo n t j a k = Broken redo t j a k ⊎ (Map n (put redo (changes_at j a k) t) → ⊥)

abbrev pub step_row : Bool → ℕ → List ℕ → List ℕ → ℕ → ℕ → NumberRow
step_row redo n t j a k = record { number = 17; given = StepFails redo n t j a k }

-- ---- the rows of each call, on the table t, the marks m and the journal j

abbrev pub number_rows : ℕ → List ℕ → List ℕ → List ℕ → Call → List NumberRow
number_rows n t m j Call.check = dim_row n ∷ table_row t ∷ map_rows n t
number_rows n t m j (Call.orbit mask d) =
    dim_row n ∷ table_row t ∷ marks_row t m ∷ (map_rows n t ++ (mask_row n mask ∷ dart_row t d ∷ []))
number_rows n t m j (Call.sheet d) = dim_row n ∷ table_row t ∷ marks_row t m ∷ (map_rows n t ++ (dart_row t d ∷ block_row n t ∷ []))
number_rows n t m j (Call.pick w d) =
    dim_row n ∷ table_row t ∷ marks_row t m ∷ queue_row t w ∷ (map_rows n t ++ (dart_row t d ∷ block_row n t ∷ []))
number_rows n t m j (Call.op tag Op.add) =
    dim_row n ∷ table_row t ∷ journal_row j ∷ (map_rows n t ++ (room_row t (cell_size n) ∷ record_row tag t (add_table n t) j ∷ []))
number_rows n t m j (Call.op tag (Op.sew i d e)) =
    dim_row n ∷ table_row t ∷ journal_row j ∷ (map_rows n t ++ (index_row n i ∷ dart_row t d ∷ dart_row t e ∷ apart_row n t i d e
    ∷ free_row t i d e ∷ pairing_row n t i d e ∷ record_row tag t (sew_table n t i d e) j ∷ []))
number_rows n t m j (Call.op tag (Op.unsew i d)) =
    dim_row n ∷ table_row t ∷ journal_row j ∷ (map_rows n t ++ (index_row n i ∷ dart_row t d ∷ sewn_row t i d
    ∷ record_row tag t (unsew_table n t i d) j ∷ []))
number_rows n t m j (Call.op tag (Op.remove d)) =
    dim_row n ∷ table_row t ∷ marks_row t m ∷ journal_row j ∷ (map_rows n t ++ (dart_row t d ∷ block_row n t
    ∷ record_row tag t (remove_table n t d) j ∷ []))
number_rows n t m j (Call.op tag (Op.split d)) =
    dim_row n ∷ table_row t ∷ marks_row t m ∷ journal_row j ∷ (map_rows n t ++ (dart_row t d ∷ block_row n t ∷ crossing_row n t d
    ∷ room_row t (n * length (ones (sheet n t d))) ∷ record_row tag t (split_table n t d) j ∷ []))
number_rows n t m j (Call.op tag (Op.insert w)) =
    dim_row n ∷ table_row t ∷ marks_row t w ∷ journal_row j ∷ (map_rows n t ++ (block_row n t ∷ drawn_row t w ∷ enclosed_row n t w
    ∷ sewn_wall_row n t w ∷ turns_row n t w ∷ connected_row n t w ∷ room_row t (n * length (ones w))
    ∷ record_row tag t (insert_table n t w) j ∷ []))
number_rows n t m j (Call.op tag (Op.vtk text)) =
    let rows = rows_in (grid_of text) in
    solid_row n ∷ table_row t ∷ journal_row j ∷ (map_rows n t ++ (empty_row t ∷ form_row text ∷ types_row (types_in (grid_of text))
    ∷ vertices_row rows ∷ sharing_row rows ∷ order_row rows ∷ room_row t (darts rows) ∷ record_row tag t (vtk_table t rows) j ∷ []))
number_rows n t m j Call.undo =
    dim_row n ∷ table_row t ∷ journal_row j
    ∷ (map_rows n t ++ (undo_row j ∷ step_row false n t j (undo_start j) (undo_count j) ∷ []))
number_rows n t m j Call.redo =
    dim_row n ∷ table_row t ∷ journal_row j
    ∷ (map_rows n t ++ (redo_row j ∷ step_row true n t j (cursor j) (redo_count j) ∷ []))
