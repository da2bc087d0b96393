-- Numbers a call gives back: for each number the check that refuses by it, and for each call its checks, which "run in the
-- order of the numbers", 37 behind 3, 24 to 26 in 5's place, 38 and 18 to 23 behind them and 28 to 32 behind 8. 15 and 17 ask what a call would
-- write or put back: they stand with the calls.
use Rattle.std.specs.Prelude.{ℕ, ◌+◌, ◌*◌, ◌%◌, ◌^◌, Bool, true, false, not, ◌&&◌, ◌||◌, List, [], ◌∷◌, ◌++◌, length, leb, ltb, eqb}
use Rattle.std.proofs.Math.Option.{Option, none, some}
use Rattle.model.specs.Lists.{ones, all_of, all_below}
use Rattle.model.specs.Table.{slots, link, live, unused_slots}
use Rattle.model.specs.Map.{MapRule, links_live, links_return, pairs_commute, stays_flat, keeps_rule, breaking_link}
use Rattle.model.specs.Map.{least_breaking, is_map}
use Rattle.model.specs.Reach.{in_set}
use Rattle.model.specs.Cell.{cell_size, least_wrong}
use Rattle.model.specs.Add.{add_slots}
use Rattle.model.specs.Sew.{side, is_paired}
use Rattle.model.specs.NewDarts.{slots_for}
use Rattle.model.specs.Split.{crosses}
use Rattle.model.specs.Wall.{drawn, enclosed, sewn_wall, turns_well, connected}
use Rattle.model.specs.Journal.{cursor, end}
use Rattle.model.specs.Vtk.{Grid, rows_in, types_in}
use Rattle.model.specs.Faces.{repeats, sharing, all_faces, agree, darts}

-- passed, or refused: the number, the place and the count
pub data Check : Type 0 where
  pass : Check
  refuse : ℕ → ℕ → ℕ → Check

unfoldable pub must : Bool → ℕ → Check
must true k = pass
must false k = refuse k 0 0

unfoldable pub must_at : Bool → ℕ → ℕ → ℕ → Check
must_at true k p q = pass
must_at false k p q = refuse k p q

unfoldable pub and_then : Check → Check → Check
and_then pass c = c
and_then (refuse k p q) c = refuse k p q

-- the first refusal, or passed
unfoldable pub in_order : List Check → Check
in_order [] = pass
in_order (c ∷ cs) = and_then c (in_order cs)

-- ---- the checks, by number

-- 1: "n not 2 or 3"
unfoldable pub dim_ok : ℕ → Check
dim_ok n = must (eqb n 2 || eqb n 3) 1

-- 2: "table length no multiple of 4, or above 262,144"
unfoldable pub table_ok : List ℕ → Check
table_ok t = must (eqb (length t % 4) 0 && leb (length t) 262144) 2

-- 3: "marks length differs from slots"
unfoldable pub marks_ok : List ℕ → List ℕ → Check
marks_ok t m = must (eqb (length m) (slots t)) 3

-- 37: "queue length differs from slots"
unfoldable pub queue_ok : List ℕ → List ℕ → Check
queue_ok t w = must (eqb (length w) (slots t)) 37

-- 4: "journal length or its two words out of rule"
unfoldable pub journal_ok : List ℕ → Check
journal_ok j =
    must (leb 2 (length j) && leb (length j) 1048576 && leb 2 (cursor j) && leb (cursor j) (end j) && leb (end j) (length j)) 4

-- the numbers of the rules (02, R-3): "link to no live slot stays 5; a link that isn't returned; a distant pair that doesn't
-- commute; in 2D, a link 3 that leaves its dart .. 24, 25, 26 in that order"
unfoldable pub rule_number : MapRule → ℕ
rule_number links_live = 5
rule_number links_return = 24
rule_number pairs_commute = 25
rule_number stays_flat = 26

-- 5, 24, 25, 26: "not a map; place: least slot that breaks a rule"; there the rule r. Count: "the link index, the lower one
-- for a pair, the least if several"
unfoldable pub rule_ok : ℕ → List ℕ → MapRule → Check
rule_ok n t r =
    let b = least_breaking n t in
    must_at (is_map n t || keeps_rule n t b r) (rule_number r) b (breaking_link n t b r)

-- "in 5's place in the sequence"
unfoldable pub map_checks : ℕ → List ℕ → List Check
map_checks n t = rule_ok n t links_live ∷ rule_ok n t links_return ∷ rule_ok n t pairs_commute ∷ rule_ok n t stays_flat ∷ []

-- 38: "list length no multiple of three"
unfoldable pub list_ok : List ℕ → Check
list_ok l = must (eqb (length l % 3) 0) 38

-- 1 of a read: "n = 2 is refused by 1"
unfoldable pub solid_ok : ℕ → Check
solid_ok n = must (eqb n 3) 1

-- 18: "table not empty"
unfoldable pub empty_ok : List ℕ → Check
empty_ok t = must (all_below (slots t) (λ d. not (live t d))) 18

-- 19: "text not of the form"
unfoldable pub form_ok : Option Grid → Check
form_ok none = refuse 19 0 0
form_ok (some g) = pass

-- 20: "other cell type"
unfoldable pub types_ok : List ℕ → Check
types_ok ts = must (all_of (λ x. eqb x 12) ts) 20

-- 21: "vertex repeated in a cell"
unfoldable pub vertices_ok : List (List ℕ) → Check
vertices_ok rows = must (all_of (λ row. not (repeats row)) rows) 21

-- 22: "three cells with the same four vertices in a face"
unfoldable pub sharing_ok : List (List ℕ) → Check
sharing_ok rows = must (all_of (λ r. leb (sharing r rows) 2) (all_faces rows)) 22

-- 23: "same four vertices in another order"
unfoldable pub order_ok : List (List ℕ) → Check
order_ok rows = let fs = all_faces rows in must (all_of (λ r. all_of (agree r) fs) fs) 23

-- 6: "i above n, or mask above 2^(n+1) - 1"
unfoldable pub index_ok : ℕ → ℕ → Check
index_ok n i = must (leb i n) 6

unfoldable pub mask_ok : ℕ → ℕ → Check
mask_ok n mask = must (ltb mask (2 ^ (n + 1))) 6

-- 7: "d or e not a live slot"
unfoldable pub dart_ok : List ℕ → ℕ → Check
dart_ok t d = must (live t d) 7

-- 8: "not a block map; place: least live slot in a wrong cell"
unfoldable pub block_ok : ℕ → List ℕ → Check
block_ok n t = let b = least_wrong n t in must_at (eqb b (slots t)) 8 b 0

-- 28: "mark not 0 or 1 or a marked dead slot"
unfoldable pub drawn_ok : List ℕ → List ℕ → Check
drawn_ok t m = must (drawn t m) 28

-- 29: "empty or not closed"
unfoldable pub enclosed_ok : ℕ → List ℕ → List ℕ → Check
enclosed_ok n t m = must (enclosed n t m) 29

-- 30: "free side in the wall"
unfoldable pub sewn_wall_ok : ℕ → List ℕ → List ℕ → Check
sewn_wall_ok n t m = must (sewn_wall n t m) 30

-- 31: "what is needed of next fails"
unfoldable pub turns_ok : ℕ → List ℕ → List ℕ → Check
turns_ok n t m = must (all_of (turns_well n t m) (ones m)) 31

-- 32: "not connected"
unfoldable pub connected_ok : ℕ → List ℕ → List ℕ → Check
connected_ok n t m = must (connected n t m) 32

-- 9: "e in d's side"
unfoldable pub apart_ok : ℕ → List ℕ → ℕ → ℕ → ℕ → Check
apart_ok n t i d e = must (not (in_set (side n t i d) e)) 9

-- 10: "d or e not i-free"
unfoldable pub free_ok : List ℕ → ℕ → ℕ → ℕ → Check
free_ok t i d e = must (eqb (link t i d) d && eqb (link t i e) e) 10

-- 11: "d is i-free"
unfoldable pub sewn_ok : List ℕ → ℕ → ℕ → Check
sewn_ok t i d = must (not (eqb (link t i d) d)) 11

-- 12: "no pairing exists"
unfoldable pub pairing_ok : ℕ → List ℕ → ℕ → ℕ → ℕ → Check
pairing_ok n t i d e = must (is_paired n t i d e) 12

-- 13: "some g in S has g.1 in S", where gs are the darts of S
unfoldable pub crossing_ok : List ℕ → List ℕ → List ℕ → Check
crossing_ok t s gs = must (not (crosses t s gs)) 13

-- 14: "too few unused slots"
unfoldable pub add_room_ok : ℕ → List ℕ → Check
add_room_ok n t = must (eqb (length (add_slots n t)) (cell_size n)) 14

unfoldable pub new_room_ok : ℕ → List ℕ → List ℕ → Check
new_room_ok n t gs = must (eqb (length (slots_for n t gs)) (n * length gs)) 14

unfoldable pub cells_room_ok : List ℕ → List (List ℕ) → Check
cells_room_ok t rows = must (leb (darts rows) (length (unused_slots t))) 14

-- 16: "cursor 2 (undo); cursor = end (redo)"
unfoldable pub undo_ok : List ℕ → Check
undo_ok j = must (not (eqb (cursor j) 2)) 16

unfoldable pub redo_ok : List ℕ → Check
redo_ok j = must (not (eqb (cursor j) (end j))) 16

-- ---- the checks, by call

unfoldable pub check_checks : ℕ → List ℕ → List Check
check_checks n t = dim_ok n ∷ table_ok t ∷ map_checks n t

unfoldable pub orbit_checks : ℕ → List ℕ → List ℕ → ℕ → ℕ → List Check
orbit_checks n t m mask d = dim_ok n ∷ table_ok t ∷ marks_ok t m ∷ (map_checks n t ++ (mask_ok n mask ∷ dart_ok t d ∷ []))

unfoldable pub sheet_checks : ℕ → List ℕ → List ℕ → ℕ → List Check
sheet_checks n t m d = dim_ok n ∷ table_ok t ∷ marks_ok t m ∷ (map_checks n t ++ (dart_ok t d ∷ block_ok n t ∷ []))

unfoldable pub pick_checks : ℕ → List ℕ → List ℕ → List ℕ → ℕ → List Check
pick_checks n t m w d =
    dim_ok n ∷ table_ok t ∷ marks_ok t m ∷ queue_ok t w ∷ (map_checks n t ++ (dart_ok t d ∷ block_ok n t ∷ []))

unfoldable pub add_checks : ℕ → List ℕ → List ℕ → List Check
add_checks n t j = dim_ok n ∷ table_ok t ∷ journal_ok j ∷ (map_checks n t ++ (add_room_ok n t ∷ []))

-- of sew those before 12
unfoldable pub sides_checks : ℕ → List ℕ → List ℕ → ℕ → ℕ → ℕ → List Check
sides_checks n t j i d e =
    dim_ok n ∷ table_ok t ∷ journal_ok j
    ∷ (map_checks n t ++ (index_ok n i ∷ dart_ok t d ∷ dart_ok t e ∷ apart_ok n t i d e ∷ free_ok t i d e ∷ []))

unfoldable pub sew_checks : ℕ → List ℕ → List ℕ → ℕ → ℕ → ℕ → List Check
sew_checks n t j i d e = sides_checks n t j i d e ++ (pairing_ok n t i d e ∷ [])

-- of sew_list those before any item: "38 .. after 5 and R-3's numbers"
unfoldable pub list_checks : ℕ → List ℕ → List ℕ → List ℕ → List Check
list_checks n t j l = dim_ok n ∷ table_ok t ∷ journal_ok j ∷ (map_checks n t ++ (list_ok l ∷ []))

unfoldable pub unsew_checks : ℕ → List ℕ → List ℕ → ℕ → ℕ → List Check
unsew_checks n t j i d =
    dim_ok n ∷ table_ok t ∷ journal_ok j ∷ (map_checks n t ++ (index_ok n i ∷ dart_ok t d ∷ sewn_ok t i d ∷ []))

-- of remove, and of split those that leave the marks as lent
unfoldable pub layer_checks : ℕ → List ℕ → List ℕ → List ℕ → ℕ → List Check
layer_checks n t m j d =
    dim_ok n ∷ table_ok t ∷ marks_ok t m ∷ journal_ok j ∷ (map_checks n t ++ (dart_ok t d ∷ block_ok n t ∷ []))

-- of split those that leave the marks of the sheet s, whose darts are gs
unfoldable pub split_checks : ℕ → List ℕ → List ℕ → List ℕ → List Check
split_checks n t s gs = crossing_ok t s gs ∷ new_room_ok n t gs ∷ []

-- of insert, where the wall's marks are m: 28 to 32 "all after 8, before 14. Number 3 holds for this call too."
unfoldable pub wall_checks : ℕ → List ℕ → List ℕ → List Check
wall_checks n t m = drawn_ok t m ∷ enclosed_ok n t m ∷ sewn_wall_ok n t m ∷ turns_ok n t m ∷ connected_ok n t m ∷ []

unfoldable pub insert_checks : ℕ → List ℕ → List ℕ → List ℕ → List Check
insert_checks n t m j =
    dim_ok n ∷ table_ok t ∷ marks_ok t m ∷ journal_ok j
    ∷ (map_checks n t ++ (block_ok n t ∷ (wall_checks n t m ++ (new_room_ok n t (ones m) ∷ []))))

-- of a read, where g is what the text gives: "18 stands after 5, the others after it in order, then 14, 15"
unfoldable pub grid_checks : List ℕ → Option Grid → List Check
grid_checks t g =
    empty_ok t ∷ form_ok g ∷ types_ok (types_in g) ∷ vertices_ok (rows_in g) ∷ sharing_ok (rows_in g) ∷ order_ok (rows_in g)
    ∷ cells_room_ok t (rows_in g) ∷ []

unfoldable pub vtk_checks : ℕ → List ℕ → List ℕ → Option Grid → List Check
vtk_checks n t j g = solid_ok n ∷ table_ok t ∷ journal_ok j ∷ (map_checks n t ++ grid_checks t g)

-- of undo and redo, of which `there` says that there is a record
unfoldable pub step_checks : ℕ → List ℕ → List ℕ → Check → List Check
step_checks n t j there = dim_ok n ∷ table_ok t ∷ journal_ok j ∷ (map_checks n t ++ (there ∷ []))
