-- The worked maps hold, each computed from the definitions: `all_hold`, `lists_hold`, `picks_hold`; and what is too long or too large to compute.
use Rattle.std.specs.Prelude.{ℕ, ◌≡◌, refl, true, List, [], ◌∷◌, ◌++◌, length}
use Rattle.model.specs.Lists.{equal}
use Rattle.model.specs.Table.{link, live_count}
use Rattle.model.specs.Remove.{remove_table}
use Rattle.model.specs.Checks.{pass, refuse, table_ok, journal_ok, must}
use Rattle.model.specs.Runs.{do_call, effect, keeping, begin}
use Rattle.model.specs.Everything.{everything}
use Rattle.model.specs.Meaning.Lists.{member}
use Rattle.model.specs.Meaning.Worked.{begin_on, do_all, sees, sees_all, holds_from, holds}
use Rattle.model.specs.Meaning.Worked.{failing, holds_list, failing_lists, holds_pick, failing_picks}
use Rattle.model.specs.Worked.{tagged, quad, three, halves, bent, unlinked, quad_table, hexahedron_table, damaged, folded_edge, folded_face, middle}
use Rattle.model.specs.Worked.{ring, named, made_of, made, wall, insert_at, between, both, rings, round, torus, tube}
use Rattle.model.specs.Worked.{seams, bent_and_ring, apart, fan, corner, hinge, hinge_faces, cut, cut_record, joined, row, row_after}
use Rattle.model.specs.Worked.{row_on, row_with, cases, parts, unlinked_parts, list_row, list_cases, pick_row, pick_cases, two_hexahedra, solid_torus, seam}
use Rattle.model.specs.Worked.{four_links, thickens}

pub all_hold : failing cases ≡ []
unfolding everything live_count cases row row_after row_on row_with tagged made_of made effect quad three halves bent unlinked quad_table hexahedron_table damaged folded_edge folded_face middle ring named cut cut_record joined wall insert_at between both rings round torus tube seams bent_and_ring apart fan corner hinge hinge_faces member failing holds holds_from sees_all sees begin begin_on do_all do_call keeping equal
all_hold = refl

pub lists_hold : failing_lists list_cases ≡ []
unfolding everything list_cases list_row parts unlinked_parts tagged made_of made effect quad unlinked quad_table damaged failing_lists holds_list sees_all sees begin begin_on do_all do_call keeping equal
lists_hold = refl

pub picks_hold : failing_picks pick_cases ≡ []
unfolding everything pick_cases pick_row tagged made_of made effect quad three bent unlinked ring quad_table hexahedron_table damaged middle failing_picks holds_pick equal
picks_hold = refl

-- 14: "262,144 entries pass check 2, 262,148 don't"
pub longest_passes : (t : List ℕ) → length t ≡ 262144 → table_ok t ≡ pass
unfolding table_ok must
longest_passes t long = rw long

pub longer_refused : (t : List ℕ) → length t ≡ 262148 → table_ok t ≡ refuse 2 0 0
unfolding table_ok must
longer_refused t long = rw long

-- "lent u32 words, 2 to 1,048,576"
pub longer_journal_refused : (j : List ℕ) → length j ≡ 1048577 → journal_ok j ≡ refuse 4 0 0
unfolding journal_ok must
longer_journal_refused j long = rw long

-- the two hexahedra that split makes of one; and where the first is removed, the other's side there is free, as the walk goes on from a
-- free side and comes back
pub solid_split : (link two_hexahedra 0 48 ≡ 0) × (link two_hexahedra 2 49 ≡ 50) × (link two_hexahedra 3 50 ≡ 53)
unfolding everything two_hexahedra
solid_split = (refl, refl, refl)

pub solid_remove : link (remove_table 3 two_hexahedra 0) 3 53 ≡ 53
unfolding everything two_hexahedra
solid_remove = refl

pub solid_insert : thickens solid_torus seam
    ((1 ∷ 16 ∷ 8 ∷ 48 ∷ []) ++ (51 ∷ 72 ∷ 49 ∷ 0 ∷ []) ++ (52 ∷ 50 ∷ 48 ∷ 55 ∷ []) ++ (62 ∷ 49 ∷ 74 ∷ 56 ∷ [])
    ++ (79 ∷ 74 ∷ 72 ∷ 73 ∷ []) ++ (86 ∷ 73 ∷ 50 ∷ 74 ∷ [])) ≡ true
unfolding everything member solid_torus seam wall four_links thickens equal
solid_insert = refl
