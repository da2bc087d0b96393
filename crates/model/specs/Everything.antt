-- To unfold `everything` is to unfold each definition that a call cites, file by file: for proofs that compute.
use Rattle.model.specs.Lists.{tabulate_from, tabulate, count, ones_from, index_of, least_from, least, all_from, all_below, all_of}
use Rattle.model.specs.Lists.{any_of, how_many, equal}
use Rattle.model.specs.Table.{slots, link, live, walk, unused_slots, retable, relink_at, relink}
use Rattle.model.specs.Map.{returns, crossed, keeps_at, keeps_rule, breaking_link, keeps_rules, breaks_rule, least_breaking, is_map}
use Rattle.model.specs.Reach.{flood, steps, closure, links_from, links, in_set}
use Rattle.model.specs.Cell.{cell_words, cell_of, cell_size, turns, folded, good_dart, all_good, good_cell, in_wrong_cell}
use Rattle.model.specs.Cell.{least_wrong, is_block}
use Rattle.model.specs.Journal.{cursor, end, changes_from, triples, record_of, written, read_changes, changes_at, tag_at}
use Rattle.model.specs.Journal.{put_new, put_old, put, sound, unbroken}
use Rattle.model.specs.Orbit.{bit, orbit_words, orbit, orbit_place}
use Rattle.model.specs.Sheet.{sheet_words, sheet, mark_of, mark_at, sheet_marks}
use Rattle.model.specs.Add.{add_slots, added_link, added, add_table}
use Rattle.model.specs.Numbering.{corners, flip, first_bit, swap_first, swap_last, cell_link}
use Rattle.model.specs.Sew.{side_words, side, couple_steps, pair_up, partners, is_paired, sewn_link, sewn, sew_table, unsews}
use Rattle.model.specs.Sew.{unsewn_link, unsewn, unsew_table}
use Rattle.model.specs.Remove.{opposite, cell_mark, marked, count_marked, outside, removed_link, removed, remove_table}
use Rattle.model.specs.NewDarts.{new_dart, slots_for}
use Rattle.model.specs.Split.{crosses, new_dart_link, split_link, split_by, split_table}
use Rattle.model.specs.Wall.{turns_on, turn_from, turn_end, ends_free, next, drawn, closed_at, enclosed, sewn_wall, both_free, next_over}
use Rattle.model.specs.Wall.{next_apart, turns_well, wall_table, wall_reached, connected}
use Rattle.model.specs.Insert.{layer_link, laid_link, laid, insert_table}
use Rattle.model.specs.Text.{begins, is_digit, digits, number}
use Rattle.model.specs.Vtk.{is_blank, ended, words_from, words, behind_line, behind_title, behind_words, counted, numbers, rows_of}
use Rattle.model.specs.Vtk.{points_of, cells_of, types_of, sections_of, eights, fits, grid_of, rows_in, types_in}
use Rattle.model.specs.Faces.{listed_at, onward, sites, pick, round, face_darts, faces_from, faces, all_faces, among, same_four}
use Rattle.model.specs.Faces.{turned, reads, same_order, repeats, sharing, agree, darts, round_at, meets, partner, own_link}
use Rattle.model.specs.Faces.{read_link, vtk_table}
use Rattle.model.specs.Checks.{must, must_at, and_then, in_order, dim_ok, table_ok, marks_ok, journal_ok, rule_number, rule_ok, map_checks}
use Rattle.model.specs.Checks.{index_ok, mask_ok, dart_ok, block_ok, apart_ok, free_ok, sewn_ok, pairing_ok, crossing_ok, add_room_ok}
use Rattle.model.specs.Checks.{new_room_ok, undo_ok, redo_ok, check_checks, orbit_checks, sheet_checks, add_checks}
use Rattle.model.specs.Checks.{queue_ok, pick_checks, list_ok, sides_checks, sew_checks, list_checks, unsew_checks, layer_checks}
use Rattle.model.specs.Checks.{split_checks, step_checks}
use Rattle.model.specs.Checks.{drawn_ok, enclosed_ok, sewn_wall_ok, turns_ok, connected_ok, wall_checks, insert_checks}
use Rattle.model.specs.Checks.{solid_ok, empty_ok, form_ok, types_ok, vertices_ok, sharing_ok, order_ok, cells_room_ok, grid_checks}
use Rattle.model.specs.Checks.{vtk_checks}
use Rattle.model.specs.Calls.{refused, commit, check_call, orbit_call, sheet_call, add_call, sew_call, unsew_call}
use Rattle.model.specs.Calls.{pick_call, pick_taken, remove_call, split_call, insert_call, vtk_call, items, sew_items}
use Rattle.model.specs.Calls.{sew_list_call, step_outcome, undo_call, redo_call}

unfoldable pub open_lists : Unit {0}
unfolding tabulate_from tabulate count ones_from index_of least_from least all_from all_below all_of any_of how_many equal
open_lists = tt

unfoldable pub open_table : Unit {0}
unfolding slots link live walk unused_slots retable relink_at relink
open_table = tt

unfoldable pub open_map : Unit {0}
unfolding returns crossed keeps_at keeps_rule breaking_link keeps_rules breaks_rule least_breaking is_map
open_map = tt

unfoldable pub open_reach : Unit {0}
unfolding flood steps closure links_from links in_set
open_reach = tt

unfoldable pub open_cell : Unit {0}
unfolding cell_words cell_of cell_size turns folded good_dart all_good good_cell in_wrong_cell least_wrong is_block
open_cell = tt

unfoldable pub open_journal : Unit {0}
unfolding cursor end changes_from triples record_of written read_changes changes_at tag_at put_new put_old put sound unbroken
open_journal = tt

unfoldable pub open_orbit : Unit {0}
unfolding bit orbit_words orbit orbit_place
open_orbit = tt

unfoldable pub open_sheet : Unit {0}
unfolding sheet_words sheet mark_of mark_at sheet_marks
open_sheet = tt

unfoldable pub open_add : Unit {0}
unfolding add_slots added_link added add_table
open_add = tt

unfoldable pub open_numbering : Unit {0}
unfolding corners flip first_bit swap_first swap_last cell_link
open_numbering = tt

unfoldable pub open_sew : Unit {0}
unfolding side_words side couple_steps pair_up partners is_paired sewn_link sewn sew_table unsews unsewn_link unsewn unsew_table
open_sew = tt

unfoldable pub open_remove : Unit {0}
unfolding opposite cell_mark marked count_marked outside removed_link removed remove_table
open_remove = tt

unfoldable pub open_split : Unit {0}
unfolding crosses new_dart new_dart_link split_link split_by slots_for split_table
open_split = tt

unfoldable pub open_wall : Unit {0}
unfolding turns_on turn_from turn_end ends_free next drawn closed_at enclosed sewn_wall both_free next_over next_apart turns_well
open_wall = tt

unfoldable pub open_insert : Unit {0}
unfolding wall_table wall_reached connected layer_link laid_link laid insert_table
open_insert = tt

unfoldable pub open_text : Unit {0}
unfolding begins is_digit digits number
open_text = tt

unfoldable pub open_vtk : Unit {0}
unfolding is_blank ended words_from words behind_line behind_title behind_words counted numbers rows_of points_of cells_of types_of sections_of
open_vtk = tt

unfoldable pub open_grid : Unit {0}
unfolding eights fits grid_of rows_in types_in
open_grid = tt

unfoldable pub open_faces : Unit {0}
unfolding listed_at onward sites pick round face_darts faces_from faces all_faces among same_four turned reads same_order repeats sharing agree
open_faces = tt

unfoldable pub open_faces_more : Unit {0}
unfolding darts round_at meets partner own_link read_link vtk_table
open_faces_more = tt

unfoldable pub open_checks : Unit {0}
unfolding must must_at and_then in_order dim_ok table_ok marks_ok journal_ok rule_number rule_ok map_checks index_ok mask_ok dart_ok block_ok apart_ok free_ok
open_checks = tt

unfoldable pub open_checks_more : Unit {0}
unfolding sewn_ok pairing_ok crossing_ok add_room_ok new_room_ok undo_ok redo_ok check_checks orbit_checks sheet_checks add_checks
open_checks_more = tt

unfoldable pub open_checks_most : Unit {0}
unfolding queue_ok pick_checks list_ok sides_checks sew_checks list_checks unsew_checks layer_checks split_checks step_checks
open_checks_most = tt

unfoldable pub open_wall_checks : Unit {0}
unfolding drawn_ok enclosed_ok sewn_wall_ok turns_ok connected_ok wall_checks insert_checks
open_wall_checks = tt

unfoldable pub open_vtk_checks : Unit {0}
unfolding solid_ok empty_ok form_ok types_ok vertices_ok sharing_ok order_ok cells_room_ok grid_checks vtk_checks
open_vtk_checks = tt

unfoldable pub open_calls : Unit {0}
unfolding refused commit check_call orbit_call sheet_call add_call sew_call unsew_call remove_call split_call step_outcome undo_call
open_calls = tt

unfoldable pub open_calls_more : Unit {0}
unfolding pick_call pick_taken insert_call vtk_call items sew_items sew_list_call redo_call
open_calls_more = tt

unfoldable pub open_maps : Unit {0}
unfolding open_lists open_table open_map open_reach open_cell
open_maps = tt

unfoldable pub open_operations : Unit {0}
unfolding open_journal open_orbit open_sheet open_add open_numbering open_sew open_remove open_split open_wall open_insert
open_operations = tt

unfoldable pub open_texts : Unit {0}
unfolding open_text open_vtk open_grid open_faces open_faces_more
open_texts = tt

unfoldable pub open_answers : Unit {0}
unfolding open_checks open_checks_more open_checks_most open_wall_checks open_vtk_checks open_calls open_calls_more
open_answers = tt

unfoldable pub everything : Unit {0}
unfolding open_maps open_operations open_texts open_answers
everything = tt
