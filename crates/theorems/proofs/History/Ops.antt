-- What an operation makes of a table: a table of the same length (`effect_length`), another one where its checks pass
-- (`op_changes`), and a map where it is accepted (`op_map`).
use Prim.Native.Nat.{ℕ, ◌<◌}
use mathlib.Core.Path.{◌≡◌, refl, sym, ap, ◌∙◌, subst}
use mathlib.Core.Logic.{◌≢◌}
use mathlib.Core.Bool.{true}
use mathlib.Core.Option.{Option, none, some}
use mathlib.Core.List.{List}
use native.Mathlib.Omega.{arith}
use lib.ListN.{length, get_or}
use Rattle.model.specs.Lists.{ones}
use Rattle.model.specs.Table.{unused, link, live, retable, relink}
use Rattle.model.specs.Map.{is_map}
use Rattle.model.specs.Cell.{cell_size}
use Rattle.model.specs.Numbering.{cell_link, first_bit, corners, flip}
use Rattle.model.specs.Sheet.{sheet}
use Rattle.model.specs.Add.{add_slots, added, add_table}
use Rattle.model.specs.Sew.{side, partners, sewn, sew_table, unsewn, unsew_table}
use Rattle.model.specs.Remove.{removed, remove_table}
use Rattle.model.specs.Split.{split_by, split_table}
use Rattle.model.specs.Insert.{laid, insert_table}
use Rattle.model.specs.Faces.{vtk_table}
use Rattle.model.specs.Calls.{Outcome}
use Rattle.model.specs.Runs.{Op, Call, do_call, keeping, effect}
use Rattle.model.specs.Meaning.Ends.{Passed}
use Rattle.model.specs.Meaning.Maps.{Dim}
use Rattle.model.specs.Meaning.Sets.{Marked}
use Rattle.theorems.proofs.Lists.Scan.{clash, length_tab}
use Rattle.theorems.proofs.Lists.Ones.{get_or_in, ones_in, vacant_frees}
use Rattle.theorems.proofs.Maps.Rules.{dead_link}
use Rattle.theorems.proofs.Maps.Tables.{map_table, live_below, rule_at}
use Rattle.theorems.proofs.Maps.Dim.{two_cases}
use Rattle.theorems.proofs.Sewing.Side.{side_own}
use Rattle.theorems.proofs.Sewing.Pairing.{paired_exactly}
use Rattle.theorems.proofs.Sewing.Sew.{sew_there}
use Rattle.theorems.proofs.Sewing.Unsew.{unsew_free}
use Rattle.theorems.proofs.Cells.Add.{add_new}
use Rattle.theorems.proofs.Layers.Sheet.{sheet_own}
use Rattle.theorems.proofs.Layers.Marks.{marks_own}
use Rattle.theorems.proofs.Layers.Remove.{remove_removes}
use Rattle.theorems.proofs.Layers.NewDarts.{new_in}
use Rattle.theorems.proofs.Layers.Splitting.{splits_splitting, spread, split_dart_link}
use Rattle.theorems.proofs.Insert.Inserted.{insert_differs}
use Rattle.theorems.proofs.Vtk.Table.{read_differs}
use Rattle.theorems.proofs.Vtk.Passed.{vtk_passed, vtk_some}
use Rattle.theorems.proofs.Calls.Pass.{add_passed, unsew_passed, sew_passed, layer_passed, split_passed, insert_passed}
use Rattle.theorems.proofs.Calls.Pass.{unsew_side, sides_sewable}
use Rattle.theorems.proofs.Calls.Kept.{add_call_lem, sew_call_lem, unsew_call_lem, remove_call_lem, split_call_lem, insert_call_lem, vtk_call_lem}

-- ---- the table keeps its length

pub effect_length : (n : ℕ) (t : List ℕ) (p : Op) → length (effect n t p) ≡ length t
unfolding effect add_table unsew_table remove_table split_table sew_table insert_table vtk_table added unsewn relink removed split_by laid retable
effect_length n t Op.add = length_tab _ (length t)
effect_length n t (Op.sew i d e) = go (partners n t i d e) (partners n t i e d)
  where
    go : (x y : Option (List ℕ))
        → length {A = ℕ} (elim x [ none ↦ t | some p ↦ (elim y [ none ↦ t | some q ↦ sewn t i p q ]) ]) ≡ length t
    go none y = refl
    go (some p) none = refl
    go (some p) (some q) = unfold sewn in length_tab _ (length t)
effect_length n t (Op.unsew i d) = length_tab _ (length t)
effect_length n t (Op.remove d) = length_tab _ (length t)
effect_length n t (Op.split d) = length_tab _ (length t)
effect_length n t (Op.insert w) = length_tab _ (length t)
effect_length n t (Op.vtk text) = length_tab _ (length t)

-- ---- an accepted operation changes the table

differs : (t u : List ℕ) (i x : ℕ) → link t i x ≢ link u i x → t ≢ u
differs t u i x h e = h (ap (λ (l : List ℕ). link l i x) e)

-- a new cell has two darts at least, and its link 0 leads from the first to the second
pair_first : (n : ℕ) → Dim n → (1 < cell_size n) × (cell_link n 0 0 ≡ 1)
unfolding cell_size cell_link corners flip first_bit
pair_first n d = two_cases n d (λ n. (1 < cell_size n) × (cell_link n 0 0 ≡ 1)) (omega arith, refl) (omega arith, refl)

positive : (n : ℕ) → Dim n → 0 < n
positive n d = two_cases n d (λ n. 0 < n) (omega arith) (omega arith)

pub op_changes : (n : ℕ) (t m j : List ℕ) (p : Op) → Passed n t m j p → t ≢ effect n t p
unfolding effect add_table add_slots split_table
op_changes n t m j Op.add a =
    let passed = add_passed n t j a in
    let T = passed.table in
    let room = passed.room in
    let fs = add_slots n t in
    let fresh = vacant_frees t (cell_size n) in
    let c = pair_first n T.dim in
    let more = c.0 in
    differs t _ 0 (get_or fs 0 unused) (λ e.
    let old = dead_link t (get_or fs 0 unused) (fresh.dead _ (get_or_in fs 0 unused (omega arith))) 0 (omega arith) in
    let new : link (add_table n t) 0 (get_or fs 0 unused) ≡ get_or fs 1 unused
    = add_new T fresh room 0 0 (omega arith) (omega arith) ∙ ap (λ (k : ℕ). get_or fs k unused) c.1 in
    let low = fresh.inside _ (get_or_in fs 1 unused (omega arith)) in
    let few = T.few in
    let same : unused ≡ get_or fs 1 unused = sym old ∙ e ∙ new in
    omega arith)
op_changes n t m j (Op.sew i d e) a =
    let both = sew_passed n t j i d e a in
    let able = sides_sewable both.0 both.1 in
    let f = (paired_exactly able.left able.right).0 able.paired in
    let own = side_own able.left in
    differs t _ i d (λ q. able.apart (subst (Marked (side n t i d)) (sym able.free_left ∙ q ∙ sew_there able f d own ∙ f.start) own))
op_changes n t m j (Op.unsew i d) a =
    let passed = unsew_passed n t j i d a in
    let on = unsew_side passed in
    differs t _ i d (λ q. passed.sewn (q ∙ unsew_free on d (side_own on)))
op_changes n t m j (Op.remove d) a =
    let passed = layer_passed n t j m d a in
    let B = passed.table in
    let l = passed.lives in
    differs t _ 0 d (λ q.
    let new = (remove_removes passed).gone d 0 (omega arith) (marks_own passed) in
    let low = live_below (map_table B) (link t 0 d) ((rule_at (map_table B) d l).goes 0 (omega arith)) in
    let few = B.few in
    let same : link t 0 d ≡ unused = q ∙ new in
    omega arith)
op_changes n t m j (Op.split d) a =
    let passed = layer_passed n t j m d a.0 in
    let B = passed.table in
    let l = passed.lives in
    let s = sheet n t d in
    let split = split_passed n t j s (ones s) a.1 in
    let given = splits_splitting (record { dart = passed; uncrossed = split.uncrossed; room = split.room }) in
    let i = ones_in s d (sheet_own passed) in
    differs t _ 0 d (λ q. clash ((rule_at (map_table B) d l).goes 0 (omega arith))
    (ap (live t) (q ∙ split_dart_link given d i) ∙ given.vacant.dead _ (new_in (spread given) 0 d (positive n B.dim) i)))
op_changes n t m j (Op.insert w) a = insert_differs (insert_passed n t j w a)
op_changes n t m j (Op.vtk text) a = read_differs (vtk_passed n t j text a).1 (vtk_some n t j text a)

-- ---- an accepted operation leaves a map

pub op_map : (n : ℕ) (o : Outcome) (tag : ℕ) (p : Op) → (do_call n o (Call.op tag p)).number ≡ 0
    → is_map n (do_call n o (Call.op tag p)).table ≡ true
unfolding do_call keeping
op_map n o tag Op.add h = (add_call_lem n o.table o.journal tag h).0
op_map n o tag (Op.sew i d e) h = (sew_call_lem n o.table o.journal tag i d e h).0
op_map n o tag (Op.unsew i d) h = (unsew_call_lem n o.table o.journal tag i d h).0
op_map n o tag (Op.remove d) h = (remove_call_lem n o.table o.marks o.journal tag d h).0
op_map n o tag (Op.split d) h = (split_call_lem n o.table o.marks o.journal tag d h).0
op_map n o tag (Op.insert w) h = (insert_call_lem n o.table w o.journal tag h).0
op_map n o tag (Op.vtk text) h = (vtk_call_lem n o.table o.journal tag text h).0
