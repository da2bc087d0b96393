-- How the call ends. `vtk_read`: what an accepted read gives. `vtk_accepted`: when it is accepted; `vtk_full`: when it is refused by 15.
use Prim.Native.Nat.{ℕ, ◌+◌, ◌*◌, ◌-◌, ◌/◌, ◌%◌, ◌≤◌, ◌<◌}
use mathlib.Core.Path.{◌≡◌, refl, sym, ◌∙◌}
use mathlib.Core.Logic.{◌≢◌, ◌↔◌}
use mathlib.Core.List.{List, []}
use native.Mathlib.Omega.{arith}
use lib.ListN.{length, get_or}
use borrow.Author.Tests.{le-leb, lt-leb}
use Rattle.model.specs.Journal.{cursor, changes_from, record_of}
use Rattle.model.specs.Vtk.{grid_of, rows_in}
use Rattle.model.specs.Table.{link}
use Rattle.model.specs.Faces.{darts, round_at, vtk_table}
use Rattle.model.specs.Checks.{pass, in_order, order_ok, map_checks, grid_checks, vtk_checks}
use Rattle.model.specs.Calls.{refused, commit, vtk_call}
use Rattle.model.specs.Runs.{Op, do_call, keeping, effect}
use Rattle.model.specs.Meaning.Ends.{lent}
use Rattle.model.specs.Meaning.Vtk.{Meets, Readable, Shared, VtkRead}
use Rattle.theorems.proofs.History.Record.{length_record}
use Rattle.theorems.proofs.Calls.Checks.{passed_at}
use Rattle.theorems.proofs.Calls.Ends.{op_accepted}
use Rattle.theorems.proofs.Vtk.Faces.{four_back, face_round, face_four, dart_face}
use Rattle.theorems.proofs.Vtk.Table.{read_live, read_cells, read_sewn, read_free, read_stays, read_map_test, read_block_test}
use Rattle.theorems.proofs.Vtk.Added.{as_by_add}
use Rattle.theorems.proofs.Vtk.Order.{shared_sewn}
use Rattle.theorems.proofs.Vtk.Corners.{read_listed, read_ends, read_vertices}
use Rattle.theorems.proofs.Vtk.Fails.{four_sets}
use Rattle.theorems.proofs.Vtk.Counts.{read_lives, read_changes_lem}
use Rattle.theorems.proofs.Vtk.Passed.{vtk_passed}

-- 192 entries for each cell: the record has 576 words for each, and 3
pub read_words : {t : List ℕ} {rows : List (List ℕ)} → Readable t rows → (tag : ℕ)
    → length (record_of tag (changes_from 0 t (vtk_table t rows))) ≡ 576 * length rows + 3
read_words {t} {rows} R tag =
    let r = length_record tag (changes_from 0 t (vtk_table t rows)) in
    let k = read_changes_lem R in
    omega arith

-- with 23 passed: link 3 of a dart leads away exactly if another cell has a face with the four vertices of its face
read_shared : {t : List ℕ} {rows : List (List ℕ)} → Readable t rows → order_ok rows ≡ pass → (d : ℕ) → d < darts rows
    → (link (vtk_table t rows) 3 d ≢ d) ↔ Shared rows d
unfolding darts round_at
read_shared {t} {rows} R order d h = (to, from)
  where
    meets : (e : ℕ) → Meets rows d e → Shared rows d
    meets e m =
        let row = get_or rows (e / 48) [] in
        let k = e % 48 in
        let low = m.low_other in
        let four = four_back _ _ (face_four row k (omega arith)) in
        record {
          c = e / 48;
          f = face_round row k;
          apart = λ q. m.apart (sym q);
          of_c = (omega arith, dart_face row k (omega arith));
          four = (four_sets _ _).0 (rw m.same four);
        }

    to : link (vtk_table t rows) 3 d ≢ d → Shared rows d
    to away = let e = link (vtk_table t rows) 3 d in meets e ((read_sewn R d e h away).0 refl)

    from : Shared rows d → link (vtk_table t rows) 3 d ≢ d
    from S stays =
        let (e, _, m) = shared_sewn rows order d S.c S.f h S.of_c.0 (λ q. S.apart (sym q)) S.of_c.1
        ((four_sets _ _).1 S.four) in
        (read_free R d h).0 stays e m

module _ (n : ℕ) (t j : List ℕ) (tag : ℕ) (bs : List ℕ) where
  abbrev cells : List (List ℕ)
  cells = rows_in (grid_of bs)

  pub vtk_commits : in_order (vtk_checks n t j (grid_of bs)) ≡ pass
      → vtk_call n t j tag bs ≡ commit t (vtk_table t (rows_in (grid_of bs))) [] j tag 0 (λ cs. darts (rows_in (grid_of bs)))
  unfolding vtk_call
  vtk_commits h = rw (h, vtk_call)

  -- 15: "record longer than the words from cursor to length"
  pub vtk_full : in_order (vtk_checks n t j (grid_of bs)) ≡ pass → length j - cursor j < 576 * length (rows_in (grid_of bs)) + 3
      → vtk_call n t j tag bs ≡ refused 15 0 0 t [] j
  unfolding commit
  vtk_full h short =
      let words = read_words (vtk_passed n t j bs h).1 tag in
      vtk_commits h ∙ rw (lt-leb (length (record_of tag (changes_from 0 t (vtk_table t cells)))) (length j - cursor j) (omega arith), commit)

  pub vtk_accepted : in_order (vtk_checks n t j (grid_of bs)) ≡ pass → 576 * length (rows_in (grid_of bs)) + 3 ≤ length j - cursor j
      → VtkRead t j tag (rows_in (grid_of bs)) (vtk_call n t j tag bs)
  unfolding commit darts vtk_checks map_checks grid_checks
  vtk_accepted h room =
      let R = (vtk_passed n t j bs h).1 in
      let order = passed_at (vtk_checks n t j (grid_of bs)) h 12 in
      let words = read_words R tag in
      let fits = le-leb (length (record_of tag (changes_from 0 t (vtk_table t cells)))) (length j - cursor j) (omega arith) in
      rw (vtk_commits h, fits, commit) (record {
        number = refl;
        place = refl;
        count = refl;
        table = refl;
        journal = refl;
        changes = read_changes_lem R;
        words = words;
        block = (read_map_test R, read_block_test R);
        lives = read_lives R;
        live = read_live R;
        cells = read_cells R;
        listed = λ c k _ h. read_listed cells c k h;
        ends = read_ends R;
        vertices = read_vertices R;
        added = as_by_add R;
        sewn = read_sewn R;
        shared = read_shared R order;
        stays = read_stays R;
      })

  -- an accepted read: "n = 2 is refused by 1"
  pub vtk_read : (vtk_call n t j tag bs).number ≡ 0 → (n ≡ 3) × VtkRead t j tag (rows_in (grid_of bs)) (vtk_call n t j tag bs)
  unfolding do_call keeping effect
  vtk_read h =
      let r = op_accepted n (lent t [] j) tag (Op.vtk bs) h in
      let (solid, R) = vtk_passed n t j bs r.passed in
      let words = read_words R tag in
      let room = r.room in
      (solid, vtk_accepted r.passed (omega arith))
