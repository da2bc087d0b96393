-- pick is sheet, where its queue has the right length (`pick_is_sheet`). What it takes off is what it counts, the size of S
-- (`taken_counted`), and nothing where it is refused (`taken_refused`).
use Prim.Native.Nat.{ℕ}
use mathlib.Core.Path.{◌≡◌, refl}
use mathlib.Core.Logic.{◌≢◌}
use mathlib.Core.List.{List, []}
use lib.ListN.{length}
use borrow.Author.Tests.{eq-eqb}
use Rattle.model.specs.Lists.{count}
use Rattle.model.specs.Table.{slots}
use Rattle.model.specs.Sheet.{sheet}
use Rattle.model.specs.Checks.{Check, pass, refuse, must, and_then, in_order, queue_ok, sheet_checks, pick_checks}
use Rattle.model.specs.Calls.{refused, sheet_call, pick_call, pick_taken}
use Rattle.model.specs.Runs.{Call}
use Rattle.model.specs.Meaning.Ends.{lent, checks_of}
use Rattle.theorems.proofs.Calls.Ends.{call_says}

module _ (n : ℕ) (t m w : List ℕ) (d : ℕ) where
  queue_pass : length w ≡ slots t → queue_ok t w ≡ pass
  unfolding queue_ok must
  queue_pass long = rw (eq-eqb _ _ long)

  pub pick_checks_lem : length w ≡ slots t → in_order (pick_checks n t m w d) ≡ in_order (sheet_checks n t m d)
  unfolding pick_checks sheet_checks in_order and_then
  pick_checks_lem long = rw (queue_pass long)

  -- "its marks and answers equal the first engine's"
  pub pick_is_sheet : length w ≡ slots t → pick_call n t m w d ≡ sheet_call n t m d
  unfolding pick_call sheet_call
  pick_is_sheet long = rw (pick_checks_lem long, pick_call, sheet_call)

  abbrev checked : Check
  checked = in_order (pick_checks n t m w d)

  not_0 : {k p q : ℕ} → checked ≡ refuse k p q → k ≢ 0
  unfolding checks_of
  not_0 {k} {p} {q} e = (call_says n (lent t m []) (Call.pick w d) k p q e).1.not_0

  -- "which equals the sheet's size"
  pub taken_counted : (pick_call n t m w d).number ≡ 0
      → (pick_taken n t m w d ≡ count 1 (sheet n t d)) × ((pick_call n t m w d).count ≡ count 1 (sheet n t d))
  unfolding pick_call pick_taken refused
  taken_counted h = go checked refl
    where
      go : (c : Check) → checked ≡ c → (pick_taken n t m w d ≡ count 1 (sheet n t d)) × ((pick_call n t m w d).count ≡ count 1 (sheet n t d))
      go pass e = rw (e, pick_call, pick_taken) (refl, refl)
      go (refuse k p q) e = absurd (not_0 e (rw (e, pick_call, refused) at h))

  pub taken_refused : (pick_call n t m w d).number ≢ 0 → pick_taken n t m w d ≡ 0
  unfolding pick_call pick_taken refused
  taken_refused h = go checked refl
    where
      go : (c : Check) → checked ≡ c → pick_taken n t m w d ≡ 0
      go pass e = absurd (h (rw (e, pick_call)))
      go (refuse k p q) e = rw (e, pick_taken)
