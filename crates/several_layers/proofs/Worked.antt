-- What the theorems ask of layers can be met: no two of T's three layers share a cell (`three_parted`), and the calls that remove the first
-- two are accepted in either order (`first_then_middle`, `middle_then_first`), so they leave one table (`either_order`).
use Prim.Native.Nat.{ℕ}
use mathlib.Core.Path.{◌≡◌, refl}
use mathlib.Core.Bool.{true, ◌&&◌}
use mathlib.Core.List.Memᴰ.{head as here}
use mathlib.Core.List.{List, [], ◌∷◌}
use lib.ListN.{replicate}
use borrow.Author.Tests.{not-true}
use Rattle.model.specs.Lists.{all_of}
use Rattle.model.specs.Table.{slots, live}
use Rattle.model.specs.Calls.{Outcome, remove_call}
use Rattle.model.specs.Everything.{everything}
use Rattle.model.specs.Meaning.Maps.{BlockTable}
use Rattle.model.specs.Meaning.Sheets.{BlockDart, marks_of}
use Rattle.theorems.proofs.Lists.Scan.{if_lt, clash, and_l, and_r, and_i, below_at}
use Rattle.theorems.proofs.Lists.Ones.{each_at}
use Rattle.theorems.proofs.Layers.Marks.{sheet_layer}
use Rattle.several_layers.specs.Removals.{ShareNoCell, Parted, lone, with, RemovedInTurn, finished, accepted}
use Rattle.several_layers.specs.Worked.{apart, parted, three_quads}
use Rattle.several_layers.proofs.Joined.{unmarked_past}
use Rattle.several_layers.proofs.Apart.{share_exactly}
use Rattle.several_layers.proofs.Calls.{remove_dart, remove_calls_order}
use Rattle.several_layers.proofs.Several.{parted_live}

-- ---- what the tests of the worked cases say

apart_shares : {n : ℕ} {t : List ℕ} {d e : ℕ} → BlockDart n t d → BlockDart n t e → apart n t d e ≡ true → ShareNoCell n t d e
unfolding apart
apart_shares {n} {t} {d} {e} D E h = (share_exactly D E).1 (λ x p q. if_lt x (slots t)
    (λ l. clash (and_i p q) (not-true _ (below_at _ (slots t) h x l)))
    (λ l. clash p (unmarked_past (marks_of n t d) x (rw (sheet_layer D).long l))))

parted_by : {n : ℕ} {t : List ℕ} → BlockTable n t → (ds : List ℕ) → parted n t ds ≡ true → Parted n t ds
unfolding parted
parted_by B [] h = lone
parted_by {n} {t} B (d ∷ ds) h =
    let first = and_l (live t d && all_of (apart n t d) ds) _ h in
    let rest = parted_by B ds (and_r (live t d && all_of (apart n t d) ds) _ h) in
    let D : BlockDart n t d = record { table = B; lives = and_l (live t d) _ first } in
    with D.lives
    (λ e i. apart_shares D (record { table = B; lives = parted_live B rest e i }) (each_at (apart n t d) ds (and_r (live t d) _ first) e i))
    rest

-- ---- removals of T's layers, with marks that are 0, a fresh journal and the tag 0

abbrev unread : List ℕ
unread = replicate 24 0

abbrev fresh : List ℕ
fresh = 2 ∷ 2 ∷ replicate 200 0

unfoldable pub removal : List ℕ → ℕ → Outcome
removal t d = remove_call 2 t unread fresh 0 d

first_accepted : (removal three_quads 0).number ≡ 0
unfolding everything three_quads removal
first_accepted = refl

middle_accepted : (removal three_quads 8).number ≡ 0
unfolding everything three_quads removal
middle_accepted = refl

then_middle_accepted : (removal (removal three_quads 0).table 8).number ≡ 0
unfolding everything three_quads removal
then_middle_accepted = refl

then_first_accepted : (removal (removal three_quads 8).table 0).number ≡ 0
unfolding everything three_quads removal
then_first_accepted = refl

first_then_middle : RemovedInTurn 2 three_quads (0 ∷ 8 ∷ []) (removal (removal three_quads 0).table 8).table
unfolding removal
first_then_middle = accepted unread fresh 0 first_accepted (accepted unread fresh 0 then_middle_accepted (finished refl))

middle_then_first : RemovedInTurn 2 three_quads (8 ∷ 0 ∷ []) (removal (removal three_quads 8).table 0).table
unfolding removal
middle_then_first = accepted unread fresh 0 middle_accepted (accepted unread fresh 0 then_first_accepted (finished refl))

-- ---- T's layers

block : BlockTable 2 three_quads
unfolding removal
block = (remove_dart 2 three_quads unread fresh 0 0 first_accepted).table

three_tested : parted 2 three_quads (0 ∷ 8 ∷ 16 ∷ []) ≡ true
unfolding everything three_quads apart parted
three_tested = refl

pub three_parted : Parted 2 three_quads (0 ∷ 8 ∷ 16 ∷ [])
three_parted = parted_by block (0 ∷ 8 ∷ 16 ∷ []) three_tested

pub either_order : (removal (removal three_quads 0).table 8).table ≡ (removal (removal three_quads 8).table 0).table
either_order = remove_calls_order (share three_parted) first_then_middle middle_then_first
  where
    share : Parted 2 three_quads (0 ∷ 8 ∷ 16 ∷ []) → ShareNoCell 2 three_quads 0 8
    share (with l o rest) = o 8 (here refl)
