-- next(h) found turn by turn: the turn that is at x (`At`) goes on nearer to its end (`at_more`), and ends at a dart of the wall (`at_met`)
-- or at a free side (`at_free`). next of the darts of a list, found one by one (`Found`).
use Prim.Native.Nat.{ℕ, zero, suc, ◌+◌, ◌-◌, ◌*◌, ◌≤◌, ◌<◌}
use mathlib.Core.Path.{◌≡◌, refl, sym, ap, ◌∙◌, subst}
use mathlib.Core.Logic.{◌≢◌, ⊎_elim}
use mathlib.Core.Bool.{true, false}
use mathlib.Core.List.{List}
use native.Mathlib.Omega.{arith}
use lib.ListN.{length, get_or, set}
use lib.Seq.{get_or-set_same, get_or-set_other}
use Rattle.model.specs.Lists.{ones}
use Rattle.model.specs.Table.{slots, link, live}
use Rattle.model.specs.Wall.{turns_on, turn_from, turn_end, next}
use Rattle.model.specs.Meaning.Maps.{MapTable}
use Rattle.model.specs.Meaning.Sets.{Marked}
use Rattle.model.specs.Meaning.Walls.{Drawn}
use Rattle.theorems.proofs.Lists.Scan.{test, if_eq}
use Rattle.theorems.proofs.Sets.Escape.{leave, steps_out, Leaves, leave_stops, step_nearer}
use Rattle.theorems.proofs.Maps.Tables.{map_table, live_below, rule_at}
use Rattle.theorems.proofs.Insert.Turn.{wall_stops, free_stops, stops_at, turn_ends, free_of, met_of, next_free, next_met, next_on}
use Rattle.theorems.proofs.Insert.Wall.{drawn_by}
use Rattle.reach.proofs.Meeting.{linked, entry_in}
use Rattle.walls.specs.Given.{Closed, Nexts}
use Rattle.walls.proofs.Passing.{listed_at}

pub drawn_of : {n : ℕ} {t m : List ℕ} → Closed n t m → Drawn n t m
drawn_of {m = m} C = let D = C.drawing in drawn_by m D.table D.long D.drawn C.enclosed

-- ---- the turn

-- one turn more
abbrev turn : ℕ → List ℕ → ℕ → ℕ
turn n t x = link t (n - 1) (link t n x)

from_leaves : (n : ℕ) (t m : List ℕ) (fuel x : ℕ) → turn_from n t m fuel x ≡ leave (turns_on n t m) (turn n t) fuel x
unfolding turn_from leave
from_leaves n t m zero x = refl
from_leaves n t m (suc fuel) x =
    let rec = from_leaves n t m fuel (turn n t x) in
    test (turns_on n t m x) (λ e. rw (e, turn_from, leave) rec) (λ e. rw (e, turn_from, leave))

-- how many turns are left from x
abbrev pub turns_left : ℕ → List ℕ → List ℕ → ℕ → ℕ
turns_left n t m x = steps_out (turns_on n t m) (turn n t) (slots t) x

-- the turn from h is at x
pub record At (n : ℕ) (t m : List ℕ) (h x : ℕ) : Type 0 where
  pub lives : live t x ≡ true
  pub ends : leave (turns_on n t m) (turn n t) (slots t) x ≡ turn_end n t m h

module _ {n : ℕ} {t m : List ℕ} (C : Closed n t m) where
  abbrev D : Drawn n t m
  D = drawn_of C

  abbrev T : MapTable n t
  T = map_table C.drawing.table

  top : (n - 1 < 4) × (n < 4)
  top = let dim = T.dim in (omega arith, omega arith)

  pub live_entry : (x j : ℕ) → live t x ≡ true → j < 4 → 4 * x + j < length t
  live_entry x j l low = entry_in t (linked T) x l j low

  pub over_lives : (x : ℕ) → live t x ≡ true → live t (link t n x) ≡ true
  over_lives x l = (rule_at T x l).goes n top.1

  pub at_in : {h x : ℕ} → At n t m h x → x < length m
  at_in {x = x} A = rw C.drawing.long (live_below T x A.lives)

  pub at_first : (h : ℕ) → Marked m h → At n t m h (link t (n - 1) h)
  unfolding turn_end
  at_first h i = record {
    lives = (rule_at T h (D.lives h i)).goes (n - 1) top.0;
    ends = sym (from_leaves n t m (slots t) (link t (n - 1) h));
  }

  module _ {h x : ℕ} (i : Marked m h) (A : At n t m h x) where
    leaves : Leaves (turns_on n t m) (turn n t) (slots t) x
    leaves = ap (turns_on n t m) A.ends ∙ turn_ends D h i

    stops : turns_on n t m x ≡ false → turn_end n t m h ≡ x
    stops e = sym A.ends ∙ leave_stops (turns_on n t m) (turn n t) (slots t) x e

    -- at a dart of the wall
    pub at_met : Marked m x → x ≡ next n t m h
    at_met k =
        let end = stops (wall_stops n t m x k) in
        sym (next_met D h (met_of D h (subst (Marked m) (sym end) k)) ∙ end)

    -- at a free side
    pub at_free : (Marked m x → ⊥) → link t n x ≡ x → h ≡ next n t m h
    at_free out free =
        let end = stops (free_stops n t m x free) in
        sym (next_free D h (free_of D h (λ k. out (subst (Marked m) end k))))

    -- or it goes on
    pub at_more : (Marked m x → ⊥) → link t n x ≢ x
        → At n t m h (turn n t x) × (turns_left n t m (turn n t x) < turns_left n t m x)
    at_more out sewn =
        let on : turns_on n t m x ≡ true
        = test (turns_on n t m x) (λ e. e) (λ e. absurd (⊎_elim out sewn (stops_at n t m x e))) in
        let near = step_nearer (turns_on n t m) (turn n t) (slots t) x leaves on in (
          record {
            lives = (rule_at T _ (over_lives x A.lives)).goes (n - 1) top.0;
            ends = near.same ∙ A.ends;
          },
          near.fewer,
        )

-- ---- next of the darts of a list

-- nx has next of the first k darts of hs
pub record Found (n : ℕ) (t m hs nx : List ℕ) (k : ℕ) : Type 0 where
  pub each : (j : ℕ) → j < k → get_or nx (get_or hs j 0) 0 ≡ next n t m (get_or hs j 0)

pub found_none : (n : ℕ) (t m hs nx : List ℕ) → Found n t m hs nx 0
found_none n t m hs nx = record { each = λ j h. absurd (omega arith) }

pub found_more : {n : ℕ} {t m hs nx : List ℕ} {k : ℕ} → Found n t m hs nx k → (h z : ℕ) → h ≡ get_or hs k 0 → h < length nx
    → z ≡ next n t m h → Found n t m hs (set nx h z) (k + 1)
found_more {n} {t} {m} {hs} {nx} {k} F h z at room is = record {
  each = λ j low. if_eq (get_or hs j 0) h
      (λ e. rw e (get_or-set_same nx h z 0 room ∙ is))
      (λ e. get_or-set_other nx h (get_or hs j 0) z 0 e ∙ F.each j (if_eq j k
      (λ q. absurd (e (ap (λ (l : ℕ). get_or hs l 0) q ∙ sym at))) (λ q. omega arith)));
}

pub found_all : {n : ℕ} {t m hs nx : List ℕ} {k : ℕ} → Closed n t m → hs ≡ ones m → Found n t m hs nx k → length hs ≤ k
    → slots t ≤ length nx → Nexts n t m nx
found_all {n} {t} {m} {hs} {nx} C L F end room = record {
  closed = C;
  room = room;
  next = λ h i. let (j, low, at) = listed_at m hs L h i in subst (λ (x : ℕ). get_or nx x 0 ≡ next n t m x) at (F.each j (omega arith));
}

-- next of a dart is a slot
pub next_in : {n : ℕ} {t m : List ℕ} → Closed n t m → (h : ℕ) → Marked m h → next n t m h < slots t
next_in {n} {t} {m} C h i = let D = drawn_of C in live_below (map_table C.drawing.table) _ (D.lives _ (next_on D h i))
