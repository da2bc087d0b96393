-- How many slots and entries a read text fills.
-- Main theorems: `read_lives` ("count: darts added"), `read_changes_lem`, `read_words`; `all_unused` (a table with no live slot).
use Prim.Native.Nat.{ℕ, zero, suc, ◌+◌, ◌*◌, ◌<◌}
use mathlib.Core.Path.{◌≡◌, refl, ap, ap₂, ◌∙◌}
use mathlib.Core.Logic.{inr, ⊎_elim}
use mathlib.Core.Bool.{true, false}
use mathlib.Core.List.{List, ◌∷◌, Memᴰ as In}
use native.Mathlib.Omega.{arith}
use lib.ListN.{length}
use borrow.Author.Tests.{eq-eqb}
use Rattle.model.specs.Lists.{tabulate, tabulate_from, ones_from, how_many}
use Rattle.model.specs.Faces.{darts, vtk_table}
use Rattle.model.specs.Table.{slots, live, live_count, unused_slots}
use Rattle.model.specs.Journal.{changes_from}
use Rattle.model.specs.Meaning.Maps.{MapTable}
use Rattle.model.specs.Meaning.Vtk.{Readable}
use Rattle.theorems.proofs.Lists.Scan.{clash, if_lt, length_tab_from, tab_in, in_tab}
use Rattle.model.specs.Meaning.Slots.{Vacant}
use Rattle.theorems.proofs.Sets.Pigeon.{distinct_tab}
use Rattle.theorems.proofs.Layers.Counts.{how_many_none}
use Rattle.theorems.proofs.Operations.Slots.{Filled, filled_count, filled_only}
use Rattle.theorems.proofs.Vtk.Table.{read_long, read_slots, read_stays, read_live, read_table}

-- ---- a table with no live slot

abbrev self : ℕ → ℕ
self x = x

module _ (f : ℕ → ℕ) (all : (x : ℕ) → f x ≡ 1) where
  ones_all : (k a : ℕ) → ones_from a (tabulate_from k a f) ≡ tabulate_from k a self
  unfolding ones_from tabulate_from
  ones_all zero a = refl
  ones_all (suc k) a = rw (eq-eqb (f a) 1 (all a), ones_from) (ap (λ (l : List ℕ). a ∷ l) (ones_all k (suc a)))

-- all its slots are unused
pub all_unused : (t : List ℕ) → ((d : ℕ) → live t d ≡ false) → unused_slots t ≡ tabulate (slots t) (λ x. x)
unfolding unused_slots tabulate
all_unused t empty = ones_all (λ d. elim (live t d) [ true ↦ 0 | false ↦ 1 ]) (λ d. rw (empty d)) (slots t) 0

none_live : (t : List ℕ) → ((d : ℕ) → live t d ≡ false) → live_count t ≡ 0
unfolding live_count how_many
none_live t empty = ⊎_elim (λ e. e) (λ (x, _, l). absurd (clash l (empty x))) (how_many_none (slots t) (live t))

-- ---- what is filled

module _ {t : List ℕ} {rows : List (List ℕ)} (R : Readable t rows) where
  filled : List ℕ
  filled = tabulate_from (darts rows) 0 self

  filled_in : (x : ℕ) → In x filled → x < darts rows
  unfolding filled
  filled_in x i = let (k, _, h, e) = in_tab self (darts rows) 0 x i in omega arith

  in_filled : (x : ℕ) → x < darts rows → In x filled
  unfolding filled
  in_filled x h = tab_in self (darts rows) 0 x (omega arith) (omega arith)

  read_vacant : Vacant t filled
  unfolding filled
  read_vacant = record {
    once = distinct_tab self (darts rows) 0 (λ k l kl h e. omega arith);
    inside = λ x i. let h = filled_in x i in let room = R.room in omega arith;
    dead = λ x i. R.empty x;
  }

  read_filled : Filled t (vtk_table t rows) filled
  read_filled = record {
    same = read_slots R;
    kept = λ x l. absurd (clash l (R.empty x));
    made = λ x i. (read_live R x).1 (filled_in x i);
    only = λ x l. inr (in_filled x ((read_live R x).0 l));
  }

  empty_table : MapTable 3 t
  empty_table = record {
    dim = (omega arith, omega arith);
    whole = R.whole;
    few = R.few;
    map = record { rule = λ d _ l. absurd (clash l (R.empty d)) };
  }

  filled_long : length filled ≡ 48 * length rows
  unfolding filled darts
  filled_long = length_tab_from self (48 * length rows) 0

  -- "count: darts added"
  pub read_lives : live_count (vtk_table t rows) ≡ 48 * length rows
  read_lives = filled_count read_vacant read_filled ∙ ap₂ ◌+◌ (none_live t R.empty) filled_long ∙ omega arith

  pub read_changes_lem : length (changes_from 0 t (vtk_table t rows)) ≡ 192 * length rows
  read_changes_lem =
      filled_only empty_table (read_table R) (read_long R) read_vacant read_filled
      (λ x j b out. if_lt x (darts rows) (λ h. absurd (out (in_filled x h))) (λ h. read_stays R j x b h))
      ∙ ap (λ (k : ℕ). 4 * k) filled_long ∙ omega arith
