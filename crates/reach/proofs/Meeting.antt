-- The steps of one dart: what `meet`, `follow` and `follow_below` do, that they only add to what is found (`Later`), that the queue has room
-- for it (`room_meet`), and the loop over the steps (`Going`).
use Prim.Native.Nat.{ℕ, suc, ◌+◌, ◌*◌, ◌≤◌, ◌<◌}
use mathlib.Core.Path.{◌≡◌, refl, sym, ap, ◌∙◌}
use mathlib.Core.Logic.{◌⊎◌, inl, inr, ⊎_elim}
use mathlib.Core.Bool.{Bool, true, false}
use mathlib.Core.List.{List}
use native.Mathlib.Numerals.{add-one}
use native.Mathlib.Omega.{arith}
use lib.ListN.{length, get_or, set, length-set}
use lib.Seq.{get_or-set_same, get_or-set_other}
use borrow.Author.Tests.{eq-eqb, ne_eqb}
use Rattle.model.specs.Lists.{count}
use Rattle.model.specs.Table.{slots, link, live}
use Rattle.model.specs.Meaning.Maps.{MapTable}
use Rattle.theorems.proofs.Lists.Scan.{if_eq, test, count_change}
use Rattle.theorems.proofs.Maps.Rules.{live_in}
use Rattle.theorems.proofs.Maps.Tables.{rule_at}
use Rattle.reach.specs.Search.{Search, search_of, meet, follow, follow_below}
use Rattle.reach.specs.Given.{Linked, Room, Meeting}
use Rattle.reach.proofs.Marks.{Found}

-- the first r words of the queue are the darts that have a mark, and as many
pub record Listed (m q : List ℕ) (r : ℕ) : Type 0 where
  pub number : r + count 0 m ≡ length m
  pub inside : (j : ℕ) → j < r → Found m (get_or q j 0)
  pub all : (x : ℕ) → Found m x → (j : ℕ) × (j < r) × (get_or q j 0 ≡ x)

-- s' is later than s: what is found stays found, and in its place in the queue
pub record Later (s s' : Search) : Type 0 where
  pub wide : length s'.queue ≡ length s.queue
  pub more : s.found ≤ s'.found
  pub stays : (j : ℕ) → j < s.found → get_or s'.queue j 0 ≡ get_or s.queue j 0
  pub keeps : (x : ℕ) → Found s.marks x → Found s'.marks x

pub later_same : (s : Search) → Later s s
later_same s = record { wide = refl; more = omega arith; stays = λ j l. refl; keeps = λ x f. f }

pub later_then : {a b c : Search} → Later a b → Later b c → Later a c
later_then l k = record {
  wide = k.wide ∙ l.wide;
  more = omega arith;
  stays = λ j b. k.stays j (omega arith) ∙ l.stays j b;
  keeps = λ x f. k.keeps x (l.keeps x f);
}

-- ---- one dart met

module _ (y : ℕ) (s : Search) where
  pub meet_new : get_or s.marks y 0 ≡ 0
      → meet y s ≡ search_of (set s.marks y 1) (set s.queue s.found y) (s.found + 1)
  unfolding meet
  meet_new e = rw (eq-eqb (get_or s.marks y 0) 0 e, meet)

  pub meet_old : Found s.marks y → meet y s ≡ s
  unfolding meet
  meet_old e = rw (ne_eqb (get_or s.marks y 0) 0 e, meet)

  pub meet_later : Later s (meet y s)
  meet_later =
      if_eq (get_or s.marks y 0) 0 (λ e. rw (meet_new e) (new e)) (λ e. rw (meet_old e) (later_same s))
    where
      new : get_or s.marks y 0 ≡ 0
          → Later s (search_of (set s.marks y 1) (set s.queue s.found y) (s.found + 1))
      new e = record {
        wide = length-set s.queue s.found y;
        more = omega arith;
        stays = λ j l. get_or-set_other s.queue s.found j y 0 (λ q. omega arith);
        keeps = λ z f.
            rw (get_or-set_other s.marks y z 1 0 (λ q. f (ap (λ (x : ℕ). get_or s.marks x 0) q ∙ e))) f;
      }

module _ (m : List ℕ) (y : ℕ) (l : y < length m) where
  -- a mark more is a 0 less
  count_store : get_or m y 0 ≡ 0 → count 0 m ≡ suc (count 0 (set m y 1))
  count_store e = count_change 0 1 m y 0 l e (λ (q : ◌≡◌ {A = ℕ} 1 0). omega arith)

  store_own : Found (set m y 1) y
  store_own e = let q = get_or-set_same m y 1 0 l in omega arith

  store_keeps : (x : ℕ) → Found m x → Found (set m y 1) x
  store_keeps x f = if_eq x y (λ e. rw e store_own) (λ e. rw (get_or-set_other m y x 1 0 e) f)

  pub store_only : (x : ℕ) → Found (set m y 1) x → (x ≡ y) ⊎ Found m x
  store_only x f = if_eq x y (λ e. inl e) (λ e. inr (rw (get_or-set_other m y x 1 0 e) at f))

  -- a dart without a mark, marked and put behind the queue's words
  module _ (q : List ℕ) (r : ℕ) (e : get_or m y 0 ≡ 0) (b : r < length q) (listed : Listed m q r) where
    before : (j : ℕ) → j < r → get_or (set q r y) j 0 ≡ get_or q j 0
    before j h = get_or-set_other q r j y 0 (λ p. omega arith)

    last : get_or (set q r y) r 0 ≡ y
    last = get_or-set_same q r y 0 b

    pub listed_more : Listed (set m y 1) (set q r y) (r + 1)
    listed_more = record {
      number = let c = count_store e in let n = listed.number in let z = length-set m y 1 in omega arith;
      inside = λ j h. if_eq j r (λ p. rw (p, last) store_own)
          (λ p. rw (before j (omega arith)) (store_keeps _ (listed.inside j (omega arith))));
      all = λ x f. ⊎_elim (λ p. (r, omega arith, last ∙ sym p)) (λ p. old x (listed.all x p)) (store_only x f);
    }
      where
        old : (x : ℕ) → (j : ℕ) × (j < r) × (get_or q j 0 ≡ x) → (j : ℕ) × (j < r + 1) × (get_or (set q r y) j 0 ≡ x)
        old x w = let h : w.0 < r = w.1 in (w.0, omega arith, before w.0 h ∙ w.2)

pub meet_own : (y : ℕ) (s : Search) → y < length s.marks → Found (meet y s).marks y
meet_own y s l =
    if_eq (get_or s.marks y 0) 0 (λ e. rw (meet_new y s e) (store_own s.marks y l)) (λ e. rw (meet_old y s e) e)

-- ---- room in the queue

module _ (size : ℕ) (s : Search) (y : ℕ) (b : y < size) (space : Room size s.marks s.queue s.found) where
  -- for a dart without a mark
  pub room_left : get_or s.marks y 0 ≡ 0 → s.found < length s.queue
  room_left e =
      let c = count_store s.marks y (rw space.long b) e in
      let n = space.number in
      let r = space.room in
      omega arith

  pub meet_asks : size ≤ 65536 → Meeting s.marks s.queue s.found y
  meet_asks few = record { inside = rw space.long b; few = omega arith; space = room_left }

  room_meet : Room size (meet y s).marks (meet y s).queue (meet y s).found
  room_meet = if_eq (get_or s.marks y 0) 0 (λ e. rw (meet_new y s e) (new e)) (λ e. rw (meet_old y s e) space)
    where
      new : get_or s.marks y 0 ≡ 0 → Room size (set s.marks y 1) (set s.queue s.found y) (s.found + 1)
      new e = record {
        long = length-set s.marks y 1 ∙ space.long;
        room = rw length-set space.room;
        number = let c = count_store s.marks y (rw space.long b) e in let n = space.number in omega arith;
      }

-- ---- the links of a live dart

pub linked : {n : ℕ} {t : List ℕ} → MapTable n t → Linked t
linked T = record { fits = T.whole; few = T.few; goes = λ x i l b. (rule_at T x l).goes i b }

module _ (t : List ℕ) (linked : Linked t) (x : ℕ) (h : live t x ≡ true) (i : ℕ) (l : i < 4) where
  pub link_in : link t i x < slots t
  link_in = live_in t (link t i x) linked.fits (linked.goes x i h l)

  pub entry_in : 4 * x + i < length t
  entry_in = let fits = linked.fits in let inside = live_in t x linked.fits h in omega arith

-- ---- the steps

module _ (p : ℕ → Bool) (f : ℕ → ℕ → ℕ) (x : ℕ) (s : Search) (i : ℕ) where
  pub follow_takes : p i ≡ true → follow p f x i s ≡ meet (f i x) s
  unfolding follow
  follow_takes e = rw (e, follow)

  pub follow_skips : p i ≡ false → follow p f x i s ≡ s
  unfolding follow
  follow_skips e = rw (e, follow)

  pub follow_later : Later s (follow p f x i s)
  follow_later = test (p i) (λ e. rw (follow_takes e) (meet_later (f i x) s)) (λ e. rw (follow_skips e) (later_same s))

-- ---- the loop over the steps

-- the steps of x below i, of k, have been followed, from the search a to s
pub record Going (size : ℕ) (p : ℕ → Bool) (f : ℕ → ℕ → ℕ) (k x : ℕ) (a s : Search) (i : ℕ) : Type 0 where
  pub few : i ≤ k
  pub gone : s ≡ follow_below p f x i a
  pub space : Room size s.marks s.queue s.found
  pub wide : length s.queue ≡ length a.queue

pub going_from : {size : ℕ} {p : ℕ → Bool} {f : ℕ → ℕ → ℕ} {k x : ℕ} (a : Search)
    → Room size a.marks a.queue a.found → Going size p f k x a a 0
unfolding follow_below
going_from a space = record { few = omega arith; gone = refl; space = space; wide = refl }

module _ {size : ℕ} {p : ℕ → Bool} {f : ℕ → ℕ → ℕ} {k x : ℕ} {a s : Search} {i : ℕ} (going : Going size p f k x a s i) where
  pub going_on : (s' : Search) → i < k → f i x < size → s' ≡ follow p f x i s → Going size p f k x a s' (i + 1)
  unfolding follow_below
  going_on s' l b q = rw (q, add-one) (record {
    few = l;
    gone = ap (follow p f x i) going.gone;
    space = test (p i)
        (λ e. rw (follow_takes p f x s i e) (room_meet size s (f i x) b going.space))
        (λ e. rw (follow_skips p f x s i e) going.space);
    wide = (follow_later p f x s i).wide ∙ going.wide;
  })

  -- all steps
  pub going_all : k ≤ i → s ≡ follow_below p f x k a
  going_all h = let few = going.few in let e : i ≡ k = omega arith in rw e at going.gone

  pub going_long : Room size a.marks a.queue a.found → length s.marks ≡ length a.marks
  going_long space = going.space.long ∙ sym space.long
