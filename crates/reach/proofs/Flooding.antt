-- A flood: its steps and what it reaches (`Spread`), what holds of marks and queue while it runs (`Flooding`), which darts have gone their
-- steps (`Gone`), that the turn of a dart keeps both (`turned`), and that at the end the darts found are those reached (`ended`).
use Prim.Native.Nat.{ℕ, zero, suc, ◌+◌, ◌≤◌, ◌<◌}
use mathlib.Core.Path.{◌≡◌, refl, sym, ◌∙◌}
use mathlib.Core.Logic.{inr, ⊎_elim, ◌↔◌}
use mathlib.Core.Bool.{Bool, true}
use mathlib.Core.List.{List}
use native.Mathlib.Omega.{arith}
use lib.ListN.{length, get_or, set, replicate, length-set, length-replicate}
use lib.Seq.{get_or-set_same, get_or-set_other}
use Rattle.model.specs.Lists.{count}
use Rattle.model.specs.Meaning.Sets.{Bits, LeastSet, Marked}
use Rattle.theorems.proofs.Lists.Scan.{if_eq, test, clash}
use Rattle.theorems.proofs.Sets.Least.{least_set_unique}
use Rattle.reach.specs.Search.{Search, search_of, meet, follow, follow_below}
use Rattle.reach.specs.Given.{Room}
use Rattle.reach.proofs.Marks.{Found, marked_found, found_marked, count_bits, alone, alone_own, alone_only, alone_bits, alone_count}
use Rattle.reach.proofs.Meeting.{Listed, Later, later_same, later_then, meet_new, meet_old, meet_later, meet_own, store_only, listed_more}
use Rattle.reach.proofs.Meeting.{room_left, follow_takes, follow_skips, follow_later}

-- ---- a flood and its state

-- y is one step away from x: by a step below k that is permitted
pub record Step (p : ℕ → Bool) (f : ℕ → ℕ → ℕ) (k x y : ℕ) : Type 0 where
  pub by : ℕ
  pub low : by < k
  pub permitted : p by ≡ true
  pub leads : y ≡ f by x

-- a flood from d over `size` slots: its steps keep to the slots On, and `reached` is the least set that holds d and is closed under them
pub record Spread (size : ℕ) (p : ℕ → Bool) (f : ℕ → ℕ → ℕ) (k : ℕ) (On : ℕ → Type 0) (d : ℕ) (reached : List ℕ) : Type 1 where
  pub below : (x : ℕ) → On x → x < size
  pub goes : (x i : ℕ) → On x → i < k → p i ≡ true → On (f i x)
  pub start : On d
  pub least : LeastSet size (λ x. x ≡ d) (Step p f k) reached

pub record Flooding (size d : ℕ) (reached : List ℕ) (s : Search) : Type 0 where
  pub long : length s.marks ≡ size
  pub room : size ≤ length s.queue
  pub listed : Listed s.marks s.queue s.found
  pub bits : Bits s.marks
  pub own : Found s.marks d
  pub sound : (x : ℕ) → Found s.marks x → Marked reached x

-- x has gone its steps below k
abbrev Went : (ℕ → Bool) → (ℕ → ℕ → ℕ) → ℕ → ℕ → Search → Type 0
Went p f x k s = (i : ℕ) → i < k → p i ≡ true → Found s.marks (f i x)

-- the queue's darts before head have gone their steps
pub record Gone (p : ℕ → Bool) (f : ℕ → ℕ → ℕ) (k : ℕ) (s : Search) (head : ℕ) : Type 0 where
  pub order : head ≤ s.found
  pub done : (j : ℕ) → j < head → Went p f (get_or s.queue j 0) k s

pub gone_none : (p : ℕ → Bool) (f : ℕ → ℕ → ℕ) (k : ℕ) (s : Search) → Gone p f k s 0
gone_none p f k s = record { order = omega arith; done = λ j l. absurd (omega arith) }

-- the dart at head has gone them too
gone_more : {p : ℕ → Bool} {f : ℕ → ℕ → ℕ} {k : ℕ} {s s' : Search} {head : ℕ} → Later s s' → Gone p f k s head → head < s.found
    → Went p f (get_or s.queue head 0) k s' → Gone p f k s' (head + 1)
gone_more {head = head} later gone h went = record {
  order = let more = later.more in omega arith;
  done = λ j l. if_eq j head (λ e. rw (e, later.stays head h) went)
      (λ e i low b.
      let order = gone.order in
      rw (later.stays j (omega arith)) (later.keeps _ (gone.done j (omega arith) i low b)));
}

module _ {size d : ℕ} {reached : List ℕ} (s : Search) (f : Flooding size d reached s) where
  pub flooding_space : Room size s.marks s.queue s.found
  flooding_space = record { long = f.long; room = f.room; number = f.listed.number ∙ f.long }

  -- the darts found are no more than the slots, and the queue has room for these
  pub flooding_fits : (s.found ≤ size) × (s.found ≤ length s.queue)
  flooding_fits =
      let number = flooding_space.number in
      let room = flooding_space.room in
      (omega arith, omega arith)

module _ {size : ℕ} {p : ℕ → Bool} {f : ℕ → ℕ → ℕ} {k : ℕ} {On : ℕ → Type 0} {d : ℕ} {reached : List ℕ}
    (S : Spread size p f k On d reached) where
  pub reached_on : (x : ℕ) → Marked reached x → On x
  reached_on = S.least.within On (λ x e _. rw e S.start)
      (λ x y _ h s _. rw s.leads (S.goes x s.by h s.low s.permitted))

  reached_goes : (x i : ℕ) → Marked reached x → i < k → p i ≡ true → Marked reached (f i x)
  reached_goes x i h low b = S.least.closed x (f i x) h
      (record { by = i; low = low; permitted = b; leads = refl }) (S.below _ (S.goes x i (reached_on x h) low b))

  abbrev State : Search → Type 0
  State s = Flooding size d reached s

  -- ---- the beginning

  pub start_in : d < size
  start_in = S.below d S.start

  -- d alone has a mark, and is first in the queue
  pub begun : {m q : List ℕ} → m ≡ alone size d → get_or q 0 0 ≡ d → size ≤ length q → State (search_of m q 1)
  begun {m} {q} marks queued room = rw marks (record {
    long = length-set (replicate size 0) d 1 ∙ length-replicate size 0;
    room = room;
    listed = record {
      number = alone_count size d start_in;
      inside = λ j b. let e : j ≡ 0 = omega arith in rw (e, queued) own;
      all = λ x h. (0, omega arith, queued ∙ sym (alone_only size d start_in x h));
    };
    bits = alone_bits size d start_in;
    own = own;
    sound = λ x h. rw (alone_only size d start_in x h) (S.least.holds d refl start_in);
  })
    where
      own : Found (alone size d) d
      own = marked_found (alone size d) d (alone_own size d start_in)

  -- ---- a turn

  module _ (s : Search) (F : State s) where
    -- the darts found are slots that the steps keep to
    pub found_on : (head : ℕ) → head < s.found → On (get_or s.queue head 0)
    found_on head h = reached_on _ (F.sound _ (F.listed.inside head h))

    -- a dart that is reached is met
    meets : (y : ℕ) → Marked reached y → State (meet y s)
    meets y h = if_eq (get_or s.marks y 0) 0 (λ e. rw (meet_new y s e) (new e)) (λ e. rw (meet_old y s e) F)
      where
        b : y < size
        b = S.below y (reached_on y h)

        l : y < length s.marks
        l = rw F.long b

        new : get_or s.marks y 0 ≡ 0 → State (search_of (set s.marks y 1) (set s.queue s.found y) (s.found + 1))
        new e = record {
          long = length-set s.marks y 1 ∙ F.long;
          room = rw length-set F.room;
          listed = listed_more s.marks y l s.queue s.found e (room_left size s y b (flooding_space s F) e) F.listed;
          bits = λ x. if_eq x y (λ q. inr (rw q (get_or-set_same s.marks y 1 0 l)))
              (λ q. rw (get_or-set_other s.marks y x 1 0 q) (F.bits x));
          own = rw (meet_new y s e) at ((meet_later y s).keeps d F.own);
          sound = λ x i. ⊎_elim (λ q. rw q h) (λ q. F.sound x q) (store_only s.marks y l x i);
        }

    -- x has been found, and follows step i
    follows : (x i : ℕ) → i < k → Found s.marks x
        → State (follow p f x i s) × (p i ≡ true → Found (follow p f x i s).marks (f i x))
    follows x i low own = test (p i)
        (λ e.
        let h = F.sound x own in
        let to = S.below _ (S.goes x i (reached_on x h) low e) in
        rw (follow_takes p f x s i e)
        (meets (f i x) (reached_goes x i h low e), λ _. meet_own (f i x) s (rw F.long to)))
        (λ e. rw (follow_skips p f x s i e) (F, λ b. absurd (clash b e)))

  -- x follows its steps below j
  steps_go : (s : Search) (x j : ℕ) → j ≤ k → State s → Found s.marks x
      → State (follow_below p f x j s) × Later s (follow_below p f x j s) × Went p f x j (follow_below p f x j s)
  unfolding follow_below
  steps_go s x zero h F own = (F, later_same s, λ i l. absurd (omega arith))
  steps_go s x (suc j) h F own =
      let (F', later, went) = steps_go s x j (omega arith) F own in
      let (F'', to) = follows (follow_below p f x j s) F' x j (omega arith) (later.keeps x own) in
      let on = follow_later p f x (follow_below p f x j s) j in (
        F'',
        later_then later on,
        λ i l b. if_eq i j (λ e. rw e (to (rw e at b))) (λ e. on.keeps _ (went i (omega arith) b)),
      )

  -- the dart at head has gone its steps
  pub turned : (s : Search) (head : ℕ) → head < s.found → State s → Gone p f k s head
      → State (follow_below p f (get_or s.queue head 0) k s)
      × Gone p f k (follow_below p f (get_or s.queue head 0) k s) (head + 1)
      × (length (follow_below p f (get_or s.queue head 0) k s).queue ≡ length s.queue)
  turned s head h F gone =
      let (F', later, went) = steps_go s (get_or s.queue head 0) k (omega arith) F (F.listed.inside head h) in
      (F', gone_more later gone h went, later.wide)

  -- ---- the end

  pub ended : (s : Search) (head : ℕ) → s.found ≤ head → State s → Gone p f k s head
      → (s.marks ≡ reached) × (s.found ≡ count 1 reached)
  ended s head h F gone = (is, number)
    where
      closed : (x i : ℕ) → Found s.marks x → i < k → p i ≡ true → Found s.marks (f i x)
      closed x i own low b =
          let (j, l, e) = F.listed.all x own in
          rw e at (gone.done j (omega arith) i low b)

      is : s.marks ≡ reached
      is = least_set_unique (record {
        long = F.long;
        bits = F.bits;
        holds = λ x e _. rw e (found_marked s.marks d F.bits F.own);
        closed = λ x y i st _.
            rw st.leads (found_marked s.marks _ F.bits
            (closed x st.by (marked_found s.marks x i) st.low st.permitted));
        within = λ P seed kept x i. S.least.within P seed kept x (F.sound x (marked_found s.marks x i));
      }) S.least

      number : s.found ≡ count 1 reached
      number = rw (← is) (let number = F.listed.number in let all = count_bits s.marks F.bits in omega arith)

-- ---- what is reached, by other words for the steps

-- two kinds of steps that agree on slots which the first keeps to: the least set is the same
pub least_by : {size : ℕ} {Seed : ℕ → Type 0} {A B : ℕ → ℕ → Type 0} {r : List ℕ} (On : ℕ → Type 0)
    → ((x : ℕ) → Seed x → On x) → ((x y : ℕ) → On x → A x y → On y) → ((x y : ℕ) → On x → A x y ↔ B x y)
    → LeastSet size Seed A r → LeastSet size Seed B r
least_by {size} {Seed} {A} {B} {r} On begins goes same L = record {
  long = L.long;
  bits = L.bits;
  holds = L.holds;
  closed = λ x y h b. L.closed x y h ((same x y (on x h)).1 b);
  within = λ P seed kept x h.
      (L.within (λ y. On y × P y) (λ y e l. (begins y e, seed y e l))
      (λ y z l (i, q) a b. (goes y z i a, kept y z l q ((same y z i).0 a) b)) x h).1;
}
  where
    on : (x : ℕ) → Marked r x → On x
    on = L.within On (λ x e _. begins x e) (λ x y _ i a _. goes x y i a)
