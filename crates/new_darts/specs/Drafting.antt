-- The record of split and insert: what it is written from (`Listed`, `Writing`), and the pass along two rising lists that drafts it
-- (`Drafting`).
use Rattle.std.specs.Prelude.{ℕ, ◌+◌, ◌-◌, ◌*◌, ◌≤◌, ◌<◌, ◌≡◌, Bool, List, length, get_or, take}
use Rattle.model.specs.Table.{slots}
use Rattle.model.specs.Meaning.Numbers.{JournalRule}
use Rattle.drafts.specs.Passes.{Room, Pass}
use Rattle.new_darts.specs.News.{Made, Makes}

-- the first `size` darts are the old ones, rising; the first n * size words of `fresh` are the new slots; `places` has for the k-th dart
-- the place of its first new dart
pub record Listed (n : ℕ) (t : List ℕ) (M : Made) (darts fresh places : List ℕ) (size : ℕ) : Type 0 where
  pub number : size ≡ length M.olds
  pub old : take size darts ≡ M.olds
  pub new : take (n * size) fresh ≡ M.news
  pub place : (k : ℕ) → k < size → get_or places (get_or darts k 0) 0 ≡ n * k
  pub long : size ≤ length darts
  pub room : n * size ≤ length fresh
  pub wide : slots t ≤ length places

-- insert or split makes it, and the record has room in j
pub record Writing (n : ℕ) (insert : Bool) (t : List ℕ) (M : Made) (nexts darts fresh places : List ℕ) (size : ℕ) (j : List ℕ) : Type 0 where
  pub makes : Makes n t nexts insert M
  pub listed : Listed n t M darts fresh places size
  pub rule : JournalRule j
  pub fits : Room t M.table j

pub record SomeWriting (n : ℕ) (insert : Bool) (t nexts darts fresh places : List ℕ) (size : ℕ) (j : List ℕ) : Type 0 where
  pub made : Made
  pub is : Writing n insert t made nexts darts fresh places size j

-- ---- the pass

-- of the first `size` words the first p are below x, and no other is
pub record Parted (size : ℕ) (words : List ℕ) (p x : ℕ) : Type 0 where
  pub within : p ≤ size
  pub below : (k : ℕ) → k < p → get_or words k 0 < x
  pub above : (k : ℕ) → p ≤ k → k < size → x ≤ get_or words k 0

-- it has met p old darts and q new ones, and its next triple is at the word `at`
pub record Drafting (n : ℕ) (insert : Bool) (t : List ℕ) (M : Made) (nexts darts fresh places : List ℕ) (size : ℕ) (j : List ℕ)
    (p q at : ℕ) (w : List ℕ)
    : Type 0
  where
    pub writing : Writing n insert t M nexts darts fresh places size j
    pub from : ℕ
    pub inside : from ≤ slots t
    pub pass : Pass t M.table j from at w
    pub old : Parted size darts p from
    pub new : Parted (n * size) fresh q from

-- some such pass comes to the slots below x, which is no further than the next new dart
pub record ToDarts (n : ℕ) (insert : Bool) (t darts fresh places : List ℕ) (size p at x : ℕ) (w : List ℕ) : Type 0 where
  pub made : Made
  pub nexts : List ℕ
  pub j : List ℕ
  pub q : ℕ
  pub draft : Drafting n insert t made nexts darts fresh places size j p q at w
  pub next : (k : ℕ) → q ≤ k → k < n * size → x ≤ get_or fresh k 0

-- the old darts below x are met: r are behind the pass
pub record DartsMet (n : ℕ) (insert : Bool) (t : List ℕ) (M : Made) (nexts darts fresh places : List ℕ) (size : ℕ) (j : List ℕ)
    (p q at x r : ℕ) (w : List ℕ)
    : Type 0
  where
    pub on : p ≤ r
    pub draft : Drafting n insert t M nexts darts fresh places size j r q (at + 3 * (r - p)) w
    pub next : r < size → x ≤ get_or darts r 0

-- some such pass comes to the new dart of the i-th dart with the role r
pub record ToNew (n : ℕ) (insert : Bool) (t nexts darts fresh places : List ℕ) (size p at i r : ℕ) (w : List ℕ) : Type 0 where
  pub made : Made
  pub j : List ℕ
  pub draft : Drafting n insert t made nexts darts fresh places size j p (n * i + r) at w
  pub dart : i < size
  pub role : r < n

-- the new dart is met, and before it r old ones
pub record NewMet (n : ℕ) (insert : Bool) (t : List ℕ) (M : Made) (nexts darts fresh places : List ℕ) (size : ℕ) (j : List ℕ)
    (p q at r : ℕ) (w : List ℕ)
    : Type 0
  where
    pub on : p ≤ r
    pub draft : Drafting n insert t M nexts darts fresh places size j r (q + 1) (at + (3 * (r - p) + 12)) w
