-- The pass along the two lists that drafts the record: it begins (`draft_none`), comes to an old dart (`draft_dart`,
-- `draft_dart_more`) or to a new one (`draft_new`, `draft_new_more`), and ends (`draft_all`).
use Prim.Native.Nat.{ℕ, ◌+◌, ◌-◌, ◌*◌, ◌≤◌, ◌<◌}
use mathlib.Core.Path.{◌≡◌, refl, sym, ap, subst}
use mathlib.Core.Bool.{Bool}
use mathlib.Core.List.{List}
use native.Mathlib.Omega.{arith}
use lib.ListN.{length, get_or}
use Rattle.model.specs.Table.{slots, link}
use Rattle.model.specs.Journal.{cursor, changes_from}
use Rattle.theorems.proofs.Lists.Scan.{if_eq, if_lt}
use Rattle.drafts.specs.Drafts.{drafted}
use Rattle.drafts.specs.Passes.{Pass}
use Rattle.drafts.proofs.Passes.{pass_start, pass_over, pass_end, pass_length}
use Rattle.new_darts.specs.News.{Made, Makes}
use Rattle.new_darts.specs.Drafting.{Listed, Writing, Drafting, DartsMet, NewMet}
use Rattle.new_darts.proofs.Lists.{spreads, dart_inside, darts_rise, dart_place, new_inside, news_rise, new_place, dart_new}

module _ {n : ℕ} {insert : Bool} {t : List ℕ} {M : Made} {nexts darts fresh places : List ℕ} {size : ℕ} {j : List ℕ}
    (W : Writing n insert t M nexts darts fresh places size j)
  where
    pub draft_none : Drafting n insert t M nexts darts fresh places size j 0 0 (cursor j + 2) j
    draft_none =
        let S = spreads W.makes W.listed in
        let B = S.table in
        record {
          writing = W;
          from = 0;
          inside = omega arith;
          pass = pass_start (sym S.long) B.whole B.few W.fits;
          old = record { within = omega arith; below = λ k h. absurd (omega arith); above = λ k a h. omega arith };
          new = record { within = omega arith; below = λ k h. absurd (omega arith); above = λ k a h. omega arith };
        }

module _ {n : ℕ} {insert : Bool} {t : List ℕ} {M : Made} {nexts darts fresh places : List ℕ} {size : ℕ} {j : List ℕ} {p q at : ℕ} {w : List ℕ}
    (D : Drafting n insert t M nexts darts fresh places size j p q at w)
  where
    abbrev W : Makes n t nexts insert M
    W = D.writing.makes

    abbrev L : Listed n t M darts fresh places size
    L = D.writing.listed

    -- the old darts, and the new ones, that are left are not below y
    abbrev Old : ℕ → Type 0
    Old y = (k : ℕ) → p ≤ k → k < size → y ≤ get_or darts k 0

    abbrev New : ℕ → Type 0
    New y = (k : ℕ) → q ≤ k → k < n * size → y ≤ get_or fresh k 0

    -- then the slots before y stay
    stays : (y : ℕ) → Old y → New y → (z : ℕ) → D.from ≤ z → z < y → (i : ℕ) → i < 4 → link M.table i z ≡ link t i z
    stays y old new z low high i h = (spreads W L).stays z i h
        (λ m.
        let (k, few, is) = new_place W L z m in
        if_lt k q (λ b. let before = D.new.below k b in omega arith) (λ b. let after = new k b few in omega arith))
        (λ _ m.
        let (k, few, is) = dart_place W L z m in
        if_lt k p (λ b. let before = D.old.below k b in omega arith) (λ b. let after = old k b few in omega arith))

    pub draft_length : length w ≡ length j
    draft_length = pass_length D.pass D.inside

    pub draft_same : (q' : ℕ) → q ≡ q' → Drafting n insert t M nexts darts fresh places size j p q' at w
    draft_same q' e = rw e at D

    -- ---- the next is an old dart

    dart_next : p < size → Old (get_or darts p 0)
    dart_next low k on few =
        if_eq k p (λ e. let same = ap (λ (i : ℕ). get_or darts i 0) e in omega arith)
        (λ e. let up = darts_rise W L p k (omega arith) few in omega arith)

    pub draft_dart : p < size → New (get_or darts p 0) → Pass t M.table j (get_or darts p 0) at w
    draft_dart low next =
        let inside = dart_inside W L p low in
        pass_over D.pass (get_or darts p 0) (D.old.above p (omega arith) low) (omega arith)
        (stays (get_or darts p 0) (dart_next low) next)

    pub draft_dart_more : p < size → New (get_or darts p 0) → (at' : ℕ) (w' : List ℕ)
        → Pass t M.table j (get_or darts p 0 + 1) at' w' → Drafting n insert t M nexts darts fresh places size j (p + 1) q at' w'
    draft_dart_more low next at' w' P = record {
      writing = D.writing;
      from = get_or darts p 0 + 1;
      inside = let inside = dart_inside W L p low in omega arith;
      pass = P;
      old = record {
        within = omega arith;
        below = λ k h. if_eq k p (λ e. let same = ap (λ (i : ℕ). get_or darts i 0) e in omega arith)
            (λ e. let up = darts_rise W L k p (omega arith) low in omega arith);
        above = λ k on few. let up = darts_rise W L p k (omega arith) few in omega arith;
      };
      new = record {
        within = D.new.within;
        below = λ k h.
            let before = D.new.below k h in
            let on = D.old.above p (omega arith) low in
            omega arith;
        above = λ k on few.
            let least = next k on few in
            let apart = dart_new W L p k low few in
            if_eq (get_or darts p 0) (get_or fresh k 0) (λ e. absurd (apart e)) (λ e. omega arith);
      };
    }

    -- ---- the next is a new dart

    pub new_next : q < n * size → New (get_or fresh q 0)
    new_next low k on few =
        if_eq k q (λ e. let same = ap (λ (i : ℕ). get_or fresh i 0) e in omega arith)
        (λ e. let up = news_rise W L q k (omega arith) few in omega arith)

    -- where the next old dart is not below it, no other is
    dart_after : (p < size → get_or fresh q 0 ≤ get_or darts p 0) → Old (get_or fresh q 0)
    dart_after next k on few = let least = next (omega arith) in let up = dart_next (omega arith) k on few in omega arith

    pub draft_new : q < n * size → (p < size → get_or fresh q 0 ≤ get_or darts p 0) → Pass t M.table j (get_or fresh q 0) at w
    draft_new low next =
        let inside = new_inside W L q low in
        pass_over D.pass (get_or fresh q 0) (D.new.above q (omega arith) low) (omega arith)
        (stays (get_or fresh q 0) (dart_after next) (new_next low))

    pub draft_new_more : q < n * size → (p < size → get_or fresh q 0 ≤ get_or darts p 0) → (at' : ℕ) (w' : List ℕ)
        → Pass t M.table j (get_or fresh q 0 + 1) at' w' → Drafting n insert t M nexts darts fresh places size j p (q + 1) at' w'
    draft_new_more low next at' w' P = record {
      writing = D.writing;
      from = get_or fresh q 0 + 1;
      inside = let inside = new_inside W L q low in omega arith;
      pass = P;
      old = record {
        within = D.old.within;
        below = λ k h.
            let before = D.old.below k h in
            let on = D.new.above q (omega arith) low in
            omega arith;
        above = λ k on few.
            let least = dart_after next k on few in
            let apart = dart_new W L k q few low in
            if_eq (get_or darts k 0) (get_or fresh q 0) (λ e. absurd (apart e)) (λ e. omega arith);
      };
      new = record {
        within = omega arith;
        below = λ k h. if_eq k q (λ e. let same = ap (λ (i : ℕ). get_or fresh i 0) e in omega arith)
            (λ e. let up = news_rise W L k q (omega arith) low in omega arith);
        above = λ k on few. let up = news_rise W L q k (omega arith) few in omega arith;
      };
    }

    pub new_met : q < n * size → (p < size → get_or fresh q 0 ≤ get_or darts p 0) → (o first : ℕ) → o ≤ p → (at' : ℕ) (w' : List ℕ)
        → Pass t M.table j (get_or fresh q 0 + 1) at' w' → at' ≡ first + (3 * (p - o) + 12)
        → NewMet n insert t M nexts darts fresh places size j o q first p w'
    new_met low next o first on at' w' P word = record { on = on; draft = rw (← word) (draft_new_more low next at' w' P) }

    -- ---- the end

    -- of the old darts below x, from the o-th on, whose first triple is at the word `first`
    pub darts_met : (o first x : ℕ) → o ≤ p → at ≡ first + 3 * (p - o) → (p < size → x ≤ get_or darts p 0)
        → DartsMet n insert t M nexts darts fresh places size j o q first x p w
    darts_met o first x on word next = record { on = on; draft = rw (← word) D; next = next }

    -- where none is left
    pub darts_all : (o first x : ℕ) → o ≤ p → at ≡ first + 3 * (p - o) → size ≤ p
        → DartsMet n insert t M nexts darts fresh places size j o q first x size w
    darts_all o first x on word end =
        let all : p ≡ size = omega (arith, D.old.within) in
        subst (λ r. DartsMet n insert t M nexts darts fresh places size j o q first x r w) all
        (darts_met o first x on word (λ low. absurd (omega arith)))

    pub draft_all : size ≤ p → n * size ≤ q → w ≡ drafted j (changes_from 0 t M.table)
    draft_all old new =
        (pass_end (pass_over D.pass (slots t) D.inside (omega arith)
        (stays (slots t) (λ k on few. absurd (omega arith)) (λ k on few. absurd (omega arith)))) D.writing.rule _ refl).draft
