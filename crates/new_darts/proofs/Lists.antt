-- The lists that the record is written from: the k-th old dart (`dart_in`), its new darts (`news`, `new_dart_at`), and how the slots of both
-- change (`dart_link`, `new_links_change`).
use Prim.Native.Nat.{ℕ, ◌+◌, ◌-◌, ◌*◌, ◌≤◌, ◌<◌}
use mathlib.Core.Path.{◌≡◌, sym, ap, ◌∙◌}
use mathlib.Core.Logic.{◌≢◌}
use mathlib.Core.Bool.{Bool, true, false}
use mathlib.Core.List.{List, Memᴰ as In}
use native.Mathlib.Omega.{arith}
use lib.ListN.{get_or, replicate, get_or-replicate}
use Rattle.model.specs.Lists.{index_of}
use Rattle.model.specs.Table.{unused, slots, link, live}
use Rattle.model.specs.NewDarts.{new_dart}
use Rattle.model.specs.Meaning.Maps.{BlockTable, Dim}
use Rattle.theorems.proofs.Lists.Scan.{clash}
use Rattle.theorems.proofs.Lists.Ones.{index_in, get_or_index}
use Rattle.theorems.proofs.Maps.Rules.{dead_link}
use Rattle.theorems.proofs.Maps.Tables.{map_table, live_below, rule_at}
use Rattle.theorems.proofs.Maps.Dim.{two_cases}
use Rattle.theorems.proofs.Layers.NewDarts.{slot_low}
use Rattle.drafts.specs.Passes.{OneLink, FourLinks}
use Rattle.new_darts.specs.News.{Made, Makes, changed_link, News, NewLinks}
use Rattle.new_darts.specs.Roles.{Role}
use Rattle.new_darts.specs.Drafting.{Listed}
use Rattle.new_darts.proofs.Spreads.{Spread, spread}
use Rattle.new_darts.proofs.Fronts.{Front, word_at, word_in, words_rise, words_above, word_place}

module _ {n : ℕ} {insert : Bool} {t : List ℕ} {M : Made} {nexts darts fresh places : List ℕ} {size : ℕ} (makes : Makes n t nexts insert M)
    (L : Listed n t M darts fresh places size)
  where
    pub spreads : Spread n t (changed_link n insert) M
    spreads = spread makes

    abbrev B : BlockTable n t
    B = spreads.table

    abbrev dim : Dim n
    dim = B.dim

    abbrev u : List ℕ
    u = M.table

    old_front : Front size darts M.olds
    old_front = record { front = L.old; long = L.long; up = spreads.rising }

    new_front : Front (n * size) fresh M.news
    new_front = record { front = L.new; long = L.room; up = spreads.lowest.rising }

    -- ---- the old darts

    pub dart_in : (k : ℕ) → k < size → In (get_or darts k 0) M.olds
    dart_in = word_in old_front

    pub dart_live : (k : ℕ) → k < size → live t (get_or darts k 0) ≡ true
    dart_live k low = spreads.lives _ (dart_in k low)

    pub dart_inside : (k : ℕ) → k < size → get_or darts k 0 < slots t
    dart_inside k low = live_below (map_table B) _ (dart_live k low)

    pub darts_rise : (k j : ℕ) → k < j → j < size → get_or darts k 0 < get_or darts j 0
    darts_rise = words_rise old_front

    pub dart_place : (x : ℕ) → In x M.olds → (k : ℕ) × (k < size) × (get_or darts k 0 ≡ x)
    dart_place = word_place old_front

    -- ---- the new darts

    pub new_in : (k : ℕ) → k < n * size → In (get_or fresh k 0) M.news
    new_in = word_in new_front

    pub new_dead : (k : ℕ) → k < n * size → live t (get_or fresh k 0) ≡ false
    new_dead k low = spreads.lowest.vacant.dead _ (new_in k low)

    pub new_inside : (k : ℕ) → k < n * size → get_or fresh k 0 < slots t
    new_inside k low = spreads.lowest.vacant.inside _ (new_in k low)

    pub news_rise : (k j : ℕ) → k < j → j < n * size → get_or fresh k 0 < get_or fresh j 0
    news_rise = words_rise new_front

    pub new_place : (x : ℕ) → In x M.news → (k : ℕ) × (k < n * size) × (get_or fresh k 0 ≡ x)
    new_place = word_place new_front

    -- an old dart is none of them
    pub dart_new : (k l : ℕ) → k < size → l < n * size → get_or darts k 0 ≢ get_or fresh l 0
    dart_new k l low few e = clash (dart_live k low) (ap (live t) e ∙ new_dead l few)

    -- the place of a dart, and of its first new dart
    pub place_of_lem : (g : ℕ) → In g M.olds → (index_of g M.olds < size) × (get_or places g 0 ≡ n * index_of g M.olds)
    place_of_lem g i =
        let k = index_of g M.olds in
        let low = index_in M.olds g i in
        let number = L.number in
        let at : get_or darts k 0 ≡ g = word_at old_front k 0 (omega arith) ∙ get_or_index M.olds g 0 i in
        (omega arith, ap (λ (y : ℕ). get_or places y 0) (sym at) ∙ L.place k (omega arith))

    pub news : News n t M.olds M.news fresh places
    unfolding new_dart
    news = record {
      wide = L.wide;
      inside = λ g i.
          let (low, at) = place_of_lem g i in
          let two = dim.0 in
          let last = slot_low n dim (index_of g M.olds) size (n - 1) low (omega arith) in
          let room = L.room in
          omega arith;
      new = λ r g b i.
          let (low, at) = place_of_lem g i in
          let few = slot_low n dim (index_of g M.olds) size r low b in
          ap (λ (k : ℕ). get_or fresh (k + r) 0) at
          ∙ word_at new_front (n * index_of g M.olds + r) unused few;
    }

    -- the new dart r of the i-th dart
    pub new_dart_at : (i r : ℕ) → i < size → r < n → get_or fresh (n * i + r) 0 ≡ new_dart n M.olds M.news r (get_or darts i 0)
    new_dart_at i r low b =
        ap (λ (k : ℕ). get_or fresh (k + r) 0) (sym (L.place i low)) ∙ news.new r (get_or darts i 0) b (dart_in i low)

    pub new_few : (i r : ℕ) → i < size → r < n → (n * i + r < n * size) × (n * size ≤ 196608)
    new_few i r low b =
        let rises = words_above old_front (size - 1) (omega arith) in
        let inside = dart_inside (size - 1) (omega arith) in
        let few = B.few in
        (slot_low n dim i size r low b, two_cases n dim (λ n. n * size ≤ 196608) (omega arith) (omega arith))

    -- behind the last role of a dart the first of the next one
    pub new_next_dart : (i r : ℕ) → r ≡ n → n * i + r ≡ n * (i + 1)
    new_next_dart = two_cases n dim (λ n. (i r : ℕ) → r ≡ n → n * i + r ≡ n * (i + 1))
        (λ i r e. omega arith) (λ i r e. omega arith)

    pub role_at : (i r : ℕ) → i < size → r < n → Role n insert t M fresh places nexts r (get_or darts i 0)
    role_at i r low b = record { makes = makes; news = news; low = b; dart = dart_in i low }

    -- ---- the changes

    -- of the k-th dart the link that leads to its first new one
    pub dart_link : (k : ℕ) → k < size → {i old new : ℕ} → i ≡ changed_link n insert → old ≡ link t i (get_or darts k 0)
        → new ≡ new_dart n M.olds M.news 0 (get_or darts k 0) → OneLink t u (get_or darts k 0) i old new
    dart_link k low is before after = rw is (change (rw is at before) after)
      where
        change : {old new : ℕ} → old ≡ link t (changed_link n insert) (get_or darts k 0)
            → new ≡ new_dart n M.olds M.news 0 (get_or darts k 0) → OneLink t u (get_or darts k 0) (changed_link n insert) old new
        change before after = record {
          inside = dart_inside k low;
          index = spreads.index;
          before = before;
          after = after ∙ sym (spreads.first g (dart_in k low));
          differ = λ e.
              let lives = (rule_at (map_table B) g (dart_live k low)).goes (changed_link n insert) spreads.index in
              let two = dim.0 in
              let few = slot_low n dim k size 0 low (omega arith) in
              let dead = ap (live t) (sym (new_dart_at k 0 low (omega arith))) ∙ new_dead (n * k + 0) few in
              clash lives (ap (live t) (sym before ∙ e ∙ after) ∙ dead);
          others = λ j h other. spreads.stays g j h
              (λ i. clash (dart_live k low) (spreads.lowest.vacant.dead g i)) (λ z _. other z);
        }
          where
            g : ℕ
            g = get_or darts k 0

    -- a new dart has four links, where it had none
    pub new_links_change : (i r : ℕ) → i < size → r < n → (links : List ℕ)
        → NewLinks u (new_dart n M.olds M.news r (get_or darts i 0)) links
        → FourLinks t u (get_or fresh (n * i + r) 0) (replicate 4 unused) links
    new_links_change i r low b links is = record {
      inside = new_inside q few;
      before = λ j h. get_or-replicate 4 j unused 0 h ∙ sym (dead_link t (get_or fresh q 0) (new_dead q few) j h);
      after = after;
      differ = λ j h e.
          let U = spreads.after in
          let lives = (rule_at (map_table U) (get_or fresh q 0) (spreads.filled _ (new_in q few))).goes j h in
          let inside = live_below (map_table U) _ lives in
          let most = U.few in
          let is = after j h in
          let old = get_or-replicate 4 j unused 0 h in
          omega arith;
    }
      where
        q : ℕ
        q = n * i + r

        few : q < n * size
        few = slot_low n dim i size r low b

        after : (j : ℕ) → j < 4 → get_or links j 0 ≡ link u j (get_or fresh q 0)
        after j h = is j h ∙ ap (link u j) (sym (new_dart_at i r low b))
