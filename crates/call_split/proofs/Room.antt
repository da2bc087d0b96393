-- Where split passes its checks, the darts of S and the new ones are few: `split_room`. n copies of S are live: S, its links 1, and for
-- n = 3 the links 2 of these.
use Prim.Native.Nat.{ℕ, ◌+◌, ◌*◌, ◌≤◌}
use mathlib.Core.Path.{◌≡◌, sym, ap, ◌∙◌}
use mathlib.Core.Logic.{⊎_elim}
use mathlib.Core.Bool.{true}
use mathlib.Core.List.Memᴰ.{append_cases as in-append}
use mathlib.Core.List.Memᴰ.{cast as in-cast}
use mathlib.Core.List.{List, ◌++◌, Memᴰ as In}
use native.Mathlib.Omega.{arith}
use lib.ListN.{length, get_or, length-append}
use Rattle.model.specs.Lists.{ones, tabulate_from}
use Rattle.model.specs.Table.{slots, link, live, walk}
use Rattle.model.specs.Cell.{cell_of}
use Rattle.model.specs.Sheet.{sheet}
use Rattle.model.specs.NewDarts.{slots_for}
use Rattle.model.specs.Meaning.Lists.{Distinct}
use Rattle.model.specs.Meaning.Maps.{BlockTable, Rule}
use Rattle.model.specs.Meaning.Splits.{Splits, Splitting}
use Rattle.theorems.proofs.Lists.Scan.{length_tab_from, in_tab}
use Rattle.theorems.proofs.Lists.Ones.{get_or_in}
use Rattle.theorems.proofs.Sets.Pigeon.{distinct_append, distinct_tab}
use Rattle.theorems.proofs.Maps.Dim.{dim_cases}
use Rattle.theorems.proofs.Maps.Tables.{map_table, rule_at}
use Rattle.theorems.proofs.Operations.Slots.{rising_at, vacant_room}
use Rattle.theorems.proofs.Cells.Cell.{good_cell_lem, cell_own}
use Rattle.theorems.proofs.Layers.Splitting.{splits_splitting}
use Rattle.theorems.proofs.Layers.Split.{darts_rising}

module _ {n : ℕ} {t : List ℕ} {d : ℕ} (s : Splits n t d) where
  abbrev gs : List ℕ
  gs = ones (sheet n t d)

  abbrev fs : List ℕ
  fs = slots_for n t gs

  abbrev B : BlockTable n t
  B = s.dart.table

  given : Splitting n t gs fs
  given = splits_splitting s

  rule : (x : ℕ) → live t x ≡ true → Rule n t x
  rule x l = rule_at (map_table B) x l

  -- ---- copies of S, by a map that is one-to-one

  copy : (ℕ → ℕ) → List ℕ
  copy f = tabulate_from (length gs) 0 (λ k. f (get_or gs k 0))

  module _ (f : ℕ → ℕ) where
    copy_size : length (copy f) ≡ length gs
    unfolding copy
    copy_size = length_tab_from (λ k. f (get_or gs k 0)) (length gs) 0

    copy_of : (x : ℕ) → In x (copy f) → (g : ℕ) × In g gs × (x ≡ f g)
    unfolding copy
    copy_of x i =
        let (k, _, low, at) = in_tab (λ k. f (get_or gs k 0)) (length gs) 0 x i in
        (get_or gs k 0, get_or_in gs k 0 (omega arith), at)

    copy_distinct : ((g h : ℕ) → In g gs → In h gs → f g ≡ f h → g ≡ h) → Distinct (copy f)
    unfolding copy
    copy_distinct one = distinct_tab (λ k. f (get_or gs k 0)) (length gs) 0 (λ k l kl low e.
        let same = one (get_or gs k 0) (get_or gs l 0) (get_or_in gs k 0 (omega arith)) (get_or_in gs l 0 (omega arith)) e in
        let up = rising_at (darts_rising n t d) k l 0 kl (omega arith) in
        omega arith)

  -- ---- the links 1 of S

  lives : (g : ℕ) → In g gs → live t g ≡ true
  lives g i = given.sheet.lives g i

  next : ℕ → ℕ
  next g = link t 1 g

  next_lives : (g : ℕ) → In g gs → live t (link t 1 g) ≡ true
  next_lives g i = (rule g (lives g i)).goes 1 (omega arith)

  next_one : (g h : ℕ) → In g gs → In h gs → next g ≡ next h → g ≡ h
  unfolding next
  next_one g h i j e = sym ((rule g (lives g i)).comes 1 (omega arith)) ∙ ap (link t 1) e ∙ (rule h (lives h j)).comes 1 (omega arith)

  two : List ℕ
  two = copy (λ g. g) ++ copy next

  two_distinct : Distinct two
  unfolding two next
  two_distinct = distinct_append (copy (λ g. g)) (copy next) (copy_distinct (λ g. g) (λ g h i j e. e)) (copy_distinct next next_one)
      (λ x i j.
      let (g, in_g, at_g) = copy_of (λ g. g) x i in
      let (h, in_h, at_h) = copy_of next x j in
      given.uncrossed h in_h (in-cast (sym at_h ∙ at_g) in_g))

  two_lives : (x : ℕ) → In x two → live t x ≡ true
  unfolding two next
  two_lives x i = ⊎_elim
      (λ j. let (g, in_g, at) = copy_of (λ g. g) x j in ap (live t) at ∙ lives g in_g)
      (λ j. let (g, in_g, at) = copy_of next x j in ap (live t) at ∙ next_lives g in_g) (in-append (copy (λ g. g)) i)

  -- ---- for n = 3 the links 2 of these

  over : ℕ → ℕ
  over g = link t 2 (link t 1 g)

  module _ (space : n ≡ 3) where
    beside : (g : ℕ) → In g gs → In (link t 2 g) gs
    beside g i = given.sheet.far g 2 (omega arith) (omega arith) i

    over_back : (g : ℕ) → In g gs → link t 2 (over g) ≡ link t 1 g
    unfolding over
    over_back g i = (rule (link t 1 g) (next_lives g i)).comes 2 (omega arith)

    over_one : (g h : ℕ) → In g gs → In h gs → over g ≡ over h → g ≡ h
    unfolding next
    over_one g h i j e = next_one g h i j (sym (over_back g i) ∙ ap (link t 2) e ∙ over_back h j)

    -- "going 1, 2 three times returns": h.1.2 is no g.1
    over_next : (g h : ℕ) → In g gs → In h gs → over h ≡ next g → ⊥
    unfolding over next walk
    over_next g h i j e = given.uncrossed (link t 2 g) (beside g i) (in-cast turned (beside h j))
      where
        corner : link t 2 (link t 1 (link t 2 (link t 1 (link t 2 (link t 1 h))))) ≡ h
        corner = ((good_cell_lem n t (cell_of n t h)).0 (B.good h (lives h j))).corner space h (cell_own (map_table B) h (lives h j))

        back : link t 2 (link t 1 (link t 2 g)) ≡ h
        back =
            ap (λ (y : ℕ). link t 2 (link t 1 (link t 2 y))) (sym ((rule g (lives g i)).comes 1 (omega arith)) ∙ ap (link t 1) (sym e))
            ∙ corner

        turned : link t 1 (link t 2 g) ≡ link t 2 h
        turned = sym ((rule _ (next_lives (link t 2 g) (beside g i))).comes 2 (omega arith)) ∙ ap (link t 2) back

    three : Distinct (copy over ++ two)
    unfolding two
    three = distinct_append (copy over) two (copy_distinct over over_one) two_distinct (λ x i j.
        let (h, in_h, at_h) = copy_of over x i in
        ⊎_elim
        (λ m.
        let (g, in_g, at_g) = copy_of (λ g. g) x m in
        given.uncrossed h in_h (in-cast (sym (over_back h in_h) ∙ ap (link t 2) (sym at_h ∙ at_g)) (beside g in_g)))
        (λ m. let (g, in_g, at_g) = copy_of next x m in over_next g h in_g in_h (sym at_h ∙ at_g)) (in-append (copy (λ g. g)) j))

    three_lives : (x : ℕ) → In x (copy over ++ two) → live t x ≡ true
    unfolding over
    three_lives x i = ⊎_elim
        (λ j.
        let (g, in_g, at) = copy_of over x j in
        ap (live t) at ∙ (rule (link t 1 g) (next_lives g in_g)).goes 2 (omega arith))
        (two_lives x) (in-append (copy over) i)

  -- ---- the new slots are unused

  with_new : (l : List ℕ) → Distinct l → ((x : ℕ) → In x l → live t x ≡ true) → n * length gs + length l ≤ slots t
  with_new l once alive =
      let all = vacant_room (map_table B) given.vacant once alive in
      let room = s.room in
      omega arith

  -- as many slots are live as are new, and more
  pub split_room : n * length gs + n * length gs ≤ slots t
  unfolding two
  split_room =
      let one = copy_size (λ g. g) in
      let next_size = copy_size next in
      let both = length-append (copy (λ g. g)) (copy next) in
      let over_size = copy_size over in
      let All-three = length-append (copy over) two in
      ⊎_elim
      (λ plane.
      let all = with_new two two_distinct two_lives in
      let times = ap (λ (k : ℕ). k * length gs) plane in
      omega arith)
      (λ space.
      let all = with_new (copy over ++ two) (three space) (three_lives space) in
      let times = ap (λ (k : ℕ). k * length gs) space in
      omega arith)
      (dim_cases n B.dim)
