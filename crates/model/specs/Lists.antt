-- Lists of numbers: what the definitions of the calls are said with.
-- A list by its rule, counting, the places of the ones, the least number that passes a test, two lists compared.
use Rattle.std.specs.Prelude.{ℕ, zero, suc, Bool, true, false, List, [], ◌∷◌, eqb}

-- f a, f (a + 1), ..: k of them
unfoldable pub tabulate_from : ℕ → ℕ → (ℕ → ℕ) → List ℕ
tabulate_from zero a f = []
tabulate_from (suc k) a f = f a ∷ tabulate_from k (suc a) f

unfoldable pub tabulate : ℕ → (ℕ → ℕ) → List ℕ
tabulate k f = tabulate_from k 0 f

-- how often v stands in a list
unfoldable pub count : ℕ → List ℕ → ℕ
count v [] = 0
count v (x ∷ xs) = elim (eqb x v) [ true ↦ suc (count v xs) | false ↦ count v xs ]

-- the places of the ones of a list, rising, counted from a
unfoldable pub ones_from : ℕ → List ℕ → List ℕ
ones_from a [] = []
ones_from a (x ∷ xs) = elim (eqb x 1) [ true ↦ a ∷ ones_from (suc a) xs | false ↦ ones_from (suc a) xs ]

abbrev pub ones : List ℕ → List ℕ
ones xs = ones_from 0 xs

-- the first place of x in a list, or the list's length
unfoldable pub index_of : ℕ → List ℕ → ℕ
index_of x [] = 0
index_of x (y ∷ ys) = elim (eqb x y) [ true ↦ 0 | false ↦ suc (index_of x ys) ]

-- the least of a, a + 1, .. (k of them) that passes, or a + k
unfoldable pub least_from : ℕ → ℕ → (ℕ → Bool) → ℕ
least_from zero a p = a
least_from (suc k) a p = elim (p a) [ true ↦ a | false ↦ least_from k (suc a) p ]

unfoldable pub least : ℕ → (ℕ → Bool) → ℕ
least k p = least_from k 0 p

-- each of a, a + 1, .. (k of them) passes
unfoldable pub all_from : ℕ → ℕ → (ℕ → Bool) → Bool
all_from zero a p = true
all_from (suc k) a p = elim (p a) [ true ↦ all_from k (suc a) p | false ↦ false ]

unfoldable pub all_below : ℕ → (ℕ → Bool) → Bool
all_below k p = all_from k 0 p

-- each of the list passes; one of it does
unfoldable pub all_of : {A : Type 0} → (A → Bool) → List A → Bool
all_of p [] = true
all_of p (x ∷ xs) = elim (p x) [ true ↦ all_of p xs | false ↦ false ]

unfoldable pub any_of : {A : Type 0} → (A → Bool) → List A → Bool
any_of p [] = false
any_of p (x ∷ xs) = elim (p x) [ true ↦ true | false ↦ any_of p xs ]

-- how many of 0, .., k - 1 pass
unfoldable pub how_many : ℕ → (ℕ → Bool) → ℕ
how_many k p = count 1 (tabulate k (λ x. elim (p x) [ true ↦ 1 | false ↦ 0 ]))

-- the two lists have the same entries, in the same order
unfoldable pub equal : List ℕ → List ℕ → Bool
equal [] [] = true
equal [] (y ∷ ys) = false
equal (x ∷ xs) [] = false
equal (x ∷ xs) (y ∷ ys) = elim (eqb x y) [ true ↦ equal xs ys | false ↦ false ]
