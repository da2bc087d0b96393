-- What is reached: the darts found from some darts by words of links, as marks, one to a slot.
-- Cell, orbit, side and sheet are such sets; 1 marks what is in the set.
use Rattle.std.specs.Prelude.{ℕ, zero, suc, ◌+◌, ◌*◌, Bool, true, false, List, [], ◌∷◌, ◌++◌, length, get_or, set, replicate, eqb}
use Rattle.model.specs.Table.{slots, walk}

-- the marks, with those added that are found from the darts `todo`; f has the darts one step away
unfoldable pub flood : (ℕ → List ℕ) → ℕ → List ℕ → List ℕ → List ℕ
flood f zero todo marks = marks
flood f (suc fuel) [] marks = marks
flood f (suc fuel) (x ∷ todo) marks =
    elim (eqb (get_or marks x 1) 0) [
      | true ↦ flood f fuel (f x ++ todo) (set marks x 1)
      | false ↦ flood f fuel todo marks
    ]

-- the darts that the words lead to from x
unfoldable pub steps : List ℕ → List (List ℕ) → ℕ → List ℕ
steps t [] x = []
steps t (w ∷ ws) x = walk t w x ∷ steps t ws x

-- the least set that holds the seeds and is closed under the words
unfoldable pub closure : List ℕ → List (List ℕ) → List ℕ → List ℕ
closure t ws seeds = flood (steps t ws) (length seeds + length ws * slots t) seeds (replicate (slots t) 0)

-- the links a, a + 1, .. (k of them) that pass, each as a word
unfoldable pub links_from : ℕ → ℕ → (ℕ → Bool) → List (List ℕ)
links_from zero a p = []
links_from (suc k) a p = elim (p a) [ true ↦ (a ∷ []) ∷ links_from k (suc a) p | false ↦ links_from k (suc a) p ]

-- the links 0..n that pass
unfoldable pub links : ℕ → (ℕ → Bool) → List (List ℕ)
links n p = links_from (suc n) 0 p

-- x is in the set
unfoldable pub in_set : List ℕ → ℕ → Bool
in_set s x = eqb (get_or s x 0) 1
