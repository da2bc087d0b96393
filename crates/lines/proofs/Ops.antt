-- The name of an op, looked for one name after the other.
use Prim.Native.Nat.{ℕ, ◌+◌, ◌<◌}
use mathlib.Core.Path.{◌≡◌, sym, ◌∙◌}
use mathlib.Core.Bool.{true, false}
use mathlib.Core.List.{List, []}
use mathlib.Core.Option.{some}
use native.Mathlib.Numerals.{add-one}
use lib.ListN.{get_or, drop}
use lib.Seq.{drop-cons}
use Rattle.model.specs.Lists.{equal}
use Rattle.model.specs.Session.{names, place_from}

-- none of the first k names is the text
abbrev pub Past : ℕ → List ℕ → Type 0
Past k xs = place_from 0 names xs ≡ place_from k (drop k names) xs

pub past : (k : ℕ) (xs : List ℕ) → k < 10 → Past k xs → equal (get_or names k []) xs ≡ false → Past (k + 1) xs
unfolding place_from names
past k xs h p e = rw (add-one k) (p ∙ rw (drop-cons names k [], e, place_from))

pub found : (k : ℕ) (xs : List ℕ) → k < 10 → Past k xs → equal (get_or names k []) xs ≡ true → some k ≡ place_from 0 names xs
unfolding place_from names
found k xs h p e = sym (p ∙ rw (drop-cons names k [], e, place_from))
