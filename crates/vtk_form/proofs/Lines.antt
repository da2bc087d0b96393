-- The version line and the title line, byte by byte.
use Prim.Native.Nat.{ℕ, zero, suc, ◌+◌, ◌≤◌, ◌<◌}
use mathlib.Core.Path.{◌≡◌, refl, ◌∙◌}
use mathlib.Core.Logic.{◌≢◌}
use mathlib.Core.Bool.{true, false}
use mathlib.Core.List.{List, [], ◌∷◌}
use mathlib.Core.Option.{none, some}
use native.Mathlib.Omega.{arith}
use native.Mathlib.Numerals.{add-one}
use lib.ListN.{length, get_or, drop, length-drop}
use lib.Seq.{drop-cons}
use borrow.Author.Tests.{eq-eqb, ne_eqb}
use Rattle.model.specs.Text.{begins}
use Rattle.model.specs.Vtk.{behind_line, version2, version3, behind_title}

module _ (text : List ℕ) (k : ℕ) where
  pub line_end : length text ≤ k → behind_line (drop k text) ≡ none
  unfolding behind_line
  line_end h = go (drop k text) (simp length-drop (omega arith))
    where
      go : (xs : List ℕ) → length xs ≡ 0 → behind_line xs ≡ none
      go [] h = refl
      go (x ∷ xs) h = absurd (omega arith)

  module _ (low : k < length text) where
    pub line_found : get_or text k 0 ≡ 10 → behind_line (drop k text) ≡ some (drop (k + 1) text)
    unfolding behind_line
    line_found e = rw (add-one k, drop-cons text k 0 low, behind_line, eq-eqb _ 10 e)

    pub line_on : get_or text k 0 ≢ 10 → behind_line (drop k text) ≡ behind_line (drop (k + 1) text)
    unfolding behind_line
    line_on e = rw (add-one k, drop-cons text k 0 low, behind_line, ne_eqb _ 10 e)

-- past bytes that end no line
pub line_past : (text : List ℕ) (at k : ℕ) → ((j : ℕ) → j < k → get_or text (at + j) 0 ≢ 10) → at + k ≤ length text
    → behind_line (drop at text) ≡ behind_line (drop (at + k) text)
line_past text at zero h l = let same : at + 0 ≡ at = omega arith in rw same refl
line_past text at (suc k) h l =
    let one : at + suc k ≡ at + k + 1 = omega arith in
    rw one (line_past text at k (λ j m. h j (omega arith)) (omega arith) ∙ line_on text (at + k) (omega arith) (h k (omega arith)))

module _ (text : List ℕ) where
  pub title_two : begins version2 text ≡ true → behind_title text ≡ behind_line (drop 27 text)
  unfolding behind_title
  title_two e = rw (behind_title, e)

  module _ (two : begins version2 text ≡ false) where
    pub title_three : begins version3 text ≡ true → behind_title text ≡ behind_line (drop 27 text)
    unfolding behind_title
    title_three e = rw (behind_title, two, e)

    pub title_none : begins version3 text ≡ false → behind_title text ≡ none
    unfolding behind_title
    title_none e = rw (behind_title, two, e)
