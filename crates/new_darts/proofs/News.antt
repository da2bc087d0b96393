-- The new darts by their list: what `new_dart` asks (`new_asked`) and finds (`new_found`) for a dart that gets new ones; four links of a
-- dart (`four_links_lem`).
use Prim.Native.Nat.{ℕ, ◌+◌, ◌≤◌, ◌<◌}
use mathlib.Core.Path.{◌≡◌, ap, ◌∙◌}
use mathlib.Core.List.{List, [], ◌∷◌, Memᴰ as In}
use native.Mathlib.Omega.{arith}
use lib.ListN.{length, get_or}
use Rattle.model.specs.Table.{slots, link}
use Rattle.model.specs.NewDarts.{new_dart}
use Rattle.theorems.proofs.Lists.Scan.{below_four}
use Rattle.new_darts.specs.News.{News, NewLinks}

module _ {n : ℕ} {t gs fs fresh places : List ℕ} (N : News n t gs fs fresh places) {y : ℕ} (member : In y gs) where
  pub new_asked : n ≤ 3 → y < slots t → (r : ℕ) → r < n → (y < length places) × (r < 3) × (get_or places y 0 + r < length fresh)
  new_asked three inside r low =
      let wide = N.wide in
      let room = N.inside y member in
      (omega arith, omega arith, omega arith)

  pub new_found : (r : ℕ) → r < n → {x z : ℕ} → x ≡ get_or fresh (get_or places y 0 + r) 0 → y ≡ z → x ≡ new_dart n gs fs r z
  new_found r low is at = is ∙ N.new r y low member ∙ ap (new_dart n gs fs r) at

pub four_links_lem : (u : List ℕ) (x : ℕ) {a b c d : ℕ} → a ≡ link u 0 x → b ≡ link u 1 x → c ≡ link u 2 x → d ≡ link u 3 x
    → NewLinks u x (a ∷ b ∷ c ∷ d ∷ [])
four_links_lem u x {a} {b} {c} {d} = below_four (λ j. get_or (a ∷ b ∷ c ∷ d ∷ []) j 0 ≡ link u j x)
