-- Tables that hold a map or a block map: their live slots, the rules there, and steps by links, which lead back.
use Prim.Native.Nat.{ℕ, ◌<◌}
use mathlib.Core.Path.{◌≡◌, sym, ap, ◌∙◌}
use mathlib.Core.Bool.{true}
use mathlib.Core.List.{List}
use Rattle.model.specs.Table.{slots, link, live}
use Rattle.model.specs.Meaning.Maps.{Rule, MapTable, BlockTable}
use Rattle.model.specs.Meaning.Sets.{ByLink}
use Rattle.theorems.proofs.Sets.Classes.{Reversible}
use Rattle.theorems.proofs.Maps.Rules.{live_in, live_rule}

pub map_table : {n : ℕ} {t : List ℕ} → BlockTable n t → MapTable n t
map_table B = record { dim = B.dim; whole = B.whole; few = B.few; map = B.map }

module _ {n : ℕ} {t : List ℕ} (T : MapTable n t) (x : ℕ) (lives : live t x ≡ true) where
  pub live_below : x < slots t
  live_below = live_in t x T.whole lives

  pub rule_at : Rule n t x
  rule_at = live_rule t x T.whole T.map lives

pub links_reversible : {n : ℕ} {t : List ℕ} → MapTable n t → {Allowed : ℕ → Type 0} → ((j : ℕ) → Allowed j → j < 4)
    → Reversible (slots t) (λ x. live t x ≡ true) (ByLink t Allowed)
links_reversible {n} {t} T low = record {
  below = live_below T;
  goes = λ x y l b. rw b.leads ((rule_at T x l).goes b.by (low b.by b.allowed));
  back = λ x y l b. record {
    by = b.by;
    allowed = b.allowed;
    leads = sym (ap (link t b.by) b.leads ∙ (rule_at T x l).comes b.by (low b.by b.allowed));
  };
}
