-- Darts that get the mark 1: where they have it all (`marking_none`, `marking_old`), one that has it not (`marking_new`), those of two sets
-- (`marking_both`).
-- `marking_few`: no more than there are marks. `full_grouped`: where each group counts as marked, all marks are passed over one by one.
use Prim.Native.Nat.{ℕ, ◌+◌, ◌*◌, ◌≤◌, ◌<◌}
use mathlib.Core.Path.{◌≡◌, refl, sym, ap, ◌∙◌, subst}
use mathlib.Core.Logic.{◌⊎◌, inl, inr, ◌≢◌, ⊎_elim}
use mathlib.Core.List.{List}
use native.Mathlib.Omega.{arith}
use lib.ListN.{length, get_or, set, replicate, length-set, length-replicate, get_or-replicate, get_or-eq_default}
use lib.Seq.{get_or-set_same, get_or-set_other}
use Rattle.model.specs.Meaning.Sets.{Marked}
use Rattle.theorems.proofs.Lists.Scan.{if_eq, if_lt}
use Rattle.theorems.proofs.Sets.Pigeon.{count_one, count_most}
use Rattle.scans.specs.Clear.{Grouped}
use Rattle.call_unsew.specs.Marking.{Marking, Full}

-- they have it all
pub marking_none : (m : List ℕ) {P : ℕ → Type 0} → ((x : ℕ) → P x → Marked m x) → Marking P m m 0
marking_none m all = record { long = refl; kept = λ x h. h; all = all; only = λ x h. inl h; new = omega arith }

module _ (m : List ℕ) (x : ℕ) where
  pub marking_old : Marked m x → Marking (λ z. z ≡ x) m m 0
  marking_old h = marking_none m (λ z e. subst (Marked m) (sym e) h)

  pub marking_new : x < length m → get_or m x 0 ≢ 1 → Marking (λ z. z ≡ x) m (set m x 1) 1
  marking_new low h = record {
    long = length-set m x 1;
    kept = λ z k. if_eq z x (own z) (λ e. get_or-set_other m x z 1 0 e ∙ k);
    all = own;
    only = λ z k. if_eq z x inr (λ e. inl (sym (get_or-set_other m x z 1 0 e) ∙ k));
    new = let more = count_one m x low h in omega arith;
  }
    where
      own : (z : ℕ) → z ≡ x → Marked (set m x 1) z
      own z e = ap (λ (y : ℕ). get_or (set m x 1) y 0) e ∙ get_or-set_same m x 1 0 low

module _ {P : ℕ → Type 0} {m m' : List ℕ} {r : ℕ} (M : Marking P m m' r) where
  pub marking_few : r ≤ length m
  marking_few = let most = count_most m' in let long = M.long in let new = M.new in omega arith

  -- the same darts, otherwise told
  pub marking_as : {Q : ℕ → Type 0} → ((x : ℕ) → P x → Q x) → ((x : ℕ) → Q x → P x) → Marking Q m m' r
  marking_as to from = record {
    long = M.long;
    kept = M.kept;
    all = λ x q. M.all x (from x q);
    only = λ x h. ⊎_elim inl (λ p. inr (to x p)) (M.only x h);
    new = M.new;
  }

  pub marking_both : {Q : ℕ → Type 0} {m'' : List ℕ} {s : ℕ} → Marking Q m' m'' s → Marking (λ z. P z ⊎ Q z) m m'' (r + s)
  marking_both N = record {
    long = N.long ∙ M.long;
    kept = λ x h. N.kept x (M.kept x h);
    all = λ x. ⊎_elim (λ p. N.kept x (M.all x p)) (N.all x);
    only = λ x h. ⊎_elim (λ k. ⊎_elim inl (λ p. inr (inl p)) (M.only x k)) (λ q. inr (inr q)) (N.only x h);
    new = let first = M.new in let second = N.new in omega arith;
  }

-- ---- groups that count as marked

pub full_grouped : {m m' gs : List ℕ} → Full m gs → length m' ≡ length m → Grouped m' gs
full_grouped {m} {m'} {gs} F long = record {
  long = long ∙ F.long;
  clear = λ g none z low high. if_lt g (length gs) (λ inside. absurd (omega (arith, none, F.marked g inside)))
      (λ past. get_or-eq_default m' 0 (let all = F.long in omega arith));
}

pub full_new : (k g : ℕ) → k ≡ 256 * g → Full (replicate k 0) (replicate g 1)
full_new k g whole =
    let marks = length-replicate {A = ℕ} k 0 in
    let groups = length-replicate {A = ℕ} g 1 in
    record { long = omega arith; marked = λ x low. get_or-replicate g x 1 0 (omega arith) }
