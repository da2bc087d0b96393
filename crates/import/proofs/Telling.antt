-- The first piece and the lines behind it are what the model has for a text.
use Prim.Native.Nat.{ℕ, zero, suc, ◌*◌, ◌≤◌}
use mathlib.Core.Path.{◌≡◌, refl, sym, ap, ◌∙◌}
use mathlib.Core.Logic.{◌≢◌}
use mathlib.Core.List.{List, [], ◌++◌, append-nil, append_assoc}
use lib.ListN.{length, take, replicate}
use borrow.Author.Tests.{le-leb}
use Rattle.model.specs.Calls.{Outcome, vtk_call}
use Rattle.model.specs.Runs.{begin}
use Rattle.model.specs.Text.{bytes, said}
use Rattle.model.specs.Session.{answered}
use Rattle.model.specs.Import.{longest_text, to_lines, map_lines, told, imported}
use Rattle.answers.specs.Answers.{Answer, number, count, outcome}
use Rattle.texts.specs.Texts.{Appended}

begun_table : (s w : ℕ) → (begin s w).table ≡ replicate (4 * s) 4294967295
unfolding begin
begun_table s w = refl

begun_journal : (s w : ℕ) → (begin 0 w).journal ≡ (begin s w).journal
unfolding begin
begun_journal s w = refl

told_refused : (o : Outcome) → o.number ≢ 0 → told o ≡ answered o
unfolding told
told_refused o h = by o.number h
  where
    by : (k : ℕ) → k ≢ 0 → elim k as (λ _. List ℕ) [ zero ↦ map_lines 3 o.count o.table | suc z ↦ answered o ] ≡ answered o
    by zero h = absurd (h refl)
    by (suc k) h = refl

told_accepted : (o : Outcome) → o.number ≡ 0 → told o ≡ map_lines 3 o.count o.table
unfolding told
told_accepted o h = rw (h, told)

-- what a call on an empty table and a fresh journal gives is told
module _ (r : Answer) {t u j k : List ℕ} (text : List ℕ) {s w : ℕ} (short : length text ≤ longest_text)
    (empty : t ≡ replicate s 4294967295) (slots : s ≡ 262144) (fresh : j ≡ (begin 0 w).journal) (words : w ≡ 786437)
    (call : outcome r u [] k ≡ vtk_call 3 t j 0 text) where
  given_told : told (outcome r u [] k) ≡ imported text
  unfolding imported
  given_told =
      let table : t ≡ (begin 65536 786437).table = empty ∙ ap (λ (n : ℕ). replicate n 4294967295) slots ∙ sym (begun_table 65536 786437) in
      let journal : j ≡ (begin 65536 786437).journal = fresh ∙ ap (λ (n : ℕ). (begin 0 n).journal) words ∙ begun_journal 65536 786437 in
      rw (le-leb (length text) longest_text short, imported) (ap told call ∙ rw (table, journal))

  pub refused_whole : {out out' : List ℕ} {at : ℕ} → number r ≢ 0 → Appended out 0 (answered (outcome r [] [] [])) out' at
      → take at out' ++ to_lines 0 0 u ≡ imported text
  unfolding to_lines answered
  refused_whole no_zero a = rw (a.holds, append-nil) (sym (told_refused (outcome r u [] k) no_zero) ∙ given_told)

  pub accepted_whole : {out out' : List ℕ} {at : ℕ} → number r ≡ 0
      → Appended out 0 (said (bytes "dim=") 3 ++ said (bytes "slots=") (count r)) out' at
      → take at out' ++ to_lines (count r) 0 u ≡ imported text
  unfolding map_lines
  accepted_whole is_zero a = rw (a.holds, append_assoc) (sym (told_accepted (outcome r u [] k) is_zero) ∙ given_told)
