-- A draft carried out: what `close_record` and `put_record` require (`draft_closes`, `closed_puts`), and what they leave (`carried`).
use Prim.Native.Nat.{ℕ, ◌+◌, ◌≤◌}
use mathlib.Core.Path.{◌≡◌, ap, ◌∙◌}
use mathlib.Core.Bool.{true}
use mathlib.Core.List.{List}
use native.Mathlib.Omega.{arith}
use lib.ListN.{length}
use Rattle.model.specs.Journal.{cursor, changes_from, changes_at, put, record_of, record_length, written}
use Rattle.journal.specs.Records.{within}
use Rattle.drafts.specs.Passes.{Drafted}
use Rattle.drafts.proofs.Drafts.{draft_keeps}
use Rattle.drafts.proofs.Commits.{written_fits, written_put}

module _ {t u j : List ℕ} {k : ℕ} {w : List ℕ} (d : Drafted t u j k w) where
  kept : (cursor w ≡ cursor j) × (length w ≡ length j)
  kept =
      let keeps = draft_keeps j (changes_from 0 t u) d.room in
      (ap cursor d.draft ∙ keeps.0, ap length d.draft ∙ keeps.1)

  pub draft_closes : (cursor w + record_length k ≤ length w) × (length w ≤ 1048576)
  draft_closes =
      let (c, l) = kept in
      let h = d.room in
      let few = d.rule.few in
      (omega (arith, d.count), omega arith)

  module _ (tag : ℕ) (v : List ℕ) (closed : v ≡ written j (record_of tag (changes_from 0 t u))) where
    pub closed_puts : (cursor w + record_length k ≤ length v) × (within (length t) (changes_at v (cursor w) k) ≡ true)
    closed_puts = written_fits t u j d.long d.rule.low d.room tag (cursor w) k v kept.0 d.count closed

    pub carried : (t' : List ℕ) → t' ≡ put true (changes_at v (cursor w) k) t
        → (t' ≡ u) × (v ≡ written j (record_of tag (changes_from 0 t u)))
    carried t' h = (
      written_put t u j d.long d.rule.low d.room tag (cursor w) k v kept.0 d.count closed t' h,
      closed,
    )
