-- `record_words`: what the words of the record of the changes from a table to another are, one by one; `op_words`: that these stand
-- in the journal that an accepted operation leaves.
use Prim.Native.Nat.{ℕ, zero, suc, ◌+◌, ◌*◌, ◌<◌}
use mathlib.Core.Path.{◌≡◌, refl, sym, ap, ◌∙◌}
use mathlib.Core.Logic.{◌≢◌}
use mathlib.Core.Bool.{true, false}
use mathlib.Core.List.{List, [], ◌∷◌}
use native.Mathlib.Omega.{arith}
use lib.ListN.{length, get_or, set}
use lib.Seq.{get_or-set_other, get_or_at}
use Rattle.model.specs.Journal.{Change, changes_from, triples, cursor, record_of, changes_at, put_new}
use Rattle.model.specs.Calls.{Outcome}
use Rattle.model.specs.Runs.{Op, Call, do_call}
use Rattle.model.specs.Meaning.Records.{entry_at, Recording}
use Rattle.theorems.proofs.Lists.Scan.{if_eq, if_lt}
use Rattle.theorems.proofs.Calls.Ends.{op_accepted}
use Rattle.theorems.proofs.Calls.Written.{op_recorded}
use Rattle.theorems.proofs.History.Record.{put_new_changes, read_triples, length_triples, length_record}
use Rattle.theorems.proofs.History.Sound.{sound_undo, sound_redo}
use Rattle.theorems.proofs.History.Broken.{listed, triple_at, read_listed, Unsound, falls, past, same, differs, sound_holds}
use Rattle.theorems.proofs.History.Ops.{effect_length}

-- an entry that is not as before is that of a change
put_entry : (k : ℕ) (f : ℕ → Change) (t : List ℕ) (e : ℕ) → get_or t e 0 ≢ get_or (put_new (listed k f) t) e 0
    → (x : ℕ) × (x < k) × ((f x).entry ≡ e)
unfolding listed put_new
put_entry zero f t e h = absurd (h refl)
put_entry (suc k) f t e h =
    let c = f 0 in
    let rec = put_entry k (λ x. f (suc x)) (set t c.entry c.new) e in
    if_eq c.entry e (λ q. (0, omega arith, q))
    (λ q. let (x, l, is) = rec (λ r. h (sym (get_or-set_other t c.entry e c.new 0 (λ p. q (sym p))) ∙ r)) in
    (suc x, omega arith, is))

-- the changes are those that the words of their record say
pub record_listed : (tag : ℕ) (cs : List Change) → listed (length cs) (triple_at (record_of tag cs) 0) ≡ cs
unfolding changes_at record_of
record_listed tag cs = sym (read_listed (record_of tag cs) 0 (length cs)) ∙ read_triples cs (length cs ∷ [])

last_word : (tag : ℕ) (cs : List Change) → get_or (record_of tag cs) (0 + (3 * length cs + 2)) 0 ≡ length cs
unfolding record_of
last_word tag cs =
    let long = length_triples cs in
    get_or_at (length cs ∷ tag ∷ triples cs) (length cs) [] 0 (0 + (3 * length cs + 2)) (omega arith)

module _ (tag : ℕ) (t u : List ℕ) (long : length t ≡ length u) where
  abbrev cs : List Change
  cs = changes_from 0 t u

  abbrev r : List ℕ
  r = record_of tag cs

  abbrev k : ℕ
  k = length cs

  listed_is : listed k (triple_at r 0) ≡ cs
  listed_is = record_listed tag cs

  back : Unsound false u 0 k (triple_at r 0) → ⊥
  back = sound_holds k (triple_at r 0) 0 (rw listed_is (sound_undo t u long))

  forth : Unsound true t 0 k (triple_at r 0) → ⊥
  forth = sound_holds k (triple_at r 0) 0 (rw listed_is (sound_redo t u long))

  equal : (x y : ℕ) → (x ≢ y → ⊥) → x ≡ y
  equal x y h = if_eq x y (λ q. q) (λ q. absurd (h q))

  pub record_words : Recording tag t u (record_of tag (changes_from 0 t u)) 0 (length (changes_from 0 t u))
  unfolding record_of
  record_words = record {
    count = refl;
    tagged = refl;
    again = last_word tag cs;
    rising = λ x l. if_lt (entry_at r 0 x) (entry_at r 0 (suc x)) (λ q. q) (λ q. absurd (forth (falls x l q)));
    within = λ x l. if_lt (entry_at r 0 x) (length t) (λ q. q) (λ q. absurd (forth (past x l q)));
    old = λ x l. sym (equal _ _ (λ q. forth (differs x l q)));
    new = λ x l. sym (equal _ _ (λ q. back (differs x l q)));
    changed = λ x l q. forth (same x l q);
    every = λ e h. put_entry k (triple_at r 0) t e (rw (listed_is, put_new_changes t u long) h);
  }

-- ---- in the journal

-- words that stand elsewhere too
moved : {tag k : ℕ} {t u r : List ℕ} (j : List ℕ) (c : ℕ) → ((x : ℕ) → x < 3 * k + 3 → get_or j (c + x) 0 ≡ get_or r x 0)
    → Recording tag t u r 0 k → Recording tag t u j c k
moved {k = k} {t = t} {u = u} {r = r} j c words rec = record {
  count = ap (λ (w : ℕ). get_or j w 0) (omega arith) ∙ words 0 (omega arith) ∙ rec.count;
  tagged = words 1 (omega arith) ∙ rec.tagged;
  again = words (3 * k + 2) (omega arith) ∙ ap (λ (w : ℕ). get_or r w 0) (omega arith) ∙ rec.again;
  rising = λ x l. rw (entry x (omega arith), entry (suc x) l) (rec.rising x l);
  within = λ x l. rw (entry x l) (rec.within x l);
  old = λ x l. word 3 x (omega arith) (omega arith) ∙ rec.old x l ∙ ap (λ (e : ℕ). get_or t e 0) (sym (entry x l));
  new = λ x l. word 4 x (omega arith) (omega arith) ∙ rec.new x l ∙ ap (λ (e : ℕ). get_or u e 0) (sym (entry x l));
  changed = λ x l q. rec.changed x l
      (sym (word 3 x (omega arith) (omega arith)) ∙ q ∙ word 4 x (omega arith) (omega arith));
  every = λ e h. let (x, l, is) = rec.every e h in (x, l, entry x l ∙ is);
}
  where
    word : (i x : ℕ) → i < 5 → x < k → get_or j (c + i + 3 * x) 0 ≡ get_or r (0 + i + 3 * x) 0
    word i x h l =
        ap (λ (w : ℕ). get_or j w 0) (omega arith) ∙ words (0 + i + 3 * x) (omega arith)

    entry : (x : ℕ) → x < k → entry_at j c x ≡ entry_at r 0 x
    entry x l = word 2 x (omega arith) l

-- of the journal that an accepted operation leaves, at the word where its cursor was
pub op_words : (n : ℕ) (o : Outcome) (tag : ℕ) (p : Op) → (do_call n o (Call.op tag p)).number ≡ 0
    → let r = do_call n o (Call.op tag p) in
    Recording tag o.table r.table r.journal (cursor o.journal) (length (changes_from 0 o.table r.table))
op_words n o tag p accepted =
    let cs = changes_from 0 o.table (do_call n o (Call.op tag p)).table in
    let size = length_record tag cs in
    let same = ap length (op_accepted n o tag p accepted).table ∙ effect_length n o.table p in
    let words = (op_recorded n o tag p accepted).words in
    moved _ (cursor o.journal) (λ x l. words x (omega arith)) (record_words tag o.table _ (sym same))
