-- The live slots one by one: counted (`live_all`), and with their lines (`darts_next`).
use Prim.Native.Nat.{ℕ, zero, suc, ◌+◌, ◌*◌, ◌-◌, ◌<◌, ◌≤◌}
use mathlib.Core.Path.{◌≡◌, refl, ap, ◌∙◌}
use mathlib.Core.Bool.{true, false}
use mathlib.Core.List.{List, [], ◌++◌, append-nil, append_assoc}
use native.Mathlib.Omega.{arith}
use lib.ListN.{length, take, length-append}
use Rattle.std.specs.List.{filter, range_with_len}
use Rattle.model.specs.Lists.{tabulate_from, tabulate, count}
use Rattle.model.specs.Table.{slots, link, live, live_count}
use Rattle.model.specs.Text.{bytes, decimal, said}
use Rattle.model.specs.Session.{to_line, dart_lines, darts_from}
use Rattle.model.specs.Import.{to_lines}
use Rattle.theorems.proofs.Lists.Scan.{test}
use Rattle.texts.specs.Texts.{Appended}
use Rattle.texts.proofs.Writing.{appended_none, appended_then}

-- 1 at a live slot
unfoldable pub live_mark : List ℕ → ℕ → ℕ
live_mark t d = elim (live t d) [ true ↦ 1 | false ↦ 0 ]

-- the live slots among d, d + 1, .. (k of them)
unfoldable pub live_from : List ℕ → ℕ → ℕ → ℕ
live_from t k d = count 1 (tabulate_from k d (λ d. elim (live t d) [ true ↦ 1 | false ↦ 0 ]))

live_one : (t : List ℕ) (k d : ℕ) → live_from t (suc k) d ≡ live_mark t d + live_from t k (suc d)
unfolding live_from live_mark count tabulate_from
live_one t k d = test (live t d) (λ e. rw (e, count, live_mark) (omega arith)) (λ e. rw (e, count, live_mark) (omega arith))

live_none : (t : List ℕ) (d : ℕ) → 0 ≡ live_from t 0 d
unfolding live_from count tabulate_from
live_none t d = refl

live_by : (t : List ℕ) (k d : ℕ) → length (filter (live t) (range_with_len d k)) ≡ live_from t k d
unfolding live_mark
live_by t zero d = live_none t d
live_by t (suc k) d =
    let next : d + 1 ≡ suc d = omega arith in
    let rest : length (filter (live t) (range_with_len (d + 1) k)) ≡ live_from t k (suc d) = rw (← next) (live_by t k (d + 1)) in
    test (live t d) (λ e. rw (live_one t k d, live_mark, e) (omega (arith, rest))) (λ e. rw (live_one t k d, live_mark, e) (omega (arith, rest)))

-- all slots, of which the live ones are kept
pub live_all : (t : List ℕ) → length (filter (live t) (range_with_len 0 (slots t))) ≡ live_count t
unfolding live_from live_count tabulate
live_all t = live_by t (slots t) 0

darts_one : (t : List ℕ) (k d : ℕ) → darts_from (suc k) d t ≡ darts_from 1 d t ++ darts_from k (suc d) t
unfolding darts_from
darts_one t k d = test (live t d) (λ e. rw (e, darts_from, append-nil)) (λ e. rw (e, darts_from))

pub darts_next : (t : List ℕ) (end d : ℕ) → d < end
    → darts_from (end - d) d t ≡ darts_from 1 d t ++ darts_from (end - (d + 1)) (d + 1) t
darts_next t end d h =
    let one : end - d ≡ suc (end - (d + 1)) = omega arith in
    let next : d + 1 ≡ suc d = omega arith in
    rw (one, next) (darts_one t (end - suc d) d)

pub darts_live : (t : List ℕ) (d : ℕ) → live t d ≡ true → dart_lines t d ≡ darts_from 1 d t
unfolding darts_from
darts_live t d h = rw (h, darts_from, append-nil)

pub darts_dead : (t : List ℕ) (d : ℕ) → live t d ≡ false → [] ≡ darts_from 1 d t
unfolding darts_from
darts_dead t d h = rw (h, darts_from)

-- the parts of a slot's line
pub to_whole : (t : List ℕ) (d : ℕ) {a b c e f out : List ℕ} {at p q r s end : ℕ}
    → Appended a at (bytes "to=") b p → Appended b p (decimal (link t 0 d) ++ bytes ",") c q
    → Appended c q (decimal (link t 1 d) ++ bytes ",") e r → Appended e r (decimal (link t 2 d) ++ bytes ",") f s
    → Appended f s (said [] (link t 3 d)) out end → Appended a at (to_line t d) out end
unfolding to_line
to_whole t d h i j k l =
    let whole = appended_then (appended_then (appended_then (appended_then h i) j) k) l in
    simp append_assoc (simp append_assoc at whole)

-- ---- lines of slots one after the other

pub lines_none : (out : List ℕ) (at a : ℕ) (t : List ℕ) → Appended out at (to_lines 0 a t) out at
unfolding to_lines
lines_none out at a t = appended_none out at

lines_last : (d a : ℕ) (t : List ℕ) → to_lines (suc d) a t ≡ to_lines d a t ++ to_line t (a + d)
unfolding to_lines
lines_last zero a t = let e : a + 0 ≡ a = omega arith in rw (e, append-nil)
lines_last (suc d) a t = let e : a + suc d ≡ suc a + d = omega arith in rw (e, lines_last d (suc a) t, append_assoc)

pub lines_more : {out next last : List ℕ} {at place r : ℕ} (d a : ℕ) (t : List ℕ) → Appended out at (to_lines d a t) next place
    → Appended next place (to_line t (a + d)) last r → Appended out at (to_lines (d + 1) a t) last r
lines_more d a t h k = let one : d + 1 ≡ suc d = omega arith in rw (one, lines_last d a t) (appended_then h k)

-- ---- the lines of the live slots are written one after the other: the slots before d are done, and `place` is behind them

pub record Going (before : List ℕ) (at : ℕ) (t : List ℕ) (end : ℕ) (out : List ℕ) (place d : ℕ) : Type 0 where
  pub all : end ≡ slots t
  pub low : d ≤ end
  pub long : length out ≡ length before
  pub room : place + 128 * (end - d) ≤ length before
  pub ends : place + length (darts_from (end - d) d t) ≡ at + length (darts_from end 0 t)
  pub holds : take place out ++ darts_from (end - d) d t ≡ take at before ++ darts_from end 0 t

pub going_start : (before : List ℕ) (at : ℕ) (t : List ℕ) {end : ℕ} → end ≡ slots t → at + 128 * slots t ≤ length before
    → Going before at t end before at 0
going_start before at t {end} e room =
    let whole : end - 0 ≡ end = omega arith in
    record { all = e; low = omega arith; long = refl; room = omega arith; ends = rw whole; holds = rw whole }

pub going_on : {before : List ℕ} {at : ℕ} {t : List ℕ} {end : ℕ} {out next : List ℕ} {place d r : ℕ}
    → Going before at t end out place d → d < end → Appended out place (darts_from 1 d t) next r → r ≤ place + 128
    → length next ≡ length out → Going before at t end next r (d + 1)
going_on {t = t} {end} {d = d} g h a few same =
    let step = darts_next t end d h in
    let parts = ap length step ∙ length-append (darts_from 1 d t) _ in
    record {
      all = g.all;
      low = omega arith;
      long = same ∙ g.long;
      room = omega (arith, g.room);
      ends = omega (arith, a.ends, g.ends, parts);
      holds = rw (a.holds, append_assoc, ← step) g.holds;
    }

pub gone : {before : List ℕ} {at : ℕ} {t : List ℕ} {end : ℕ} {out : List ℕ} {place d : ℕ}
    → Going before at t end out place d → end ≤ d → Appended before at (darts_from (slots t) 0 t) out place
unfolding darts_from
gone {t = t} {end} {place = place} {d} g h =
    let none_left : end - d ≡ 0 = omega (arith, g.low) in
    let long = rw none_left at g.ends in
    rw (← g.all) (record { ends = omega arith; holds = simp (none_left, append-nil) at g.holds })
