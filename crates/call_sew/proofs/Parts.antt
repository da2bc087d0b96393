-- Two sides joined pair by pair: the darts that are linked so far (`Part`), one more (`part_more`), from none (`part_none`) to all
-- (`part_all`); and their marks taken back, the last pair first (`Left`, `left_less`), until none is left (`left_none`), or all cleared
-- (`cleared`). `lent_new`: new buffers.
use Prim.Native.Nat.{ℕ, zero, suc, ◌+◌, ◌*◌, ◌-◌, ◌/◌, ◌≤◌, ◌<◌}
use mathlib.Core.Path.{◌≡◌, refl, sym, ap, ◌∙◌, subst}
use mathlib.Core.Logic.{◌⊎◌, inl, inr, ◌≢◌, ⊎_elim}
use mathlib.Core.List.{List}
use native.Mathlib.Omega.{arith}
use lib.ListN.{length, get_or, set, replicate, length-set, length-replicate}
use lib.Seq.{get_or-set_same, get_or-set_other}
use Rattle.model.specs.Table.{unused, slots, link}
use Rattle.model.specs.Sew.{side, sew_table}
use Rattle.model.specs.Meaning.Maps.{MapTable}
use Rattle.model.specs.Meaning.Sets.{Marked}
use Rattle.model.specs.Meaning.Pairings.{Pairing}
use Rattle.theorems.proofs.Lists.Scan.{if_eq}
use Rattle.theorems.proofs.Maps.Tables.{live_below}
use Rattle.theorems.proofs.Operations.Relink.{table_same, relinked_long, relinked_table}
use Rattle.theorems.proofs.Sewing.Side.{side_live, Place, own, other, outside, place}
use Rattle.theorems.proofs.Sewing.Pairing.{paired_exactly}
use Rattle.theorems.proofs.Sewing.Sew.{sew_relinked, sew_there, sew_back, sew_rest, sew_other}
use Rattle.call_sew.specs.Joins.{Blank, Only, Slot, Lent, Among, Fit, Joining, Joined, Unmarking}

-- t' is t but for link i of the darts P, which is as in u; these have the mark 1 in m', and their groups in gs', all others the mark that
-- they have in m, and in gs
pub record Part (t u m gs : List ℕ) (i : ℕ) (P : ℕ → Type 0) (t' m' gs' : List ℕ) : Type 0 where
  pub long : length t' ≡ length t
  pub wide : length m' ≡ length m
  pub many : length gs' ≡ length gs
  pub other : (x j : ℕ) → j < 4 → j ≢ i → link t' j x ≡ link t j x
  pub new : (x : ℕ) → P x → (link t' i x ≡ link u i x) × Marked m' x × Marked gs' (x / 256)
  pub old : (x : ℕ) → (P x → ⊥) → (link t' i x ≡ link t i x) × (get_or m' x 0 ≡ get_or m x 0)
  pub groups : (g : ℕ) → ((x : ℕ) → P x → x / 256 ≢ g) → get_or gs' g 0 ≡ get_or gs g 0

-- and x
abbrev pub With : (ℕ → Type 0) → ℕ → ℕ → Type 0
With P x z = P z ⊎ (z ≡ x)

-- ---- one dart

module _ {t u m gs : List ℕ} {i : ℕ} {P : ℕ → Type 0} {t' m' gs' : List ℕ} (A : Part t u m gs i P t' m' gs')
    (x y : ℕ) (F : Fit t' m' gs' i x) (is : y ≡ link u i x)
  where
    link_own : link (set t' (4 * x + i) y) i x ≡ y
    unfolding link
    link_own = get_or-set_same t' (4 * x + i) y unused F.entry

    link_apart : (z j : ℕ) → j < 4 → ((z ≡ x) × (j ≡ i) → ⊥) → link (set t' (4 * x + i) y) j z ≡ link t' j z
    unfolding link
    link_apart z j low apart =
        let index = F.index in
        get_or-set_other t' (4 * x + i) (4 * z + j) y unused (λ e. apart (omega arith, omega arith))

    -- the groups that were marked still are
    group_kept : (g : ℕ) → Marked gs' g → Marked (set gs' (x / 256) 1) g
    group_kept g h = if_eq g (x / 256) (λ e. rw e (get_or-set_same gs' (x / 256) 1 0 F.slot.group))
        (λ e. get_or-set_other gs' (x / 256) g 1 0 e ∙ h)

    part_more : Part t u m gs i (With P x) (set t' (4 * x + i) y) (set m' x 1) (set gs' (x / 256) 1)
    part_more = record {
      long = length-set t' (4 * x + i) y ∙ A.long;
      wide = length-set m' x 1 ∙ A.wide;
      many = length-set gs' (x / 256) 1 ∙ A.many;
      other = λ z j low ne. link_apart z j low (λ e. ne e.1) ∙ A.other z j low ne;
      new = λ z p. if_eq z x
          (λ e. rw e (
            link_own ∙ is,
            get_or-set_same m' x 1 0 F.slot.mark,
            get_or-set_same gs' (x / 256) 1 0 F.slot.group,
          ))
          (λ e. let q = A.new z (⊎_elim (λ p. p) (λ q. absurd (e q)) p) in
          (link_apart z i F.index (λ r. e r.0) ∙ q.0, get_or-set_other m' x z 1 0 e ∙ q.1, group_kept (z / 256) q.2));
      old = λ z out.
          let e : z ≢ x = λ q. out (inr q) in
          let q = A.old z (λ p. out (inl p)) in
          (link_apart z i F.index (λ r. e r.0) ∙ q.0, get_or-set_other m' x z 1 0 e ∙ q.1);
      groups = λ g out.
          get_or-set_other gs' (x / 256) g 1 0 (λ e. out x (inr refl) (sym e)) ∙ A.groups g (λ z p. out z (inl p));
    }

part_as : {t u m gs : List ℕ} {i : ℕ} {P Q : ℕ → Type 0} {t' m' gs' : List ℕ} → ((x : ℕ) → P x → Q x) → ((x : ℕ) → Q x → P x)
    → Part t u m gs i P t' m' gs' → Part t u m gs i Q t' m' gs'
part_as to from A = record {
  long = A.long;
  wide = A.wide;
  many = A.many;
  other = A.other;
  new = λ x q. A.new x (from x q);
  old = λ x out. A.old x (λ p. out (to x p));
  groups = λ g out. A.groups g (λ x p. out x (to x p));
}

-- ---- the first k pairs

among_more : (xs ys : List ℕ) (k x : ℕ) → With (With (Among xs ys k) (get_or xs k 0)) (get_or ys k 0) x → Among xs ys (k + 1) x
among_more xs ys k x p = ⊎_elim
    (⊎_elim (λ (l, low, is). (l, omega arith, is)) (λ e. (k, omega arith, inl e)))
    (λ e. (k, omega arith, inr e)) p

among_less : (xs ys : List ℕ) (k x : ℕ) → Among xs ys (k + 1) x → With (With (Among xs ys k) (get_or xs k 0)) (get_or ys k 0) x
among_less xs ys k x (l, low, is) = if_eq l k
    (λ e. ⊎_elim (λ q. inl (inr (q ∙ ap (λ (a : ℕ). get_or xs a 0) e))) (λ q. inr (q ∙ ap (λ (a : ℕ). get_or ys a 0) e)) is)
    (λ e. inl (inl (l, omega arith, is)))

-- ---- two sides

module _ {n : ℕ} {t m gs : List ℕ} {i d e : ℕ} {xs ys : List ℕ} {size : ℕ} (J : Joining n t m gs i d e xs ys size) where
  f : Pairing n t i d e
  f = (paired_exactly J.able.left J.able.right).0 J.able.paired

  -- the k-th pair
  module _ (k : ℕ) (low : k < size) where
    x_in : Marked (side n t i d) (get_or xs k 0)
    x_in = J.lists.marked k low

    partner : f.f (get_or xs k 0) ≡ get_or ys k 0
    partner = J.lists.pairs f k low

    y_in : Marked (side n t i e) (get_or ys k 0)
    y_in = subst (Marked (side n t i e)) partner (f.into (get_or xs k 0) x_in)

    x_new : get_or ys k 0 ≡ link (sew_table n t i d e) i (get_or xs k 0)
    x_new = sym partner ∙ sym (sew_there J.able f (get_or xs k 0) x_in)

    y_new : get_or xs k 0 ≡ link (sew_table n t i d e) i (get_or ys k 0)
    y_new = sym (ap (link (sew_table n t i d e) i) (sym partner) ∙ sew_back J.able f (get_or xs k 0) x_in)

    pub x_below : get_or xs k 0 < slots t
    x_below = live_below J.able.left.table _ (side_live J.able.left _ x_in)

    pub y_below : get_or ys k 0 < slots t
    y_below = live_below J.able.right.table _ (side_live J.able.right _ y_in)

  index : i < 4
  index = let top = J.able.left.table.dim.1 in let low = J.able.left.index in omega arith

  -- what `relink` asks, of the table and the marks as they are then
  pub relink_fits : {P : ℕ → Type 0} {u t' m' gs' : List ℕ} → Part t u m gs i P t' m' gs' → (x : ℕ) → x < slots t → Fit t' m' gs' i x
  relink_fits A x low =
      let whole = J.able.left.table.whole in
      let top = index in
      let wide = J.wide in
      let long = J.blank.long in
      record {
        index = index;
        entry = omega (arith, A.long);
        slot = record { mark = omega (arith, A.wide); group = omega (arith, A.many) };
      }

  pub part_none : Part t (sew_table n t i d e) m gs i (Among xs ys 0) t m gs
  part_none = record {
    long = refl;
    wide = refl;
    many = refl;
    other = λ x j low ne. refl;
    new = λ x p. absurd (let low = p.1 in omega arith);
    old = λ x out. (refl, refl);
    groups = λ g out. refl;
  }

  -- the k-th pair is linked and marked
  module _ (k : ℕ) (low : k < size) {t' m' gs' : List ℕ} (A : Part t (sew_table n t i d e) m gs i (Among xs ys k) t' m' gs')
      {t'' m'' gs'' : List ℕ} (first : (t'' ≡ set t' (4 * get_or xs k 0 + i) (get_or ys k 0)) × (m'' ≡ set m' (get_or xs k 0) 1)
      × (gs'' ≡ set gs' (get_or xs k 0 / 256) 1))
    where
      pub first_relinked : Part t (sew_table n t i d e) m gs i (With (Among xs ys k) (get_or xs k 0)) t'' m'' gs''
      first_relinked = rw (first.0, first.1, first.2)
          (part_more A (get_or xs k 0) (get_or ys k 0) (relink_fits A (get_or xs k 0) (x_below k low)) (x_new k low))

      pub part_pair : {t''' m''' gs''' : List ℕ}
          → (t''' ≡ set t'' (4 * get_or ys k 0 + i) (get_or xs k 0)) × (m''' ≡ set m'' (get_or ys k 0) 1) × (gs''' ≡ set gs'' (get_or ys k 0 / 256) 1)
          → Part t (sew_table n t i d e) m gs i (Among xs ys (k + 1)) t''' m''' gs'''
      part_pair second = rw (second.0, second.1, second.2) (part_as (among_more xs ys k) (among_less xs ys k)
          (part_more first_relinked (get_or ys k 0) (get_or xs k 0) (relink_fits first_relinked (get_or ys k 0) (y_below k low)) (y_new k low)))

  among_sides : (x : ℕ) → Among xs ys size x → Marked (side n t i d) x ⊎ Marked (side n t i e) x
  among_sides x (l, low, is) = ⊎_elim (λ q. inl (subst (Marked (side n t i d)) (sym q) (x_in l low)))
      (λ q. inr (subst (Marked (side n t i e)) (sym q) (y_in l low))) is

  sides_among : (x : ℕ) → Marked (side n t i d) x ⊎ Marked (side n t i e) x → Among xs ys size x
  sides_among x = ⊎_elim
      (λ h. let (k, low, is) = J.lists.all x h in (k, low, inl (sym is)))
      (λ h.
      let (z, in_d, to) = f.onto x h in
      let (k, low, is) = J.lists.all z in_d in
      (k, low, inr (sym to ∙ ap f.f (sym is) ∙ partner k low)))

  among_below : (x : ℕ) → Among xs ys size x → x < slots t
  among_below x (l, low, is) = ⊎_elim (λ q. rw q (x_below l low)) (λ q. rw q (y_below l low)) is

  pub part_all : {t' m' gs' : List ℕ} → Part t (sew_table n t i d e) m gs i (Among xs ys size) t' m' gs'
      → Joined n t i d e xs ys size t' m' gs'
  part_all {t'} {m'} {gs'} A = record {
    table = table_same (sew_table n t i d e) (relinked_table map low (sew_relinked J.able)).whole t'
        (A.long ∙ sym (relinked_long map low (sew_relinked J.able))) same;
    wide = omega (arith, A.wide, J.wide);
    marked = λ x h. by_place x h (place (side n t i d) (side n t i e) x);
    unmarked = λ x out. (λ h. out (A.new x (sides_among x (inl h))).1, λ h. out (A.new x (sides_among x (inr h))).1);
    grouped = record {
      long = long;
      clear = λ g none x low high. let here : x / 256 ≡ g = omega arith in
          blank x (λ p. let one = rw here at (A.new x p).2 in omega (arith, one, none));
    };
    unmarking = record {
      long = long;
      only = record { marks = blank; groups = λ g out. A.groups g out ∙ J.blank.groups g };
      inside = λ x p. let below = among_below x p in let wide = J.wide in omega (arith, A.wide);
      room = J.room;
    };
  }
    where
      long : length m' ≡ 256 * length gs'
      long = let old = J.blank.long in omega (arith, A.wide, A.many)

      blank : (x : ℕ) → (Among xs ys size x → ⊥) → get_or m' x 0 ≡ 0
      blank x out = (A.old x out).1 ∙ J.blank.marks x

      map : MapTable n t
      map = J.able.left.table

      low : i ≤ n
      low = J.able.left.index

      at : (x : ℕ) → Place (side n t i d) (side n t i e) x → link t' i x ≡ link (sew_table n t i d e) i x
      at x (own h) = (A.new x (sides_among x (inl h))).0
      at x (other h) = (A.new x (sides_among x (inr h))).0
      at x (outside a b) = (A.old x (λ p. ⊎_elim a b (among_sides x p))).0 ∙ sym (sew_rest J.able x a b i index)

      same : (x j : ℕ) → x < slots (sew_table n t i d e) → j < 4 → link t' j x ≡ link (sew_table n t i d e) j x
      same x j _ low = if_eq j i (λ q. rw q (at x (place (side n t i d) (side n t i e) x)))
          (λ ne. A.other x j low ne ∙ sym (sew_other J.able x j low ne))

      by_place : (x : ℕ) → Marked m' x → Place (side n t i d) (side n t i e) x → Marked (side n t i d) x ⊎ Marked (side n t i e) x
      by_place x h (own a) = inl a
      by_place x h (other b) = inr b
      by_place x h (outside a b) = absurd (let zero = blank x (λ p. ⊎_elim a b (among_sides x p)) in omega (arith, zero, h))

-- ---- marks taken back

-- a mark is taken back: those that are left are of the darts P
wiped : {P : ℕ → Type 0} {m gs : List ℕ} (x : ℕ) → Slot m gs x → Only (With P x) m gs → Only P (set m x 0) (set gs (x / 256) 0)
wiped {P} {m} {gs} x S O = record {
  marks = λ z out. if_eq z x (λ e. rw e (get_or-set_same m x 0 0 S.mark))
      (λ e. get_or-set_other m x z 0 0 e ∙ O.marks z (⊎_elim out e));
  groups = λ g out. if_eq g (x / 256) (λ e. rw e (get_or-set_same gs (x / 256) 0 0 S.group))
      (λ e. get_or-set_other gs (x / 256) g 0 0 e ∙ O.groups g (λ z. ⊎_elim (out z) (λ q. rw q (λ r. e (sym r)))));
}

only_as : {P Q : ℕ → Type 0} {m gs : List ℕ} → ((x : ℕ) → P x → Q x) → Only P m gs → Only Q m gs
only_as to O = record {
  marks = λ x out. O.marks x (λ p. out (to x p));
  groups = λ g out. O.groups g (λ x p. out x (to x p));
}

-- some of the darts listed are left, with as many marks as there were
pub record Left (m₀ gs₀ xs ys : List ℕ) (k : ℕ) (m gs : List ℕ) : Type 0 where
  pub wide : length m ≡ length m₀
  pub many : length gs ≡ length gs₀
  pub only : Only (Among xs ys k) m gs

module _ {m₀ gs₀ xs ys : List ℕ} {size : ℕ} (U : Unmarking m₀ gs₀ xs ys size) where
  slot : {m gs : List ℕ} → length m ≡ length m₀ → length gs ≡ length gs₀ → (x : ℕ) → Among xs ys size x → Slot m gs x
  slot wide many x p =
      let inside = U.inside x p in
      let long = U.long in
      record { mark = omega arith; group = omega arith }

  pub left_all : Left m₀ gs₀ xs ys size m₀ gs₀
  left_all = record { wide = refl; many = refl; only = U.only }

  pub left_none : {m gs : List ℕ} → Left m₀ gs₀ xs ys 0 m gs → Blank m gs
  left_none L =
      let long = U.long in
      let wide = L.wide in
      let many = L.many in
      record {
        long = omega arith;
        marks = λ x. L.only.marks x (λ p. let low = p.1 in omega arith);
        groups = λ g. L.only.groups g (λ x p. absurd (let low = p.1 in omega arith));
      }

  -- the marks of the last pair are taken back
  module _ {k : ℕ} (some : 0 < k) (low : k ≤ size) {m gs : List ℕ} (L : Left m₀ gs₀ xs ys k m gs) where
    pub last_slot : Slot m gs (get_or ys (k - 1) 0)
    last_slot = slot L.wide L.many _ (k - 1, omega arith, inr refl)

    module _ {m' gs' : List ℕ} (last : (m' ≡ set m (get_or ys (k - 1) 0) 0) × (gs' ≡ set gs (get_or ys (k - 1) 0 / 256) 0)) where
      wide : length m' ≡ length m₀
      wide = ap length last.0 ∙ length-set m _ 0 ∙ L.wide

      many : length gs' ≡ length gs₀
      many = ap length last.1 ∙ length-set gs _ 0 ∙ L.many

      pub first_slot : Slot m' gs' (get_or xs (k - 1) 0)
      first_slot = slot wide many _ (k - 1, omega arith, inl refl)

      pub left_less : {m'' gs'' : List ℕ} → (m'' ≡ set m' (get_or xs (k - 1) 0) 0) × (gs'' ≡ set gs' (get_or xs (k - 1) 0 / 256) 0)
          → Left m₀ gs₀ xs ys (k - 1) m'' gs''
      left_less first =
          let more : k ≡ k - 1 + 1 = omega arith in
          let all = only_as (among_less xs ys (k - 1)) (rw more at L.only) in
          record {
            wide = ap length first.0 ∙ length-set m' _ 0 ∙ wide;
            many = ap length first.1 ∙ length-set gs' _ 0 ∙ many;
            only = rw (first.0, first.1) (wiped _ first_slot (rw (last.0, last.1) (wiped _ last_slot all)));
          }

-- ---- marks and groups that are 0: those that were cleared, and new ones, of g groups

zeros : (k x : ℕ) → get_or {A = ℕ} (replicate k 0) x 0 ≡ 0
zeros zero x = refl
zeros (suc k) zero = refl
zeros (suc k) (suc x) = zeros k x

pub cleared : (m gs : List ℕ) {m' gs' : List ℕ} → length m ≡ 256 * length gs → m' ≡ replicate (length m) 0 → gs' ≡ replicate (length gs) 0
    → Blank m' gs'
cleared m gs long marks groups =
    let few = length-replicate {A = ℕ} (length m) 0 in
    let fewer = length-replicate {A = ℕ} (length gs) 0 in
    rw (marks, groups) (record { long = omega arith; marks = zeros (length m); groups = zeros (length gs) })

pub lent_new : (t : List ℕ) (k h g : ℕ) → (slots t ≤ k) × (k ≡ 2 * h) × (k ≡ 256 * g)
    → Lent t (replicate k 0) (replicate g 0) (replicate h 0) (replicate h 0)
lent_new t k h g (room, half, whole) =
    let marks = length-replicate {A = ℕ} k 0 in
    let groups = length-replicate {A = ℕ} g 0 in
    let words = length-replicate {A = ℕ} h 0 in
    record {
      blank = record { long = omega arith; marks = zeros k; groups = zeros g };
      wide = omega arith;
      left = omega arith;
      right = omega arith;
    }
