use Prim.Native.Nat.{ℕ, ◌+◌, ◌*◌, ◌<◌}
use mathlib.Core.Path.{◌≡◌, sym, ap, ◌∙◌}
use native.Mathlib.Omega.{arith}
use lib.ListN.{get_or, replicate, get_or-replicate}
use borrow.Author.Rules.{rules}
use Rattle.model.specs.Table.{unused}
use Rattle.drafts.proofs.Passes.{slot_none, slot_room, slot_more, slot_length, slot_met, pass_length}
use Rattle.vtk_table.specs.Cells.{shifts, dart_links}
use Rattle.vtk_table.proofs.Words.{word_entry, word_old, word_shifted, links_few}
use Rattle.vtk_table.proofs.Drafting.{wrote_as}
use Rattle.vtk_table.proofs.draft_dart.Goals as goal
use Rattle.vtk_table.proofs.draft_dart.Goals.{At-loop-i}

cell_few : (l : At-loop-i) → l.args.cell + l.args.k < 65536
cell_few l = let to = l.requires.2 in let inside = to.four.inside in let few = to.pass.few in omega arith

-- the words of the template at link i, as they are stored
abbrev at : (l : At-loop-i) → (low : l.loop-i.i < 4) → ℕ
at l low = 4 * l.args.k + l.loop-i.i

entry_is : (l : At-loop-i) → (low : l.loop-i.i < 4) → get_or l.args.words.now (3 * ((at l) low)) 0 + 4 * l.args.cell ≡ 4 * (l.args.cell + l.args.k) + l.loop-i.i
entry_is l low =
    let dart = l.requires.1 in
    omega (arith, l.requires.0 (3 * ((at l) low)) (omega arith), word_entry ((at l) low))

old_is : (l : At-loop-i) → (low : l.loop-i.i < 4) → get_or l.args.words.now (3 * ((at l) low) + 1) 0 ≡ get_or (replicate 4 unused) l.loop-i.i 0
old_is l low =
    let dart = l.requires.1 in
    l.requires.0 (3 * ((at l) low) + 1) (omega arith) ∙ word_old ((at l) low) ∙ sym (get_or-replicate 4 l.loop-i.i unused 0 low)

new_is : (l : At-loop-i) → (low : l.loop-i.i < 4) → get_or l.args.words.now (3 * ((at l) low) + 2) 0 + get_or (shifts l.args.cell l.args.third) l.loop-i.i 0
    ≡ get_or (dart_links l.args.cell l.args.third l.args.k) l.loop-i.i 0
new_is l low =
    let dart = l.requires.1 in
    ap (λ (x : ℕ). x + get_or (shifts l.args.cell l.args.third) l.loop-i.i 0) (l.requires.0 (3 * ((at l) low) + 2) (omega arith))
    ∙ word_shifted l.args.k dart l.args.cell l.args.third l.loop-i.i low

pub loop-i-init : goal.loop-i-init
loop-i-init c = (omega arith, λ t u j pass four. slot_none pass four)

pub overflow_add-w : goal.overflow_add-w
overflow_add-w c =
    let to = c.requires.2 in
    let met = c.loop-i.invariant.1 _ _ _ to.pass to.four in
    let inside = to.four.inside in
    let room = slot_room to.pass to.four c.loop-i.i c.loop-i-test.true _ met in
    let same = slot_length to.pass to.four c.loop-i.i c.loop-i.invariant.0 _ _ met ∙ sym (pass_length to.pass (omega arith)) in
    let long = c.slice_known-1.given in
    search rules

pub overflow_mul-cell : goal.overflow_mul-cell
overflow_mul-cell c = let few = cell_few (goal.at.overflow_mul-cell c).At-loop-i in omega arith

pub overflow_add-words : goal.overflow_add-words
overflow_add-words c = let few = cell_few (goal.at.overflow_add-words c).At-loop-i in omega (arith, entry_is (goal.at.overflow_add-words c).At-loop-i (omega arith))

pub overflow_add-words-in-loop-i : goal.overflow_add-words-in-loop-i
overflow_add-words-in-loop-i c =
    let small = links_few c.args.k c.requires.1 c.args.cell c.args.third (let few = cell_few (goal.at.overflow_add-words-in-loop-i c).At-loop-i in omega arith) (omega arith)
    c.loop-i.i (omega arith) in
    omega (arith, new_is (goal.at.overflow_add-words-in-loop-i c).At-loop-i (omega arith))

pub write_triple-requires : goal.write_triple-requires
write_triple-requires c =
    let to = c.requires.2 in
    slot_room to.pass to.four c.loop-i.i c.loop-i-test.true _ (c.loop-i.invariant.1 _ _ _ to.pass to.four)

pub loop-i-preserved : goal.loop-i-preserved
loop-i-preserved c = (
  omega arith,
  λ t u j pass four. slot_more pass four c.loop-i.i c.loop-i-test.true _ (c.loop-i.invariant.1 t u j pass four) _
      (wrote_as (entry_is (goal.at.loop-i-preserved c).At-loop-i (omega arith)) (old_is (goal.at.loop-i-preserved c).At-loop-i (omega arith)) (new_is (goal.at.loop-i-preserved c).At-loop-i (omega arith)) c.write_triple.ensures),
)

pub returns : goal.returns
returns c =
    let end : c.loop-i.i ≡ 4 = omega arith in
    let all = rw end at c.loop-i.invariant.1 in
    λ t u j pass four. slot_met pass four _ (all t u j pass four)
