-- `marked_links::write_one` meets its contract.
use native.Mathlib.Omega.{arith}
use Rattle.marked_links.proofs.MarkedPass.{marked_one, marked_stays, marked_more, marked_word, marked_length}
use Rattle.marked_links.proofs.write_one.Goals as goal

pub bounds-marks-x : goal.bounds-marks-x
bounds-marks-x c =
    let to = c.requires in
    let wide = to.met.freed.wide in
    let inside = to.inside in
    omega arith

pub returns-then-marks-x-ne1 : goal.returns-then-marks-x-ne1
returns-then-marks-x-ne1 c = λ v j T. marked_stays T c.requires.inside c.if-marks-x-ne1.true

pub link_in-y-requires : goal.link_in-y-requires
link_in-y-requires c =
    let to = c.requires in
    let fits = to.met.freed.fits in
    let index = to.met.freed.index in
    let inside = to.inside in
    omega arith

pub write_link-requires : goal.write_link-requires
write_link-requires c =
    let to = c.requires in
    record {
      t = _;
      u = _;
      j = _;
      pass = to.met.pass;
      one = rw (c.old_and_new-old.ensures.old, c.old_and_new-old.ensures.new)
          (marked_one to.met.freed _ to.inside c.args.sews _ c.link_in-y.ensures c.if-marks-x-ne1.false);
    }

pub overflow_add-result : goal.overflow_add-result
overflow_add-result c =
    let to = c.requires in
    let inside = to.inside in
    let word = marked_word to.met (omega arith) in
    let long = marked_length to.met (omega arith) in
    let few = to.met.few in
    omega arith

pub returns : goal.returns
returns c =
    let to = c.requires in
    λ v j T. marked_more T (c.write_link.ensures _ _ _ T.pass (rw (c.old_and_new-old.ensures.old, c.old_and_new-old.ensures.new)
    (marked_one T.freed _ to.inside c.args.sews _ c.link_in-y.ensures c.if-marks-x-ne1.false)))
