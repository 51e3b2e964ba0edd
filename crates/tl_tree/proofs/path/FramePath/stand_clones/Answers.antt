use Rattle.std.proofs.Common.{ap, arith, drop, false, get_or, length, refl, suc, sym, ◌+◌, ◌++◌, ◌-◌, ◌<◌, ◌≡◌, ◌≤◌, ◌∷◌, ◌∙◌}
use Rattle.std.proofs.lemmas.List.{drop_all, get_or-set_other, get_or_default}
use Rattle.tl_dom_spec.specs.Path as dom
use Rattle.tl_dom_spec.specs.Tags.{Tag}
use Rattle.tl_tree.proofs.Over.{around-same, drop-changed}
use Rattle.tl_tree.proofs.StoodIn.{around-anew, changed-inner, clones-from, drop-set, get-last, inward-edge, inward-least, inward-most, inward-next}
use Rattle.tl_tree.specs.Inner.Adopted.{anew, clones_at, frame_at}
use Rattle.tl_tree.specs.Inner.Frames.{around, frames_of}
use Rattle.tl_tree.proofs.path.FramePath.stand_clones.Goals as goal

pub loop-left-init : goal.loop-left-init
loop-left-init c =
    let p = c.args.self.now in
    let places = c.args.clones.now in
    let outside = c.args.place + 1 in
    let last : get_or places (length places) outside ≡ outside = get-last places outside in
    record {
      bound = omega arith;
      path =
          ap (around p) last
          ∙ ap (λ rest. clones_at (frames_of p) (c.args.first + length places) rest ++ around p outside) (sym (drop_all (length places) places (omega arith)));
      gone = λ n least less. c.requires.gone n (omega (arith, last)) less;
      same = λ n least. refl;
      marks = refl;
      behind = refl;
      len = refl;
      next = refl;
      store = refl;
      free = λ n least less. c.requires.new n least;
    }

pub loop-left-preserved : goal.loop-left-preserved
loop-left-preserved c =
    let p = c.args.self.now in
    let q = c.loop-left.self in
    let r = c.stand_clone.new.self in
    let fs = frames_of p in
    let places = c.args.clones.now in
    let outside = c.args.place + 1 in
    let left = c.loop-left.left in
    let m = left - 1 in
    let first = c.args.first in
    let some = c.loop-left-test.true in
    let bound = c.loop-left.invariant.bound in
    let block = c.requires.within in
    let len = c.loop-left.invariant.len in
    let within : m < length places = omega arith in
    let next : suc m ≡ left = omega arith in
    let e = get_or places m 0 in
    let is : e ≡ get_or places m outside = get_or_default places m 0 outside within in
    let edge = get_or places left outside in
    let less : get_or places (suc m) outside < get_or places m outside = inward-next (c.args.place + 2) c.args.block places m outside (omega arith) c.requires.inward within in
    let at : get_or places (suc m) outside ≡ edge = ap (λ k. get_or places k outside) next in
    let most = inward-most (c.args.place + 2) c.args.block places m outside c.requires.inward within in
    let least = inward-least (c.args.place + 2) c.args.block places m outside c.requires.inward within in
    let slot = e - 1 in
    let back : slot + 1 ≡ e = omega arith in
    let outer : edge ≤ slot = omega arith in
    let inner : slot < c.args.block = omega arith in
    let number = first + m in
    let tag = (frame_at q (slot + 1)).tag in
    let is-tag : tag ≡ (frame_at p e).tag = ap (λ k. (frame_at q k).tag) back ∙ ap (λ (f : dom.Frame). f.tag) (c.loop-left.invariant.same e (omega arith)) in
    let rest = clones_at fs (first + left) (drop left places) in
    let all : clones_at fs number (drop m places) ≡ dom.new_frame number (frame_at p e).tag dom.here ∷ rest =
    clones-from fs number (first + left) places m within (omega arith)
    ∙ ap (λ k. dom.new_frame number (frame_at p e).tag dom.here ∷ clones_at fs (first + left) (drop k places)) next in
    record {
      bound = omega arith;
      path =
          ap (around r) (sym is ∙ sym back)
          ∙ (around-anew q r edge slot number tag outer (omega arith) c.stand_clone.ensures.len (λ i from to. c.loop-left.invariant.gone i from (omega arith)) c.stand_clone.ensures.frames c.stand_clone.ensures.gaps
          ∙ (ap (λ (own : Tag). dom.new_frame number own dom.here ∷ around q edge) is-tag
          ∙ (ap (λ own. dom.new_frame number (frame_at p e).tag dom.here ∷ own) c.loop-left.invariant.path
          ∙ sym (ap (λ own. own ++ around p outside) all))));
      gone = λ n from to.
          ap (λ ms. get_or ms n false) c.stand_clone.ensures.gaps
          ∙ (get_or-set_other q.gaps.marks.items slot n false false (λ (same : n ≡ slot). omega arith)
          ∙ c.loop-left.invariant.gone n (omega arith) to);
      same = λ n from.
          ap (λ own. get_or own n dom.document) c.stand_clone.ensures.frames
          ∙ (changed-inner slot n (anew number tag) (frames_of q) dom.document (omega arith)
          ∙ c.loop-left.invariant.same n (omega arith));
      marks = ap (drop c.args.block) c.stand_clone.ensures.gaps ∙ (drop-set q.gaps.marks.items slot c.args.block false inner ∙ c.loop-left.invariant.marks);
      behind = ap (drop c.args.block) c.stand_clone.ensures.frames ∙ (drop-changed slot c.args.block (anew number tag) (frames_of q) inner ∙ c.loop-left.invariant.behind);
      len = c.stand_clone.ensures.len ∙ len;
      next = c.stand_clone.ensures.next ∙ c.loop-left.invariant.next;
      store = c.stand_clone.ensures.store ∙ c.loop-left.invariant.store;
      free = λ n from to. c.stand_clone.ensures.others n (c.loop-left.invariant.free n from (omega arith)) (λ same. omega arith);
    }

pub stand_clone-requires-clause-within : goal.stand_clone-requires-clause-within
stand_clone-requires-clause-within c =
    let places = c.args.clones.now in
    let outside = c.args.place + 1 in
    let m = c.loop-left.left - 1 in
    let some = c.loop-left-test.true in
    let bound = c.loop-left.invariant.bound in
    let block = c.requires.within in
    let len = c.loop-left.invariant.len in
    let within : m < length places = omega arith in
    let e = get_or places m 0 in
    let is : e ≡ get_or places m outside = get_or_default places m 0 outside within in
    let most = inward-most (c.args.place + 2) c.args.block places m outside c.requires.inward within in
    let least = inward-least (c.args.place + 2) c.args.block places m outside c.requires.inward within in
    omega arith

pub stand_clone-requires-clause-number : goal.stand_clone-requires-clause-number
stand_clone-requires-clause-number c =
    let some = c.loop-left-test.true in
    let bound = c.loop-left.invariant.bound in
    let next = c.loop-left.invariant.next in
    let all = c.requires.next in
    omega arith

pub stand_clone-requires-clause-new : goal.stand_clone-requires-clause-new
stand_clone-requires-clause-new c =
    let some = c.loop-left-test.true in
    c.loop-left.invariant.free (c.args.first + (c.loop-left.left - 1)) (omega arith) (omega arith)

pub returns-clause-path : goal.returns-clause-path
returns-clause-path c = λ n is.
    let p = c.args.self.now in
    let q = c.loop-left.self in
    let places = c.args.clones.now in
    let outside = c.args.place + 1 in
    let left = c.loop-left.left in
    let end = c.loop-left-test.false in
    let none : left ≡ 0 = omega arith in
    let order = c.requires.order in
    let block = c.requires.within in
    let len = c.loop-left.invariant.len in
    let edge = get_or places left outside in
    let first : get_or places 0 outside < c.args.block = inward-edge (c.args.place + 2) c.args.block outside places (omega arith) c.requires.inward in
    let at : edge ≡ get_or places 0 outside = ap (λ k. get_or places k outside) none in
    let number : c.args.first + left ≡ c.args.first = omega arith in
    around-same q edge n (omega arith) (omega arith) (λ i from to. c.loop-left.invariant.gone i from (omega arith))
    ∙ (c.loop-left.invariant.path
    ∙ (ap (λ k. clones_at (frames_of p) k (drop left places) ++ around p outside) number
    ∙ ap (λ k. clones_at (frames_of p) c.args.first (drop k places) ++ around p outside) none))

pub overflow_sub-clones : goal.overflow_sub-clones
overflow_sub-clones c =
    let places = c.args.clones.now in
    let outside = c.args.place + 1 in
    let m = c.loop-left.left - 1 in
    let some = c.loop-left-test.true in
    let bound = c.loop-left.invariant.bound in
    let within : m < length places = omega arith in
    let least = inward-least (c.args.place + 2) c.args.block places m 0 c.requires.inward within in
    omega arith
