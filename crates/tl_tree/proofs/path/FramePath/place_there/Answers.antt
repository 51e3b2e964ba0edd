use Rattle.std.proofs.Common.{ap, arith, false, get_or, length, suc, sym, take, true, ℕ, ◌+◌, ◌<◌, ◌≡◌, ◌∙◌}
use Rattle.std.proofs.lemmas.List.{length-take-le}
use Rattle.tl_tree.proofs.Gone.{there-none}
use Rattle.tl_tree.proofs.Readopted.{some-frame}
use Rattle.tl_tree.proofs.There.{there-count, there-most}
use Rattle.tl_tree.specs.Inner.Gone.{there}
use Rattle.tl_tree.specs.declared.frame.Frame.{Frame}
use Rattle.tl_tree.proofs.path.FramePath.place_there.Goals.{else-not-has, then-not-has}
use Rattle.tl_tree.proofs.path.FramePath.place_there.Goals as goal

pub loop-index-init : goal.loop-index-init
loop-index-init c =
    sym (ap length (there-none {A = Frame} c.args.self.now.gaps.marks.items))

pub overflow_add-count : goal.overflow_add-count
overflow_add-count c =
    let p = c.args.self.now in
    let own = p.frames.ok.0 in
    let within = c.requires in
    let n = c.loop-index.index in
    let count = c.loop-index.invariant in
    let most = there-most p.gaps.marks.items (take n p.frames.items) in
    let front = length-take-le n p.frames.items (omega arith) in
    omega arith

pub loop-index-preserved : goal.loop-index-preserved
loop-index-preserved c =
    let p = c.args.self.now in
    let own = p.frames.ok.0 in
    let within = c.requires in
    let n = c.loop-index.index in
    let count = c.loop-index.invariant in
    let next : n + 1 ≡ suc n = omega arith in
    let is = ap (λ (k : ℕ). length (there p.gaps.marks.items (take k p.frames.items))) next in
    elim c.if-not-has.branch [
      | then-not-has w ↦ (let more = there-count p.gaps.marks.items p.frames.items n (some-frame p) false (omega arith) (sym c.has.ensures ∙ w.if-not-has.true) in omega (arith, w.count-is))
      | else-not-has w ↦ (let more = there-count p.gaps.marks.items p.frames.items n (some-frame p) true (omega arith) (sym c.has.ensures ∙ w.if-not-has.false) in omega (arith, w.count-is))
    ]
