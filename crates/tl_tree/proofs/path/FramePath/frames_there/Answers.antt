use Rattle.std.proofs.Common.{[], ap, arith, false, suc, sym, take, true, ℕ, ◌+◌, ◌++◌, ◌≡◌, ◌∙◌, ◌∷◌}
use Rattle.tl_tree.proofs.Gone.{there-none}
use Rattle.tl_tree.proofs.Readopted.{some-frame}
use Rattle.tl_tree.proofs.There.{there-more}
use Rattle.tl_tree.specs.Inner.Gone.{there}
use Rattle.tl_tree.specs.declared.frame.Frame.{Frame}
use Rattle.tl_tree.proofs.path.FramePath.frames_there.Goals.{else-not-has, then-not-has+in_ok-push}
use Rattle.tl_tree.proofs.path.FramePath.frames_there.Goals as goal

pub loop-index-init : goal.loop-index-init
loop-index-init c =
    c.new-kept.ensures.items ∙ sym (there-none {A = Frame} c.args.self.now.gaps.marks.items)

pub loop-index-preserved : goal.loop-index-preserved
loop-index-preserved c =
    let p = c.args.self.now in
    let own = p.frames.ok.0 in
    let n = c.loop-index.index in
    let ms = p.gaps.marks.items in
    let next : suc n ≡ n + 1 = omega arith in
    elim c.if-not-has.branch [
      | then-not-has+in_ok-push w ↦ ap (λ v. v.items) w.kept-is
          ∙ (w.in_ok-push.ensures.items
          ∙ (ap (λ xs. xs ++ w.index.result.now ∷ []) c.loop-index.invariant
          ∙ (ap (λ (g : Frame). there ms (take n p.frames.items) ++ g ∷ []) w.index.ensures
          ∙ (sym (there-more ms p.frames.items n w.index.result.now false (omega arith) (sym c.has.ensures ∙ w.if-not-has.true))
          ∙ ap (λ (k : ℕ). there ms (take k p.frames.items)) next))))
      | else-not-has w ↦ ap (λ v. v.items) w.kept-is
          ∙ (c.loop-index.invariant
          ∙ (sym (there-more ms p.frames.items n (some-frame p) true (omega arith) (sym c.has.ensures ∙ w.if-not-has.false))
          ∙ ap (λ (k : ℕ). there ms (take k p.frames.items)) next))
    ]
