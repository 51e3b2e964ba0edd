use Rattle.std.proofs.Common.{◌≡◌, ◌∷◌, ◌++◌, ◌+◌, [], true, ap, sym, ◌∙◌, take}
use Rattle.std.proofs.Math.ListN.{set}
use Rattle.std.proofs.lemmas.List.{take_more}
use Rattle.tl.specs.Walker.{path_from}
use Rattle.tl.specs.Marks.{marks_of}
use Rattle.tl.proofs.Frames.{path-push}
use Rattle.tl.proofs.walk.path.all_marks.Goals as goal

pub loop-frame-preserved : goal.loop-frame-preserved
loop-frame-preserved c =
    let fs = c.args.frames.now in
    let i = c.loop-frame.frame-index in
    let longer : take (i + 1) fs ≡ take i fs ++ c.frame-item.result ∷ [] = take_more fs i c.frame-item.result c.loop-frame-test.true ∙ ap (λ x. take i fs ++ x ∷ []) (sym c.frame-item.is) in
    c.put_mark.ensures ∙ ap (λ m. set m c.frame-item.result.handle true) c.loop-frame.invariant
    ∙ sym (ap (λ p. marks_of c.args.n p) (ap (path_from []) longer ∙ path-push [] (take i fs) c.frame-item.result))
