use Rattle.std.proofs.Common.{◌∙◌, append_assoc, append-nil, sym}
use Rattle.tl_encoding.proofs.Unmarked.{chunk, empty}
use Rattle.tl_encoding.proofs.marks.marked.Goals as goal

pub loop-chunk-preserved : goal.loop-chunk-preserved
loop-chunk-preserved c =
    let steps = c.in-Some.ensures.steps in
    let text = chunk _ _ _ _ steps.0 steps.3.0 steps.3.1 steps.2 in
    rw (c.in_ok-push_marks.ensures, c.in_ok-push_str.ensures.bytes, c.valid.ensures, c.invalid.ensures)
    (simp append_assoc (rw text at c.loop-chunk.invariant))

pub returns : goal.returns
returns c = sym (append-nil _) ∙ rw (empty _ c.in-None.ensures.steps.0) at c.loop-chunk.invariant
