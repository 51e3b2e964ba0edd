use Rattle.std.proofs.Common.{◌≡◌, ◌+◌, ◌≤◌, ap, ◌∙◌, drop, length, subst, arith}
use Rattle.std.proofs.lemmas.List.{take_rest}
use Rattle.std.specs.List.{prefix_len}
use Rattle.std.specs.Char.{is_ascii_whitespace}
use Rattle.tl_attributes.proofs.ClassParts.{past_white, no_white, no_parts, part_at, in_part}
use Rattle.tl_attributes.proofs.class_iter.next_part.Goals as goal

pub returns-then-len-eq0-clause-first : goal.returns-then-len-eq0-clause-first
returns-then-len-eq0-clause-first c =
    let bs = c.args.bytes.now in
    let at = c.args.at in
    let n = c.white_len.result in
    let white : n ≡ prefix_len is_ascii_whitespace (drop at bs) = c.white_len.ensures.place ∙ ap (prefix_len is_ascii_whitespace) (take_rest bs at) in
    past_white bs at n white
    ∙ no_parts (drop (at + n) bs) c.part_len-len.result (no_white bs at n white) (c.part_len-len.ensures.place ∙ ap (prefix_len in_part) (take_rest bs (at + n))) (omega (arith, c.if-len-eq0.true))

pub returns-clause-first : goal.returns-clause-first
returns-clause-first c =
    let bs = c.args.bytes.now in
    let at = c.args.at in
    let n = c.white_len.result in
    let m = c.part_len-len.result in
    let white : n ≡ prefix_len is_ascii_whitespace (drop at bs) = c.white_len.ensures.place ∙ ap (prefix_len is_ascii_whitespace) (take_rest bs at) in
    past_white bs at n white
    ∙ part_at bs (at + n) m (c.part_len-len.ensures.place ∙ ap (prefix_len in_part) (take_rest bs (at + n))) (subst (λ r. m ≤ length r) (take_rest bs (at + n)) c.part_len-len.ensures.within) (omega (arith, c.if-len-eq0.false))
