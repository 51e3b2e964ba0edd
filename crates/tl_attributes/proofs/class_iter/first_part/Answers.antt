use Rattle.std.proofs.Common.{ap, ◌∙◌, ◌∷◌, sym, arith}
use Rattle.std.proofs.lemmas.Str.Ascii.{trim_ascii_start_is}
use Rattle.std.specs.List.{prefix_len}
use Rattle.std.specs.Char.{is_ascii_whitespace}
use Rattle.tl_spec.specs.Lookup.ClassMember.{parts}
use Rattle.tl_attributes.proofs.ClassParts.{parts_past, no_more, no_parts, one_part, part_boundary, in_part}
use Rattle.tl_attributes.proofs.class_iter.first_part.Goals as goal

pub returns-then-end-eq0-clause-first : goal.returns-then-end-eq0-clause-first
returns-then-end-eq0-clause-first c =
    let s = c.args.text.now in
    let visible = trim_ascii_start_is s c.trim_ascii_start-visible.result.now c.trim_ascii_start-visible.ensures.value in
    sym (parts_past s) ∙ sym (ap parts visible)
    ∙ no_parts c.trim_ascii_start-visible.result.now c.part_len-end.result (ap (prefix_len is_ascii_whitespace) visible ∙ no_more is_ascii_whitespace s) (c.part_len-end.ensures.place ∙ ap (prefix_len in_part) c.as_bytes.ensures.value) c.if-end-eq0.true

pub split_at-requires : goal.split_at-requires
split_at-requires c = part_boundary c.trim_ascii_start-visible.result.now c.part_len-end.result (c.part_len-end.ensures.place ∙ ap (prefix_len in_part) c.as_bytes.ensures.value) (omega arith)

pub returns-clause-first : goal.returns-clause-first
returns-clause-first c =
    let s = c.args.text.now in
    let visible = trim_ascii_start_is s c.trim_ascii_start-visible.result.now c.trim_ascii_start-visible.ensures.value in
    sym (parts_past s) ∙ sym (ap parts visible)
    ∙ one_part c.trim_ascii_start-visible.result.now c.part_len-end.result (c.part_len-end.ensures.place ∙ ap (prefix_len in_part) c.as_bytes.ensures.value) (omega arith) (omega arith)
    ∙ (λ i. sym c.split_at.ensures.front i ∷ parts (sym c.split_at.ensures.back i))
