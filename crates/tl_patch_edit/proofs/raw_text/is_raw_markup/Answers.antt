use Rattle.std.proofs.Common.{ap, sym, ◌∙◌}
use Rattle.tl_patch_spec.specs.RawTexts.{is_markup}
use Rattle.tl_patch_edit.specs.Inner.Parts.{part_view}
use Rattle.tl_patch_edit.proofs.Misread.{not_raw, raw_text}
use Rattle.tl_patch_edit.proofs.raw_text.is_raw_markup.Goals as goal

pub returns-then-not-is_raw : goal.returns-then-not-is_raw
returns-then-not-is_raw c = λ p h. not_raw (part_view c.args.part) p (sym c.is_raw_text-is_raw.ensures ∙ c.if-not-is_raw.true) h

pub returns : goal.returns
returns c = λ p h.
    raw_text (part_view c.args.part) p (sym c.is_raw_text-is_raw.ensures ∙ c.if-not-is_raw.false) h
    ∙ sym (c.is_markup.ensures ∙ ap is_markup (c.as_bytes.ensures ∙ c.in_ok-text.ensures))
