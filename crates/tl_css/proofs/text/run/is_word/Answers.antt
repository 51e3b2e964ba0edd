use Rattle.std.proofs.Common.{None, sym, ◌∙◌}
use Rattle.tl_css.specs.TextView.{part_bytes}
use Rattle.tl_css.proofs.Runs.{part_lt, word_some, word_other}
use Rattle.tl_css.proofs.text.run.is_word.Goals as goal

pub parts-smaller : goal.parts-smaller
parts-smaller c = part_lt None c.parts.left.now (part_bytes c.in-Some.part, c.in-Some.rest.now) c.in-Some.ensures

pub parts-preserved : goal.parts-preserved
parts-preserved c = word_some _ _ _ _ c.in-Some.ensures c.in-Some-after_part.ensures ∙ c.parts.invariant

pub returns-in_default-after_part : goal.returns-in_default-after_part
returns-in_default-after_part c = sym (word_other _ _ _ c.in-Some.ensures c.in_default-after_part.ensures) ∙ c.parts.invariant
