use Rattle.std.proofs.Common.{ap, ◌∙◌}
use Rattle.std.specs.Char.{is_ascii_whitespace}
use Rattle.std.specs.List.{list_all}
use Rattle.tl_tree.specs.Inner.Builders.{builder_of}
use Rattle.tl_tree.proofs.builder.Builder.holds_blanks.Goals as goal

pub returns : goal.returns
unfolding builder_of
returns c = c.are_blank.ensures ∙ ap (list_all is_ascii_whitespace) c.deref.ensures.value
