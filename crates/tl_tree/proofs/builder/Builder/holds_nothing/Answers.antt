use Rattle.std.proofs.Common.{ap, ◌∙◌}
use Rattle.tl_dom_spec.specs.Tables.{no_bytes}
use Rattle.tl_tree.specs.Inner.Builders.{builder_of}
use Rattle.tl_tree.proofs.builder.Builder.holds_nothing.Goals as goal

pub returns : goal.returns
unfolding builder_of
returns c = c.are_none.ensures ∙ ap no_bytes c.deref.ensures.value
