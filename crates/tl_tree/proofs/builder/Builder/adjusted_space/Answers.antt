use Rattle.std.proofs.Common.{ap, ◌∙◌}
use Rattle.tl_dom_spec.specs.Tags.{Tag}
use Rattle.tl_tree.specs.Inner.Store.{tag_of}
use Rattle.tl_tree.proofs.builder.Builder.adjusted_space.Goals as goal

pub returns : goal.returns
unfolding tag_of
returns c = ap (λ (t : Tag). t.space) (c.tag.ensures.stands ∙ c.adjusted_tag.ensures.stands)
