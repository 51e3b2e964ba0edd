use Rattle.std.proofs.Common.{ap, ◌∙◌}
use Rattle.tl_dom_spec.specs.Path.{Frame}
use Rattle.tl_tree.specs.Inner.Tests.{tag_test_of}
use Rattle.tl_tree.specs.Inner.Builders.{builder_of}
use Rattle.tl_tree.proofs.builder.Builder.is_current.Goals as goal

pub returns : goal.returns
unfolding builder_of
returns c = c.passes.ensures ∙ ap (λ (f : Frame). tag_test_of c.args.test f.tag) c.top.ensures.stands
