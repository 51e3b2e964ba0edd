use Rattle.std.proofs.Common.{ap, ◌∙◌}
use Rattle.tl_dom_spec.specs.Tags.{is_implied}
use Rattle.tl_tree.specs.Inner.Store.{bytes_of, tag_of}
use Rattle.tl_tree.proofs.test.is_implied_tag.Goals as goal

pub returns : goal.returns
unfolding tag_of
returns c =
    c.is_implied.ensures (bytes_of c.args.store.now c.tag-tag.result.name) c.tag-tag.ensures.known
    ∙ ap is_implied c.tag-tag.ensures.stands
