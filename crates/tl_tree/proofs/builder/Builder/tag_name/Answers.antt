use Rattle.std.proofs.Common.{ap, length, ◌∙◌}
use Rattle.std.proofs.lemmas.Bool.{lt-ltb}
use Rattle.tl_dom_spec.specs.Tags.{Tag}
use Rattle.tl_tree.specs.Inner.Builders.{token_of}
use Rattle.tl_tree.specs.Inner.Store.{tag_of}
use Rattle.tl_tree.proofs.builder.Builder.tag_name.Goals as goal

pub tag-tag-requires : goal.tag-tag-requires
tag-tag-requires c =
    let b = c.args.self.now in
    lt-ltb b.tag (length b.path.store.tags.items) b.known.own

pub returns : goal.returns
unfolding token_of tag_of
returns c = c.bytes.ensures ∙ ap (λ (t : Tag). t.name) c.tag-tag.ensures.stands
