use Rattle.std.proofs.Common.{ap, ◌∙◌}
use Rattle.tl_dom_spec.specs.Tags.{Tag}
use Rattle.tl_tree.proofs.Asked.{name-of}
use Rattle.tl_tree.proofs.builder.Builder.copied_name.Goals as goal

pub returns : goal.returns
returns c =
    let s = c.args.self.now.path.store in
    let own = c.tag-own.result in
    c.in_ok-from_slice.ensures.items ∙ (c.bytes.ensures ∙ (name-of s own ∙ ap (λ (t : Tag). t.name) c.tag-own.ensures.stands))
