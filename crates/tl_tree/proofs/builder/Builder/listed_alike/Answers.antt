use Rattle.std.proofs.Common.{List, ap, ◌∙◌, ℕ}
use Rattle.tl_dom_spec.specs.Formatting.{listed}
use Rattle.tl_dom_spec.specs.Tags.{Tag}
use Rattle.tl_tree.proofs.Asked.{name-of}
use Rattle.tl_tree.specs.Inner.Active.{active_of}
use Rattle.tl_tree.specs.Inner.Builders.{builder_of, token_of}
use Rattle.tl_tree.proofs.builder.Builder.listed_alike.Goals as goal

pub returns-clause-stands : goal.returns-clause-stands
unfolding builder_of token_of
returns-clause-stands c =
    let b = c.args.self.now in
    let s = b.path.store in
    c.listed.ensures.stands
    ∙ ap (λ (name : List ℕ). listed name (active_of s b.active))
    (c.bytes-name.ensures ∙ (name-of s c.tag-own.result ∙ ap (λ (t : Tag). t.name) c.tag-own.ensures.stands))
