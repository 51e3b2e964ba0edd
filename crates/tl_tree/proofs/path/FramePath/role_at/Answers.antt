use Rattle.std.proofs.Common.{ap, ◌∙◌}
use Rattle.tl_dom_spec.specs.Tags.{Tag}
use Rattle.tl_tree.specs.Inner.Roles.{role_of}
use Rattle.tl_tree.specs.Inner.Store.{tag_at}
use Rattle.tl_tree.proofs.path.FramePath.role_at.Goals as goal

pub returns : goal.returns
returns c =
    let s = c.args.self.now.store in
    c.role_of.ensures s c.tag.ensures.known
    ∙ (ap (λ (t : Tag). role_of t c.tag.result.number) c.tag.ensures.stands
    ∙ ap (role_of (tag_at s c.args.tag)) c.tag.ensures.number)
