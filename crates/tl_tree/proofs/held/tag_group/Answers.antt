use Rattle.std.proofs.Common.{ap, ◌∙◌}
use Rattle.tl_dom_spec.specs.Groups.{group}
use Rattle.tl_tree.proofs.AlikeTags.{name-at}
use Rattle.tl_tree.specs.Inner.Store.{bytes_of}
use Rattle.tl_tree.proofs.held.tag_group.Goals as goal

pub returns : goal.returns
returns c =
    let own = c.tag-tag.result in
    c.group_of.ensures (bytes_of c.args.store.now own.name) c.tag-tag.ensures.known
    ∙ ap group (name-at c.args.store.now c.args.number own c.tag-tag.ensures.stands)
