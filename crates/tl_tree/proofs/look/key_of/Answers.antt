use Rattle.std.proofs.Common.{ap, sym, ◌∙◌}
use Rattle.tl_tree.proofs.AlikeTags.{name-at}
use Rattle.tl_tree.specs.Inner.Looks.{key_of, read_on}
use Rattle.tl_tree.specs.Inner.Store.{tag_at}
use Rattle.tl_tree.specs.declared.look.Key.{Key}
use Rattle.tl_tree.proofs.look.key_of.Goals as goal

pub returns-in-Name : goal.returns-in-Name
returns-in-Name c =
    let s = c.args.store.now in
    let own = tag_at s c.args.tag in
    c.read_on.ensures
    ∙ (ap (read_on 0) (c.bytes.ensures ∙ name-at s c.args.tag c.tag-own.result c.tag-own.ensures.stands)
    ∙ ap (λ (k : Key). key_of k own) (sym c.in-Name.is))
