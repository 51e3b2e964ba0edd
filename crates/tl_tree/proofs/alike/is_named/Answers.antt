use Rattle.std.proofs.Common.{ap, ◌∙◌}
use Rattle.std.specs.Str.{bytes_eq}
use Rattle.tl_tree.proofs.AlikeTags.{name-at}
use Rattle.tl_tree.proofs.alike.is_named.Goals as goal

pub returns : goal.returns
returns c =
    c.eq.ensures
    ∙ ap (bytes_eq c.args.name.now) (c.bytes.ensures ∙ name-at c.args.store.now c.args.tag c.tag-own.result c.tag-own.ensures.stands)
