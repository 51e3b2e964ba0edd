use Rattle.std.proofs.Common.{sym, ◌∙◌}
use Rattle.tl_tree.proofs.AlikeTags.{alike-at}
use Rattle.tl_tree.proofs.alike.is_alike.Goals as goal

pub returns : goal.returns
returns c =
    c.are_alike.ensures
    ∙ sym (alike-at c.args.store.now c.args.own c.args.other c.tag-first.result c.tag-second.result c.tag-first.ensures.within c.tag-second.ensures.within c.tag-first.ensures.stands c.tag-second.ensures.stands)
