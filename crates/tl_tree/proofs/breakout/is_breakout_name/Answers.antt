use Rattle.std.proofs.Common.{ap, ◌∙◌}
use Rattle.tl_dom_spec.specs.Dispatcher.{breakout_names}
use Rattle.tl_html_spec.specs.Balanced.{is_one_of}
use Rattle.tl_names.specs.TagSets.{names_in}
use Rattle.tl_names.specs.declared.class.Class.TheVariants.{Breakout}
use Rattle.tl_tree.proofs.AlikeTags.{name-at}
use Rattle.tl_tree.proofs.NumberedNames.{class-told}
use Rattle.tl_tree.specs.Inner.Store.{bytes_of}
use Rattle.tl_tree.proofs.breakout.is_breakout_name.Goals as goal

pub returns : goal.returns
unfolding names_in
returns c =
    let own = c.tag-tag.result in
    c.is.ensures
    ∙ (class-told Breakout own.known (bytes_of c.args.store.now own.name) c.tag-tag.ensures.known
    ∙ ap (is_one_of breakout_names) (name-at c.args.store.now c.args.number own c.tag-tag.ensures.stands))
