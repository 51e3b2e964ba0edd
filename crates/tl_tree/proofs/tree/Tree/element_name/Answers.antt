use Rattle.std.proofs.Common.{◌∙◌, Some, ap}
use Rattle.std.specs.Option.{option_map}
use Rattle.tl_names.specs.ElementNames.{name_of as element_name_of}
use Rattle.tl_tree.proofs.Asks.{name-stands}
use Rattle.tl_tree.proofs.tree.Tree.element_name.Goals as goal

pub returns : goal.returns
returns c =
    let found = c.in_ok-tag.ensures.lookup in
    ap Some c.tag.ensures.known
    ∙ ap (option_map element_name_of) (name-stands c.args.self.now c.args.number c.in-Element.tag c.deref.result.now c.in_ok-tag.field-0.now c.tag.result
    c.deref.ensures.value found.0 found.1 c.in-Element.is c.tag.ensures.stands)
