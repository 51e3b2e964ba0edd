use Rattle.std.proofs.Common.{ap, get_or, ℕ, ◌∙◌}
use Rattle.tl_names.specs.ElementNames.{number_of}
use Rattle.tl_names.specs.declared.element_name.ElementName.{ElementName}
use Rattle.tl_tree_extract.proofs.BoxTable.{box-told}
use Rattle.tl_tree_extract.specs.declared.text.display.Display.TheVariants.{Hidden}
use Rattle.tl_tree_extract.specs.declared.text.display.TheConstants.{BOXES}
use Rattle.tl_tree_extract.proofs.text.display.common_box.Goals as goal

pub returns : goal.returns
returns c n e =
    ap (λ (k : ℕ). get_or BOXES k Hidden) (c.number.ensures ∙ ap (λ (name : ElementName). number_of name) e) ∙ box-told n
