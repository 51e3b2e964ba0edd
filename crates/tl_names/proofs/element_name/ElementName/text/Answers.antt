use Rattle.tl_names.proofs.ElementNames.{text_in_names}
use Rattle.tl_names.proofs.element_name.ElementName.text.Goals as goal

pub returns : goal.returns
returns c = text_in_names c.args.self c.text_in.result c.text_in.ensures
