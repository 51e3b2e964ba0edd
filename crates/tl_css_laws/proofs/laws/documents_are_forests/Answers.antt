use Rattle.tl_css_laws.proofs.Fresh.{document_is_forest}
use Rattle.tl_css_laws.proofs.laws.documents_are_forests.Goals as goal

pub returns : goal.returns
returns c t = document_is_forest t
