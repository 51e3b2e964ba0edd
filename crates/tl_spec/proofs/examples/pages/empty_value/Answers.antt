use Rattle.std.proofs.Common.{refl, codes}
use Rattle.tl_spec.specs.Tree.Document.{document}
use Rattle.tl_spec.proofs.Print.Ascii.{document_print-ascii}
use Rattle.tl_spec.proofs.examples.pages.empty_value.Goals as goal

pub returns-clause-prints : goal.returns-clause-prints
returns-clause-prints c = document_print-ascii (document (codes "<p a=>")) refl
