use Rattle.std.proofs.Common.{length, sym}
use Rattle.std.proofs.lemmas.List.{length-map}
use Rattle.tl.specs.View.{document_of, node_view}
use Rattle.tl_css_laws.proofs.SharedFound.{shared_found, shared_found_same}
use Rattle.tl_css_laws.proofs.laws.shared_texts_find_alike.Goals as goal

pub returns-clause-tags : goal.returns-clause-tags
returns-clause-tags c d text e found ns forest tame shared is query search =
    shared_found (document_of d).nodes text e (length d.nodes) ns forest tame shared (sym (length-map d.nodes node_view)) is search found query

pub returns-clause-same : goal.returns-clause-same
returns-clause-same c d text e found ns forest tame shared asks is query search =
    shared_found_same (document_of d).nodes text e (length d.nodes) ns forest tame shared (sym (length-map d.nodes node_view)) is search asks found query
