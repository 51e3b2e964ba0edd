use Rattle.std.proofs.Common.{ap}
use Rattle.tl_spec.specs.Tree.Document.{Document, document}
use Rattle.tl_spec.specs.Lookup.Scan.{has_id, is_in_class}
use Rattle.tl_spec.proofs.Lookup.Scans.{first_is, places_are}
use Rattle.tl.specs.Lookup.{with_id, with_member}
use Rattle.tl.proofs.Lookups.{fresh_id, fresh_member}
use Rattle.tl.proofs.laws.lookups_find_tags_of_the_text.Goals as goal

pub returns-clause-id : goal.returns-clause-id
returns-clause-id c = λ d t id e h. first_is (has_id id.list) (document t).nodes (with_id d id) (fresh_id d (document t).nodes id (ap (λ (x : Document). x.nodes) e) h)

pub returns-clause-class : goal.returns-clause-class
returns-clause-class c = λ d t member e h. places_are (is_in_class member) (document t).nodes (with_member d member) (fresh_member d (document t).nodes member (ap (λ (x : Document). x.nodes) e) h)
