use Rattle.tl_spec.specs.Lookup.Scan.{has_id, is_in_class}
use Rattle.tl_spec.proofs.Lookup.Scans.{first_is, first_only, places_are, places_only}
use Rattle.tl_spec.proofs.laws.scans.Goals as goal

pub returns-clause-id : goal.returns-clause-id
returns-clause-id c = λ nodes i n. (first_only (has_id i) nodes n, first_is (has_id i) nodes n)

pub returns-clause-class : goal.returns-clause-class
returns-clause-class c = λ nodes k ns. (places_only (is_in_class k) nodes ns, places_are (is_in_class k) nodes ns)
