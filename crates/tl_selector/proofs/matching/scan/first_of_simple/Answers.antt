use Rattle.std.proofs.Common.{map, refl, sym, ◌∙◌}
use Rattle.tl_spec.specs.Tree.Document.{Node}
use Rattle.tl_spec.specs.Tree.Element.{name_of}
use Rattle.tl_spec.specs.Lookup.Scan.{is_value, has_id, is_in_class}
use Rattle.tl_spec.proofs.Lookup.Scans.{first_is}
use Rattle.tl_spec.specs.Select.Selector.{All}
use Rattle.tl_spec.specs.Select.Search.{holds_alone}
use Rattle.tl_selector.specs.View.{selector}
use Rattle.tl_selector.proofs.Parts.{first_of_all}
use Rattle.tl_selector.proofs.matching.scan.first_of_simple.Goals as goal
use Rattle.std.proofs.Common.{Bool}

pub returns-in-Tag-clause-first : goal.returns-in-Tag-clause-first
returns-in-Tag-clause-first g c =
    let passes : Node → Bool = λ d. is_value c.in-Tag.name.now (name_of d) in
    rw c.in-Tag.is (first_is passes (map g.N.Element.node c.args.nodes.now) c.first_named.result c.first_named.ensures.place)

pub returns-in-Id-clause-first : goal.returns-in-Id-clause-first
returns-in-Id-clause-first g c =
    rw c.in-Id.is (first_is (has_id c.in-Id.id.now) (map g.N.Element.node c.args.nodes.now) c.first_with_id.result c.first_with_id.ensures.scan)

pub returns-in-Class-clause-first : goal.returns-in-Class-clause-first
returns-in-Class-clause-first g c =
    rw c.in-Class.is (first_is (is_in_class c.in-Class.class.now) (map g.N.Element.node c.args.nodes.now) c.first_in_class.result c.first_in_class.ensures.scan)

pub returns-in-All-clause-first : goal.returns-in-All-clause-first
returns-in-All-clause-first g c =
    rw c.in-All.is (first_of_all g.N.Element.node c.args.nodes.now (holds_alone All) (λ x. refl) (sym c.is_empty.ensures ∙ c.if-not-is_empty.true))

pub returns-in_default-clause-first : goal.returns-in_default-clause-first
returns-in_default-clause-first g c =
    first_is (holds_alone (selector c.args.part.now)) (map g.N.Element.node c.args.nodes.now) c.first_match.result c.first_match.ensures.place
