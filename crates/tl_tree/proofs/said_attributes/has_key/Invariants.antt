use Rattle.std.proofs.Common.{◌≡◌, drop}
use Rattle.tl_dom_spec.specs.Tags.{has_attribute}
use Rattle.tl_tree.specs.Inner.Said.{attributes_in}
use Rattle.tl_tree.proofs.said_attributes.has_key.Given as goal

abbrev pub invariant-loop-entry : goal.invariant-loop-entry
invariant-loop-entry l =
    has_attribute l.own (attributes_in l.store l.entries) ≡ has_attribute l.own (attributes_in l.store (drop l.entry-index l.entries))
