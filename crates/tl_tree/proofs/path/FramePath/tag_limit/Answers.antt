use Rattle.std.proofs.Common.{arith}
use Rattle.tl_dom_spec.specs.Path.{has_tag}
use Rattle.tl_dom_spec.specs.Tags.{is_any, is_scope}
use Rattle.tl_tree.proofs.Skipped.{none-either, none-end, none-further, none-item-bound, none-named, none-nothing, none-special}
use Rattle.tl_tree.specs.Inner.NameLists.{list_of}
use Rattle.tl_tree.specs.Inner.Tests.{tag_test_of}
use Rattle.tl_tree.proofs.path.FramePath.tag_limit.Goals as goal

pub returns-in-Nothing-clause-skips : goal.returns-in-Nothing-clause-skips
returns-in-Nothing-clause-skips c =
    rw c.in-Nothing.is (none-nothing c.args.self.now 0)

pub returns-in-Named-clause-skips : goal.returns-in-Named-clause-skips
returns-in-Named-clause-skips c =
    rw c.in-Named.is (none-named c.in-Named.name.now c.args.self.now c.name_limit.result c.name_limit.ensures.skips)

pub returns-in-ScopeOr-clause-skips : goal.returns-in-ScopeOr-clause-skips
returns-in-ScopeOr-clause-skips c =
    let p = c.args.self.now in
    let scope = has_tag is_scope in
    let names = has_tag (is_any (list_of c.in-ScopeOr.names)) in
    let greater = c.max.ensures in
    rw c.in-ScopeOr.is
    (none-either scope names p c.max.result
    (none-further scope p c.kind_limit-in-ScopeOr.result c.max.result (omega arith) c.kind_limit-in-ScopeOr.ensures.skips)
    (none-further names p c.names_limit-in-ScopeOr.result c.max.result (omega arith) c.names_limit-in-ScopeOr.ensures.skips))

pub returns-in-ImpliedThoroughly-clause-skips : goal.returns-in-ImpliedThoroughly-clause-skips
returns-in-ImpliedThoroughly-clause-skips c =
    let own = c.args.self.now.frames.ok.0 in
    none-end (has_tag (tag_test_of c.args.test)) c.args.self.now c.len.result (omega arith)

pub returns-in-Special-clause-skips : goal.returns-in-Special-clause-skips
returns-in-Special-clause-skips c =
    rw c.in-Special.is (none-special c.in-Special.field-0 c.args.self.now c.kind_limit-in-Special.result c.kind_limit-in-Special.ensures.skips)

pub returns-in-ItemBound-clause-skips : goal.returns-in-ItemBound-clause-skips
returns-in-ItemBound-clause-skips c =
    rw c.in-ItemBound.is (none-item-bound c.in-ItemBound.field-0 c.args.self.now c.kind_limit-in-ItemBound.result c.kind_limit-in-ItemBound.ensures.skips)
