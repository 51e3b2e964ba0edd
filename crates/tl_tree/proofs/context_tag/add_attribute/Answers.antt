use Rattle.std.proofs.lemmas.Result.{on_ok_weaker}
use Rattle.tl_tree.proofs.Contexts.{attribute-added}
use Rattle.tl_tree.proofs.Grown.{grows_trans}
use Rattle.tl_tree.proofs.context_tag.add_attribute.Goals as goal

pub returns-clause-stands : goal.returns-clause-stands
returns-clause-stands c =
    on_ok_weaker c.add_attribute.result
    (attribute-added c.args.store.now c.add_bytes.new.self c.add_bytes-2.new.self c.add_attribute.new.self
    c.add_bytes.ensures.grows c.add_bytes-2.ensures.grows c.add_attribute.ensures.grows
    c.in_ok-key.key c.in_ok-value.value c.in_ok-key.ensures.within c.in_ok-value.ensures.within
    c.args.key.now c.args.value.now c.in_ok-key.ensures.stands c.in_ok-value.ensures.stands
    c.add_bytes.ensures.attributes c.add_bytes-2.ensures.attributes)
    c.add_attribute.ensures.stands

pub returns-in_err-value-clause-grows : goal.returns-in_err-value-clause-grows
returns-in_err-value-clause-grows c =
    grows_trans c.args.store.now c.add_bytes.new.self c.add_bytes-2.new.self c.add_bytes.ensures.grows c.add_bytes-2.ensures.grows

pub returns-clause-grows : goal.returns-clause-grows
returns-clause-grows c =
    let s = c.args.store.now in
    let u = c.add_bytes-2.new.self in
    grows_trans s u c.add_attribute.new.self (grows_trans s c.add_bytes.new.self u c.add_bytes.ensures.grows c.add_bytes-2.ensures.grows) c.add_attribute.ensures.grows
