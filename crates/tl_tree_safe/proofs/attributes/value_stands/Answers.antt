use Rattle.std.proofs.Common.{sym, ◌∙◌}
use Rattle.tl_tree_safe.proofs.KeptValues.{stands_kept, stands_whole}
use Rattle.tl_tree_safe.specs.Policies.{listed_words}
use Rattle.tl_tree_safe.proofs.attributes.value_stands.Goals as goal

pub returns-then-stays_whole : goal.returns-then-stays_whole
returns-then-stays_whole c =
    let p = listed_words c.args.lists.now in
    (stands_whole p c.args.key.now c.args.value.now c.value_kind_at-kind.result c.lists_whole.result
    c.value_kind_at-kind.ensures (sym c.stays_whole.ensures ∙ c.if-stays_whole.true) c.lists_whole.ensures).0

pub returns : goal.returns
returns c =
    let p = listed_words c.args.lists.now in
    (stands_kept p c.args.key.now c.args.value.now c.value_kind_at-kind.result c.deref.result.now c.lists_by.result
    c.value_kind_at-kind.ensures (c.deref.ensures.value ∙ c.in_ok-kept.ensures) c.lists_by.ensures).0
