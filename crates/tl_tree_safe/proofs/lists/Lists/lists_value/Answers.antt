use Rattle.std.proofs.Common.{ap, sym, ◌∙◌}
use Rattle.tl_tree_safe.proofs.KeptValues.{listed_at}
use Rattle.tl_tree_safe.specs.Inner.ValueKinds.{is_listed_by}
use Rattle.tl_tree_safe.specs.Policies.{listed_words}
use Rattle.tl_tree_safe.specs.declared.value_kind.ValueKind.{ValueKind}
use Rattle.tl_tree_safe.proofs.lists.Lists.lists_value.Goals as goal

pub returns : goal.returns
returns c =
    let p = listed_words c.args.self.now in
    c.lists_by.ensures
    ∙ ap (λ (kind : ValueKind). is_listed_by p kind c.args.key.now c.args.value.now) c.value_kind_at.ensures
    ∙ sym (listed_at p c.args.key.now c.args.value.now)
