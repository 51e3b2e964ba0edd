use Rattle.std.proofs.Common.{Bool, List, OnOk, ap₂, subst, sym, ℕ, ◌++◌, ◌∙◌, ◌≡◌}
use Rattle.tl_tree_safe.proofs.KeptValues.{stands_kept, stands_whole}
use Rattle.tl_tree_safe.specs.Inner.Attributes.{pair_where}
use Rattle.tl_tree_safe.specs.Policies.{listed_words}
use Rattle.tl_tree_safe.proofs.attributes.write_value.Goals as goal

pub returns-then-stays_whole : goal.returns-then-stays_whole
returns-then-stays_whole c =
    let p = listed_words c.args.lists.now in
    let key : List ℕ = c.args.key.now in
    let stands =
    stands_whole p key c.args.value.now c.value_kind_at-kind.result c.lists_whole.result
    c.value_kind_at-kind.ensures (sym c.stays_whole.ensures ∙ c.if-stays_whole.true) c.lists_whole.ensures in
    subst (λ (s : List ℕ). OnOk c.write_where.result (c.write_where.new.out.items ≡ c.args.out.now.items ++ s))
    (ap₂ (λ (v : Bool) (s : List ℕ). pair_where v key s) stands.0 stands.1)
    c.write_where.ensures

pub returns : goal.returns
returns c =
    let p = listed_words c.args.lists.now in
    let key : List ℕ = c.args.key.now in
    let stands =
    stands_kept p key c.args.value.now c.value_kind_at-kind.result c.deref.result.now c.lists_by.result
    c.value_kind_at-kind.ensures (c.deref.ensures.value ∙ c.in_ok-kept.ensures) c.lists_by.ensures in
    subst (λ (s : List ℕ). OnOk c.write_where-2.result (c.write_where-2.new.out.items ≡ c.args.out.now.items ++ s))
    (ap₂ (λ (v : Bool) (s : List ℕ). pair_where v key s) stands.0
    (c.deref-2.ensures.value ∙ sym c.deref.ensures.value ∙ stands.1))
    c.write_where-2.ensures
