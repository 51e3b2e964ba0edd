use Rattle.std.proofs.Common.{ap, arith, length, ◌∙◌, ◌+◌, nat_le}
use Rattle.std.proofs.lemmas.Bool.{and_from, le-leb, ltb-true}
use Rattle.std.proofs.lemmas.Result.{IfOk-weaker}
use Rattle.tl_dom_spec.specs.Tags.{bare_tag}
use Rattle.tl_tree.proofs.Built.{bare-tag-of}
use Rattle.tl_tree.proofs.Grown.{grows_trans}
use Rattle.tl_tree.specs.Inner.Store.{is_span, list_in}
use Rattle.tl_tree.specs.declared.entries.AttributeList.TheVariants.{Tags}
use Rattle.tl_tree.proofs.store.Store.add_bare_tag.Goals as goal

pub add_tag-requires : goal.add_tag-requires
add_tag-requires c =
    let s = c.add_bytes.new.self in
    and_from (is_span s c.in_ok-name.name) (nat_le (0 + 0) (length (list_in s Tags))) c.in_ok-name.ensures.within (le-leb (0 + 0) (length (list_in s Tags)) (omega arith))

pub returns-clause-stands : goal.returns-clause-stands
returns-clause-stands c =
    IfOk-weaker c.add_tag.result _ _
    (λ n is. is ∙ (bare-tag-of c.add_bytes.new.self c.in_ok-name.name ∙ ap bare_tag c.in_ok-name.ensures.stands))
    c.add_tag.ensures.stands

pub returns-clause-within : goal.returns-clause-within
returns-clause-within c =
    IfOk-weaker c.add_tag.result _ _ (λ n h. ltb-true n (length c.add_tag.new.self.tags.items) h) c.add_tag.ensures.within

pub returns-clause-grows : goal.returns-clause-grows
returns-clause-grows c =
    grows_trans c.args.self.now c.add_bytes.new.self c.add_tag.new.self c.add_bytes.ensures.grows c.add_tag.ensures.grows
