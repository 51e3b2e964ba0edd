use Rattle.std.proofs.Common.{◌++◌, take, ap, ap₂, sym, ◌∙◌, is_some}
use Rattle.std.proofs.lemmas.Bool.{and_from}
use Rattle.std.proofs.lemmas.List.{take_rest}
use Rattle.tl_patch_spec.specs.Markup.{attribute_markup}
use Rattle.tl_patch.proofs.Changes.{added_is}
use Rattle.tl_patch.proofs.tag.with_attribute.Goals as goal

pub returns : goal.returns
returns c =
    let first = c.in_ok-extend_from_slice.ensures.items in
    let second = c.in_ok-write_attribute.ensures in
    let third = c.in_ok-extend_from_slice-2.ensures.items in
    let changed = added_is c.args.tag.now c.args.key.now c.args.value.now c.extend_from_slice-2.new.self.items c.in-Some.end c.in-Some.ensures.ends
    (sym c.is_key.ensures ∙ c.if-not-is_key.false) (sym c.is_value.ensures ∙ c.if-not-is_value.false)
    (third ∙ ap₂ (λ items rest. items ++ rest)
    (second ∙ ap (λ items. items ++ attribute_markup c.args.key.now c.args.value.now) (first ∙ ap (λ items. items ++ take c.in-Some.end c.args.tag.now) c.new-new_tag.ensures.items))
    (take_rest c.args.tag.now c.in-Some.end)) in
    record {
      added = changed;
      some = sym (and_from _ _ (sym c.is_key.ensures ∙ c.if-not-is_key.false) (and_from _ _ (sym c.is_value.ensures ∙ c.if-not-is_value.false) (sym c.start_name_end.ensures.some ∙ ap is_some c.in-Some.is)));
    }
