use Rattle.std.proofs.Common.{◌++◌, codes, ap, ap₂, sym, ◌∙◌, is_some}
use Rattle.std.proofs.lemmas.Bool.{and_from}
use Rattle.std.proofs.lemmas.List.{take_rest}
use Rattle.tl_patch.proofs.Changes.{end_renamed}
use Rattle.tl_patch.proofs.tag.with_end_name.Goals as goal

pub returns : goal.returns
returns c =
    let first = c.in_ok-extend_from_slice.ensures.items in
    let second = c.in_ok-extend_from_slice-2.ensures.items in
    let third = c.in_ok-extend_from_slice-3.ensures.items in
    let changed = end_renamed c.args.tag.now c.args.name.now c.extend_from_slice-3.new.self.items c.in-Some.end c.in-Some.ensures.ends
    (sym c.is_name.ensures ∙ c.if-not-is_name.false)
    (third ∙ ap₂ (λ items rest. items ++ rest)
    (second ∙ ap (λ items. items ++ c.args.name.now) (first ∙ ap (λ items. items ++ codes "</") c.new-new_tag.ensures.items))
    (take_rest c.args.tag.now c.in-Some.end)) in
    record {
      renamed = changed;
      some = sym (and_from _ _ (sym c.is_name.ensures ∙ c.if-not-is_name.false) (sym c.end_name_end.ensures.some ∙ ap is_some c.in-Some.is));
    }
