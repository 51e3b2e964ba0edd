use Rattle.std.proofs.Common.{List, ap, length, map, refl, ◌∙◌, ℕ}
use Rattle.tl_patch_edit.specs.declared.error.EditError.TheVariants.{NoStartTag}
use Rattle.tl_patch_select.specs.Partly.{others, put_in_places}
use Rattle.tl_patch_select.proofs.partly.tagged_nodes.Goals as goal

pub returns-clause-tagged : goal.returns-clause-tagged
returns-clause-tagged c = record {
  unstarted = c.in_ok-unstarted.unstarted.items;
  are_unstarted = c.in_ok-unstarted.ensures;
  is_left = c.in_ok-numbers.ensures ∙ ap (λ (ts : List ℕ). others c.args.tree.now ts c.args.numbers.now) c.as_slice-3.ensures.value;
  whole = c.new.ensures.items;
  told = c.in_ok-refused.ensures ∙ ap (map NoStartTag) c.as_slice-2.ensures.value;
}

pub returns-clause-untagged : goal.returns-clause-untagged
returns-clause-untagged c = c.in_ok-untagged.ensures ∙ ap (put_in_places c.args.tree.now (length c.args.page.now)) (c.as_slice.ensures.value ∙ c.in_ok-back.ensures)
