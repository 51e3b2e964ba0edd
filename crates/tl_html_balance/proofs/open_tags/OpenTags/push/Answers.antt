use Rattle.std.proofs.Common.{[], ◌∷◌, ◌++◌, bit_or, ap, ◌∙◌, refl}
use Rattle.tl_html_balance.specs.declared.open_tags.OpenTag.{OpenTag}
use Rattle.tl_html_balance.proofs.Opened.{at_err, push-open, same-open}
use Rattle.tl_html_balance.proofs.open_tags.OpenTags.push.Goals as goal

pub returns-in_err-reserve-clause-err : goal.returns-in_err-reserve-clause-err
returns-in_err-reserve-clause-err c =
    at_err c.from_residual.result (same-open c.args.self.now _ c.reserve.ensures.items refl)

pub returns-in_err-extend_from_slice-clause-err : goal.returns-in_err-extend_from_slice-clause-err
returns-in_err-extend_from_slice-clause-err c =
    at_err c.from_residual-in_err-extend_from_slice.result (same-open c.args.self.now _ c.reserve.ensures.items c.in_err-extend_from_slice.ensures.items)

pub returns-clause-ok : goal.returns-clause-ok
returns-clause-ok c =
    let tag : OpenTag = record {
      start = c.len-start.result;
      classes = c.args.name.now.classes;
      all_classes = bit_or c.args.name.now.classes c.all_classes-all_classes.result;
    } in
    push-open c.args.self.now _ tag c.args.name.now.bytes.now (c.len-start.ensures ∙ c.args.self.now.names.ok.0)
    (c.push_reserved.ensures.items ∙ ap (λ items. items ++ tag ∷ []) c.reserve.ensures.items) c.in_ok-extend_from_slice.ensures.items
