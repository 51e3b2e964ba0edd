use Rattle.tl_patch_edit.proofs.Open.{inside_with}
use Rattle.std.proofs.Common.{List, Option, ap, ◌∙◌}
use Rattle.tl_patch_edit.specs.Open.{open_of}
use Rattle.tl_patch_edit.specs.declared.left_open.OpenElement.{OpenElement}
use Rattle.tl_patch_edit.proofs.left_open.with_inside.Goals as goal

pub returns : goal.returns
returns c =
    inside_with c.args.left.now.before.items c.args.left.now.inside.items c.args.left.now.own.items c.set_open.new.left.items c.args.one c.args.end c.open_at-inner.result
    (c.open_at-inner.ensures ∙ ap (λ (xs : List (Option OpenElement)). open_of xs c.args.end) c.as_slice.ensures.value) c.set_open.ensures
