use Rattle.std.proofs.Common.{Option, ap, sym, ◌∙◌}
use Rattle.tl_patch_spec.specs.LeftOpen.{closed_if}
use Rattle.tl_patch_edit.specs.Open.{left_view, open_view}
use Rattle.tl_patch_edit.specs.declared.left_open.OpenElement.{OpenElement}
use Rattle.tl_patch_edit.proofs.Open.{closed_own}
use Rattle.tl_patch_edit.proofs.left_open.close_if.Goals as goal

pub returns-in_default : goal.returns-in_default
returns-in_default c = ap (λ (x : Option OpenElement). closed_if (left_view c.args.left.now) (open_view x)) (sym c.in_default.is)

pub returns : goal.returns
returns c =
    closed_own c.args.left.now.before.items c.args.left.now.inside.items c.args.left.now.own.items c.set_open.new.left.items c.in-Some.one.start c.set_open.ensures
    ∙ ap (λ (x : Option OpenElement). closed_if (left_view c.args.left.now) (open_view x)) (sym c.in-Some.is)
