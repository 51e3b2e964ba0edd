use Rattle.std.proofs.Common.{Bool, ap, sym, ◌∙◌}
use Rattle.tl_patch_spec.specs.LeftOpen.{ended_with}
use Rattle.tl_patch_edit.specs.Open.{left_view, one_view}
use Rattle.tl_patch_edit.specs.View.{extent_view}
use Rattle.tl_patch_edit.proofs.Open.{open_with_end, open_with_none}
use Rattle.tl_patch_edit.proofs.left_open.open_with.Goals as goal

pub returns-in_default : goal.returns-in_default
returns-in_default c = open_with_none (one_view c.args.one) (extent_view c.args.extent) (left_view c.args.left.now) (sym c.inside_end.ensures ∙ c.in_default.is)

pub returns : goal.returns
returns c =
    c.ended_with.ensures ∙ ap (λ (v : Bool). ended_with (one_view c.args.one) c.in-Some.end v (left_view c.args.left.now)) c.in_ok-is_open.ensures
    ∙ sym (open_with_end (one_view c.args.one) (extent_view c.args.extent) c.in-Some.end (left_view c.args.left.now) (sym c.inside_end.ensures ∙ c.in-Some.is))
