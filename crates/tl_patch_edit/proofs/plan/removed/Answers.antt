use Rattle.std.proofs.Common.{ap, sym, ◌∙◌, Some}
use Rattle.tl_patch_edit.specs.Asks.{planned_view}
use Rattle.tl_patch_edit.specs.View.{extent_view}
use Rattle.tl_patch_edit.specs.declared.ask.Planned.{Planned}
use Rattle.tl_patch_edit.proofs.Plans.{removes}
use Rattle.tl_patch_edit.proofs.plan.removed.Goals as goal

pub returns : goal.returns
returns c = λ name. removes (extent_view c.args.extent) c.args.number _ name (sym c.in-Some.is ∙ c.in_ok-until.ensures) ∙ ap (λ (p : Planned). Some (planned_view p)) (sym c.one.ensures)
