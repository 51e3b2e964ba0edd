use Rattle.std.proofs.Common.{ap, sym, ◌∙◌, Some}
use Rattle.tl_patch_edit.specs.Asks.{planned_view}
use Rattle.tl_patch_edit.specs.View.{content_view, extent_view}
use Rattle.tl_patch_edit.specs.declared.ask.Planned.{Planned}
use Rattle.tl_patch_edit.proofs.Plans.{appends}
use Rattle.tl_patch_edit.proofs.plan.appended.Goals as goal

pub returns : goal.returns
returns c = λ name. appends (extent_view c.args.extent) c.args.number _ (content_view c.args.content) name (c.in-Some.ensures) ∙ ap (λ (p : Planned). Some (planned_view p)) (sym c.one.ensures)
