use Rattle.std.proofs.Common.{ap, sym, ◌∙◌, Some}
use Rattle.tl_html_parts.specs.Parts.{name_of}
use Rattle.tl_patch_edit.specs.Asks.{planned_view}
use Rattle.tl_patch_edit.specs.View.{content_view, extent_view}
use Rattle.tl_patch_edit.specs.declared.ask.Planned.{Planned}
use Rattle.tl_patch_edit.proofs.Plans.{none_behind, puts_behind}
use Rattle.tl_patch_edit.proofs.plan.put_behind.Goals as goal

pub returns-then-ends_page : goal.returns-then-ends_page
returns-then-ends_page c = none_behind (extent_view c.args.extent) c.args.number (content_view c.args.content) (name_of c.args.raw.now) (sym c.in_ok-ends_page.ensures ∙ c.if-ends_page.true)

pub returns : goal.returns
returns c = puts_behind (extent_view c.args.extent) c.args.number _ (content_view c.args.content) (name_of c.args.raw.now) (sym c.in_ok-ends_page.ensures ∙ c.if-ends_page.false) (sym c.in-Some.is ∙ c.in_ok-until.ensures)
    ∙ ap (λ (p : Planned). Some (planned_view p)) (sym c.one.ensures)
