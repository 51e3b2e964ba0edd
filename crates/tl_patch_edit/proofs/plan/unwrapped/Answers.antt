use Rattle.std.proofs.Common.{◌≡◌, ℕ, List, Option, [], ◌∙◌}
use Rattle.std.specs.Prelude.{Err, IfOk, Ok, Result, option_map}
use Rattle.tl_patch_spec.specs.Patches.{Extent, Unwrap, asked}
use Rattle.tl_patch_edit.specs.Asks.{planned_view, tags_asked}
use Rattle.tl_patch_edit.specs.View.{extent_view}
use Rattle.tl_patch_edit.specs.declared.ask.Planned.{Planned}
use Rattle.tl_patch_edit.proofs.Plans.{unwrap_is}
use Rattle.tl_patch_edit.proofs.plan.unwrapped.Goals as goal

each : {E : Type 0} (e : Extent) (n : ℕ) (r : Result (Option Planned) E) → IfOk r (λ o. tags_asked n e [] ≡ option_map planned_view o) →
    IfOk r (λ o. (name : List ℕ) → asked Unwrap n e name ≡ option_map planned_view o)
each e n (Err x) h = h
each e n (Ok o) h = λ name. unwrap_is e n name ∙ h

pub returns : goal.returns
returns c = each (extent_view c.args.extent) c.args.number c.tags.result c.tags.ensures
