use Rattle.std.proofs.Common.{Option, ap, sym, ◌++◌, ◌∙◌}
use Rattle.std.specs.Option.{option_to_list}
use Rattle.std.specs.Prelude.{option_map}
use Rattle.tl_patch_spec.specs.LeftOpen.{closed_all}
use Rattle.tl_patch_edit.specs.Open.{closing_asks, closing_view, left_view}
use Rattle.tl_patch_edit.specs.declared.left_open.Closing.{Closing}
use Rattle.tl_patch_edit.proofs.Open.{no_closing_asked, no_closing_closed}
use Rattle.tl_patch_edit.proofs.left_open.push_closing.Goals as goal

pub returns-in_default-clause-asks : goal.returns-in_default-clause-asks
returns-in_default-clause-asks c = no_closing_asked c.args.start c.args.at c.args.closing c.args.left.now c.args.out.now.items c.in_default.is

pub returns-in_default-clause-left : goal.returns-in_default-clause-left
returns-in_default-clause-left c = no_closing_closed c.args.closing (left_view c.args.left.now) c.in_default.is

pub returns-clause-asks : goal.returns-clause-asks
returns-clause-asks c =
    c.in_ok-push_end_tag.ensures.asks ∙ ap (λ (x : Option Closing). c.args.out.now.items ++ closing_asks c.args.start c.args.at x c.args.left.now) (sym c.in-Some.is)

pub returns-clause-left : goal.returns-clause-left
returns-clause-left c =
    c.in_ok-push_end_tag.ensures.left ∙ ap (λ (x : Option Closing). closed_all (left_view c.args.left.now) (option_to_list (option_map closing_view x))) (sym c.in-Some.is)
