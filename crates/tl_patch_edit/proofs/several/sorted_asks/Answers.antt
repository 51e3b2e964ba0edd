use Rattle.std.proofs.Common.{List, ap, sym, ◌∙◌, ℕ}
use Rattle.tl_html_spec.specs.Pieces.{pieces, runs}
use Rattle.tl_patch_spec.specs.LeftOpen.{LeftOpen}
use Rattle.tl_patch_spec.specs.Patches.{Patch}
use Rattle.tl_patch_spec.specs.Together.{asked_from, none_gone}
use Rattle.tl_patch_edit.specs.Errors.{pieces_in}
use Rattle.tl_patch_edit.specs.Inner.Causes.{IsPlanned}
use Rattle.std.proofs.lemmas.List.Sorted.{All-permutation}
use Rattle.tl_patch_edit.specs.View.{meant_view}
use Rattle.tl_patch_edit.proofs.Together.{sorted}
use Rattle.tl_patch_edit.proofs.several.sorted_asks.Goals as goal

pub asks_of-requires-clause-left : goal.asks_of-requires-clause-left
asks_of-requires-clause-left c =
    let patches : List (ℕ × Patch) = meant_view c.args.meant.now in
    c.requires.left ∙ ap (λ (left : LeftOpen). asked_from (pieces_in c.args.page.now) 0 none_gone left patches) (sym c.without_ended.ensures)

pub returns-clause-sorted : goal.returns-clause-sorted
returns-clause-sorted c =
    sorted (runs (pieces c.args.page.now)) (meant_view c.args.meant.now) c.in_ok-asks.asks.items c.sort_asks.new.asks.items
    c.in_ok-asks.ensures.asks c.sort_asks.ensures.permutation c.in_ok-sort_asks.ensures.in_turn

pub returns-clause-planned : goal.returns-clause-planned
returns-clause-planned c =
    All-permutation (IsPlanned c.args.meant.now) c.in_ok-asks.asks.items c.sort_asks.new.asks.items c.sort_asks.ensures.permutation c.in_ok-asks.ensures.planned
