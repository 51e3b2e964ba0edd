use Rattle.std.proofs.Common.{◌≡◌, drop}
use Rattle.std.specs.List.{All}
use Rattle.tl_html_spec.specs.Pieces.{pieces, runs}
use Rattle.tl_patch_spec.specs.Together.{asked_each}
use Rattle.tl_patch_edit.specs.Inner.Causes.{IsPlanned}
use Rattle.tl_patch_edit.specs.Open.{left_view}
use Rattle.tl_patch_edit.specs.Several.{asked_view}
use Rattle.tl_patch_edit.specs.View.{gone_view, meant_view}
use Rattle.tl_patch_edit.proofs.Together.{AskedFrom, before}
use Rattle.tl_patch_edit.proofs.several.asks_of.Given as goal

-- what is asked for so far, before what the patches that are left ask for, is all
abbrev pub invariant-loop-at : goal.invariant-loop-at
invariant-loop-at l = record {
  asked : asked_each (runs (pieces l.page)) (meant_view l.meant)
      ≡ before (asked_view l.asks.items) (AskedFrom (runs (pieces l.page)) l.at (gone_view l.gone) (left_view l.left) (drop l.at l.meant));
  planned : All (IsPlanned l.meant) l.asks.items;
}
