use Rattle.std.proofs.Common.{rules, ◌≡◌, List, ℕ}
use Rattle.std.specs.List.{Contains}
use Rattle.tl_patch_select.specs.Selected.{places_of}
use Rattle.tl_patch_select.proofs.selected.places_in_order.Goals as goal

pub returns : goal.returns
returns c =
    let same : c.in_ok-places.places.items ≡ places_of c.args.tree.now c.args.numbers.now = search rules in
    record {
      rising = c.put_in_order.ensures.rising;
      kept = λ place h. c.put_in_order.ensures.kept place (rw same h);
      none_added = λ place h. rw same at (c.put_in_order.ensures.none_added place h);
    }
