use Rattle.std.proofs.Common.{List, ap, subst, sym, ℕ, ◌∙◌, ◌≡◌}
use Rattle.tl_patch_select.proofs.Told.{same_others}
use Rattle.tl_patch_select.specs.Partly.{others}
use Rattle.tl_patch_select.proofs.partly.others.Goals as goal

pub returns : goal.returns
returns c =
    let tree = c.args.tree.now in
    let numbers : List ℕ = c.args.numbers.now in
    let copy : List ℕ = c.in_ok-told.told.items in
    let new : List ℕ = c.put_in_order.new.places.items in
    let same : others tree new numbers ≡ others tree copy numbers = same_others tree new copy c.put_in_order.ensures.none_added c.put_in_order.ensures.kept numbers in
    c.in_ok-left.ensures ∙ (ap (λ (ts : List ℕ). others tree ts numbers) c.as_slice.ensures.value ∙ (same ∙ ap (λ (ts : List ℕ). others tree ts numbers) c.in_ok-told.ensures.items))
