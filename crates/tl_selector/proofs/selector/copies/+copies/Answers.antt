use Rattle.std.proofs.Common.{◌≡◌, ◌≤◌, ◌++◌, ◌∷◌, [], List, Bor, Some, subst, sym, ap, ◌∙◌}
use Rattle.std.proofs.lemmas.List.Elements.{All-pop}
use Rattle.tl_selector.specs.Spine.{nested_in, selectors}
use Rattle.tl_selector.specs.View.{selector}
use Rattle.tl_selector.specs.declared.selector.Selector.{size-Selector}
use Rattle.tl_selector.specs.declared.selector.Selector as declared
use Rattle.tl_selector.proofs.Chains.{selectors_more}
use Rattle.tl_selector.proofs.selector.copies.+copies.Goals as goal

pub copy_complex-outwards-preserved : goal.copy_complex-outwards-preserved
copy_complex-outwards-preserved t c =
    let e = selector c.args.e.now in
    let copy = selector c.outwards.copy in
    let left = c.pop.new.self.items in
    let whole = c.in-Some.whole in
    let was : c.outwards.wholes.items ≡ left ++ whole ∷ [] = c.in-Some.ensures.items in
    let held = subst (λ (xs : List (Bor declared.Selector)). nested_in (selectors xs) copy ≡ e) was c.outwards.invariant.whole in
    record {
      whole = ap (nested_in (selectors left)) c.in_ok-copy.ensures ∙ sym (selectors_more left whole copy) ∙ held;
      depth = (All-pop (λ (x : Bor declared.Selector). size-Selector x.now ≤ size-Selector c.args.e.now) c.outwards.wholes.items left (Some whole) was c.outwards.invariant.depth).0;
    }
