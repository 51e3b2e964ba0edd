use Rattle.std.proofs.Common.{◌≡◌, ◌≤◌, ◌++◌, ◌∷◌, [], List, Bor, Some, subst, sym, ◌∙◌}
use Rattle.std.proofs.lemmas.List.Elements.{All-pop}
use Rattle.tl_selector.specs.Spine.{nested_in, selectors, with_first}
use Rattle.tl_selector.specs.View.{selector}
use Rattle.tl_selector.specs.declared.selector.Selector.{size-Selector}
use Rattle.tl_selector.specs.declared.selector.Selector as declared
use Rattle.tl_selector.proofs.Chains.{selectors_more}
use Rattle.tl_selector.proofs.node_set.+marks.Goals as goal

pub marks_of_all-outwards-preserved : goal.marks_of_all-outwards-preserved
marks_of_all-outwards-preserved g t c =
    let e = selector c.args.e.now in
    let marked = c.outwards.invariant.marked in
    let left = c.pop.new.self.items in
    let whole = c.in-Some.whole in
    let was : c.outwards.wholes.items ≡ left ++ whole ∷ [] = c.in-Some.ensures.items in
    let held = subst (λ (xs : List (Bor declared.Selector)). nested_in (selectors xs) marked.0 ≡ e) was marked.1 in
    record {
      marked = (with_first (selector whole.now) marked.0, sym (selectors_more left whole marked.0) ∙ held, c.in_ok-marks-2.ensures marked.0 marked.2);
      depth = (All-pop (λ (x : Bor declared.Selector). size-Selector x.now ≤ size-Selector c.args.e.now) c.outwards.wholes.items left (Some whole) was c.outwards.invariant.depth).0;
    }
