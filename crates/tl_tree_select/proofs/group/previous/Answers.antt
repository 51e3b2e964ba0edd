use Rattle.std.proofs.Common.{◌≡◌, ◌+◌, ◌++◌, ◌∷◌, [], ◌∙◌, ℕ, List, Option, length, ap, arith, subst, sym, slice_index_or, slice_set}
use Rattle.std.specs.Option.{option_map_or}
use Rattle.tl_tree_select.specs.Inner.Links.{link_at, no_link}
use Rattle.tl_tree_select.proofs.Previous.{Gone, one_gone, all_gone}
use Rattle.tl_tree_select.proofs.group.previous.Goals as goal

pub loop-number-preserved : goal.loop-number-preserved
loop-number-preserved c =
    let groups = c.args.groups.now in
    let n = c.loop-number.number in
    let links = c.loop-number.links.items in
    let latest = c.loop-number.latest.items in
    let at = c.link.ensures in
    let was : c.replace_latest-before.result ≡ option_map_or (λ g. slice_index_or latest g no_link) (link_at groups n) no_link =
    c.replace_latest-before.ensures.was ∙ ap (λ (o : Option ℕ). option_map_or (λ g. slice_index_or latest g no_link) o no_link) at in
    let is : c.replace_latest-before.new.latest.items ≡ option_map_or (λ g. slice_set latest g n) (link_at groups n) latest =
    c.replace_latest-before.ensures.is ∙ ap (λ (o : Option ℕ). option_map_or (λ g. slice_set latest g n) o latest) at in
    let pushed = c.in_ok-push.ensures.items ∙ ap (λ (x : ℕ). links ++ x ∷ []) was in
    subst (λ (after : List ℕ). Gone groups (n + 1) after c.replace_latest-before.new.latest.items) (sym pushed)
    (subst (λ (after : List ℕ). Gone groups (n + 1) (links ++ option_map_or (λ g. slice_index_or latest g no_link) (link_at groups n) no_link ∷ []) after) (sym is)
    (one_gone groups n (omega arith) c.requires.numbered links latest c.loop-number.invariant (c.requires.few n)))

pub returns-clause-each : goal.returns-clause-each
returns-clause-each c =
    let groups = c.args.groups.now in
    let all : c.loop-number.number ≡ length groups = omega arith in
    all_gone groups c.loop-number.links.items c.loop-number.latest.items
    (subst (λ (number : ℕ). Gone groups number c.loop-number.links.items c.loop-number.latest.items) all c.loop-number.invariant)
