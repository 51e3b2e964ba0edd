use Rattle.std.proofs.Common.{◌≡◌, ◌++◌, ◌+◌, ◌-◌, ◌∷◌, ◌∙◌, [], Some, ap, arith, length, map, rules, suc}
use Rattle.std.proofs.lemmas.Grind.{common_steps}
use Rattle.tl_tree.specs.Asked.{attribute_said}
use Rattle.tl_tree_extract.specs.Candidates.{item_said}
use Rattle.tl_tree_extract.specs.Links.{link_said, linked, next_item, parts_from}
use Rattle.tl_tree_extract.specs.Spans.{part_said, trimmed}
use Rattle.tl_tree_extract.proofs.Found.{items_more}
use Rattle.tl_tree_extract.proofs.page_links.push_items.Goals as goal

pub loop-preserved : goal.loop-preserved
loop-preserved c =
    let n = length c.args.attribute.value.now in
    let most = n - (c.loop.counter + 1) in
    let mk = linked c.args.node (attribute_said c.args.attribute) in
    let item = item_said c.in-Some.item in
    let left : n - c.loop.counter ≡ suc most = omega arith in
    let found : next_item c.args.kind c.loop.rest.now ≡ Some item = search (rules, common_steps) in
    let part : part_said c.trimmed.result ≡ trimmed n item.rest item.url = search (rules, common_steps) in
    let items : map link_said c.push.new.self.items ≡ map link_said c.loop.links.items ++ mk (part_said c.trimmed.result) ∷ [] = grind (arith, common_steps) in
    let step = items_more mk (map link_said c.loop.links.items) (mk (part_said c.trimmed.result)) c.args.kind n most (n - c.loop.counter) c.loop.rest.now item found left (ap mk part) in
    ap (λ ls. ls ++ map mk (parts_from c.args.kind n item.next most)) items ∙ (step ∙ c.loop.invariant)
