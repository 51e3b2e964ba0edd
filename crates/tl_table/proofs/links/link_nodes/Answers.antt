use Rattle.std.proofs.Common.{◌≡◌, ◌+◌, ◌<◌, ◌≤◌, ◌∙◌, ℕ, List, [], None, ap, sym, drop, length, map, slice_get, replicate, subst, arith, rules}
use Rattle.std.proofs.Math.ListN.{drop_of_length-le}
use Rattle.std.proofs.lemmas.List.{length-map}
use Rattle.tl_spec.specs.Tree.Element.{children_of}
use Rattle.tl_table.specs.declared.links.Links.{Links}
use Rattle.tl_table.specs.Links.{AreLinks}
use Rattle.tl_table.specs.Inner.Steps.{with_top}
use Rattle.tl_table.proofs.Rows.{equal_at, item_at, made_at, rows_next, with_rows}
use Rattle.tl_table.proofs.Top.{are_links, linked_by}
use Rattle.tl_table.proofs.links.link_nodes.Goals as goal

pub loop-number-preserved : goal.loop-number-preserved
loop-number-preserved g c =
    let nodes = c.args.nodes.now in
    let number = c.loop-number.number in
    let node = c.index-nodes-number.result in
    let rows = map children_of (map g.N.Element.node nodes) in
    let within : number < length nodes = omega arith in
    ap (with_rows (number + 1) (drop (number + 1) rows)) c.link_children.ensures
    ∙ (rows_next rows number (children_of (g.N.Element.node node)) c.loop-number.links.items
    (made_at g.N.Element.node children_of nodes number node (item_at nodes number node within c.index-nodes-number.is))
    ∙ c.loop-number.invariant)

pub returns : goal.returns
returns g c =
    let nodes = map g.N.Element.node c.args.nodes.now in
    let number = c.loop-number.number in
    let rows = map children_of nodes in
    let top = c.args.top.now in
    let first = c.in_ok-links.links.items in
    let far : length rows ≤ number = omega (arith, length-map nodes children_of, length-map c.args.nodes.now g.N.Element.node) in
    let none : drop number rows ≡ [] = drop_of_length-le rows far in
    let rows_done : c.loop-number.links.items ≡ with_rows 0 rows first = ap (λ (rest : List (List ℕ)). with_rows number rest c.loop-number.links.items) (sym none) ∙ c.loop-number.invariant in
    let all : c.link_top.new.links.items ≡ with_top top (with_rows 0 rows first) = c.link_top.ensures ∙ ap (with_top top) rows_done in
    subst (AreLinks nodes top) (sym all) (are_links nodes top first
    (λ n. ap (λ (ls : List Links). slice_get ls n) (c.in_ok-links.ensures.items_if_clones_equal (λ y h. search rules) ∙ ap (λ (k : ℕ). replicate k (linked_by None None)) (sym (length-map c.args.nodes.now g.N.Element.node)))
    ∙ equal_at nodes (linked_by None None) n))
