use Rattle.std.proofs.Common.{List, [], ap, append_assoc, ℕ, ◌++◌, ◌∙◌, ◌≡◌, ◌∷◌}
use Rattle.tl_tree.specs.Rows.{Row}
use Rattle.tl_tree.specs.TreeView.{rows_in}
use Rattle.tl_tree_extract.specs.NodeOutline.{depth_words, node_words, number_words, shown_line}
use Rattle.tl_tree_extract.proofs.node_outline.put_shown.Goals as goal

regroup : (t a b d e : List ℕ) → (((t ++ a) ++ b) ++ d) ++ e ≡ t ++ (a ++ (b ++ (d ++ e)))
regroup t a b d e = simp append_assoc

pub returns : goal.returns
unfolding shown_line
returns c =
    let old : List ℕ = c.args.out.now.items in
    let rows : List Row = rows_in c.args.tree.now in
    let first : List ℕ = number_words c.args.has_numbers c.args.number in
    let words : List ℕ = node_words rows c.args.number in
    c.in_ok-push.ensures.items
    ∙ ap (λ (v : List ℕ). v ++ 10 ∷ []) (c.in_ok-put_node.ensures ∙ ap (λ (v : List ℕ). v ++ words) (c.in_ok-put_depth.ensures ∙ ap (λ (v : List ℕ). v ++ depth_words c.args.depth) c.in_ok-put_number.ensures))
    ∙ regroup old first (depth_words c.args.depth) words (10 ∷ [])
    ∙ ap (λ (depth : ℕ). old ++ (first ++ (depth_words depth ++ (words ++ 10 ∷ [])))) c.requires
