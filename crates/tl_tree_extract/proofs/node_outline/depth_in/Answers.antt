use Rattle.std.proofs.Common.{List, ap, arith, get_or, length, suc, ℕ, ◌∙◌, ◌≡◌, ◌≤◌}
use Rattle.tl_tree.specs.Rows.{Row}
use Rattle.tl_tree.specs.TreeView.{rows_in}
use Rattle.tl_tree_extract.specs.NodeOutline.{depth_at}
use Rattle.tl_tree_extract.proofs.Depths.{depth_below, depth_few, depth_got, depths_count, parent_before}
use Rattle.tl_tree_extract.proofs.node_outline.depth_in.Goals as goal

pub bounds-depths-outer : goal.bounds-depths-outer
bounds-depths-outer c =
    let before = parent_before c.args.tree.now c.args.number c.args.outer c.requires.outer in
    let count : length c.args.depths.now ≡ c.args.number = ap length c.requires.known ∙ depths_count (rows_in c.args.tree.now) c.args.number in
    omega (arith, before, count)

pub offset_bounds-depths-outer : goal.offset_bounds-depths-outer
offset_bounds-depths-outer c =
    let before = parent_before c.args.tree.now c.args.number c.args.outer c.requires.outer in
    let count : length c.args.depths.now ≡ c.args.number = ap length c.requires.known ∙ depths_count (rows_in c.args.tree.now) c.args.number in
    omega (arith, before, count)

pub overflow_add-result : goal.overflow_add-result
overflow_add-result c =
    let rows : List Row = rows_in c.args.tree.now in
    let n : ℕ = c.args.number in
    let p : ℕ = c.args.outer in
    let before = parent_before c.args.tree.now n p c.requires.outer in
    let got : get_or c.args.depths.now p 0 ≡ depth_at rows p = ap (λ (v : List ℕ). get_or v p 0) c.requires.known ∙ depth_got rows n p 0 before in
    let below : depth_at rows n ≡ suc (depth_at rows p) = depth_below c.args.tree.now n p c.requires.outer in
    let few : depth_at rows n ≤ suc p = depth_few rows n p c.requires.outer in
    omega (arith, got, below, few, before)

pub returns : goal.returns
returns c =
    let rows : List Row = rows_in c.args.tree.now in
    let n : ℕ = c.args.number in
    let p : ℕ = c.args.outer in
    let before = parent_before c.args.tree.now n p c.requires.outer in
    let got : get_or c.args.depths.now p 0 ≡ depth_at rows p = ap (λ (v : List ℕ). get_or v p 0) c.requires.known ∙ depth_got rows n p 0 before in
    let below : depth_at rows n ≡ suc (depth_at rows p) = depth_below c.args.tree.now n p c.requires.outer in
    omega (arith, got, below)
