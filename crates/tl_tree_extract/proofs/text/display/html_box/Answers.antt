use Rattle.std.proofs.Common.{[], ap, sym, ◌∙◌}
use Rattle.std.specs.Option.{unwrap_or}
use Rattle.tl_tree.proofs.NumberedNames.{known-among}
use Rattle.tl_tree.specs.TreeView.{rows_in}
use Rattle.tl_tree_extract.proofs.BoxTable.{box-of-other, known-said, rare-none, when-inline}
use Rattle.tl_tree_extract.specs.Boxes.{common_box, name_at, rare_box, unless_inline}
use Rattle.tl_tree_extract.proofs.text.display.html_box.Goals as goal

pub returns-then-eq : goal.returns-then-eq
returns-then-eq c =
    let said = name_at (rows_in c.args.tree.now) c.args.number in
    let n = unwrap_or said [] in
    c.rare_box.ensures ∙ ap rare_box c.name.ensures
    ∙ sym (ap (λ box. unless_inline box (rare_box n)) (box-of-other c.args.known n (known-said said c.args.known c.requires) (sym c.eq.ensures ∙ c.if-eq.true)))

pub returns-else-eq : goal.returns-else-eq
returns-else-eq c =
    let said = name_at (rows_in c.args.tree.now) c.args.number in
    let n = unwrap_or said [] in
    let e = known-said said c.args.known c.requires in
    c.common_box.ensures n e
    ∙ sym (when-inline (common_box n) (rare_box n) (rare-none n (known-among c.args.known n e (sym c.eq.ensures ∙ c.if-eq.false))))
