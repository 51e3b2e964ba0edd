use Rattle.std.proofs.Common.{ap, map, sym, true≢false, ◌∙◌}
use Rattle.tl_tree.specs.Asked.{attributes_at}
use Rattle.tl_tree.specs.Contexts.{attribute_in}
use Rattle.tl_tree.specs.TreeView.{rows_in}
use Rattle.tl_tree_edit.proofs.Held.{in_math, no_context}
use Rattle.tl_tree_edit.proofs.contexts.context_attributes.Goals as goal

pub returns-then-not-is_math : goal.returns-then-not-is_math
returns-then-not-is_math c =
    ap (map attribute_in) c.new.ensures.items ∙ sym (no_context _ _ (λ e. true≢false (sym (c.is_math.ensures.1 e) ∙ c.if-not-is_math.true)))

pub returns : goal.returns
returns c =
    rw (in_math _ (attributes_at (rows_in c.args.tree.now) c.args.number) (c.is_math.ensures.0 c.if-not-is_math.false)) c.attributes_of.ensures
