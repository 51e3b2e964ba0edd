use Rattle.std.proofs.Common.{Bool, Some, [], ap, sym, true≢false, ◌∙◌, ◌∷◌}
use Rattle.std.specs.Option.{option_map}
use Rattle.tl_tree.specs.Asked.{kind_of}
use Rattle.tl_tree_edit.proofs.Following.{if_ok, renamed}
use Rattle.tl_tree_edit.proofs.Reading.{begun-node}
use Rattle.tl_tree_edit.specs.Bare.{bare}
use Rattle.tl_tree_edit.specs.Events.{begins, begun}
use Rattle.tl_tree_edit.specs.Inner.Walk.{left}
use Rattle.tl_tree_edit.proofs.walk.Walk.meets_kept.Goals as goal

pub returns-clause-met : goal.returns-clause-met
returns-clause-met c =
    λ node here.
    let it = begun-node node (λ t. true≢false (sym (c.is_text.ensures.1 (ap (option_map kind_of) here ∙ ap Some t)) ∙ c.if-is_text.false)) in
    if_ok c.meets_node.result _ _
    (λ (is : Bool) met. renamed (begins (bare node) ∷ []) (begun node) (left c.args.self.now.rest) (left c.meets_node.new.self) is (sym it.0) met)
    (c.meets_node.ensures.met node here)
