use Rattle.std.proofs.Common.{Bool}
use Rattle.tl_tree_edit.proofs.Following.{if_ok, said_next}
use Rattle.tl_tree_edit.specs.Bare.{bare}
use Rattle.tl_tree_edit.specs.Events.{begins, ends, says}
use Rattle.tl_tree_edit.specs.Inner.Walk.{left}
use Rattle.tl_tree_edit.proofs.events.Events.meets.Goals as goal

pub returns-in-Begins-clause-met : goal.returns-in-Begins-clause-met
returns-in-Begins-clause-met c =
    λ said more found.
    let h = rw c.in-Begins.is at found in
    if_ok c.meets_node.result _ _ (λ (is : Bool) met. said_next said more (left c.args.self.now) (left c.meets_node.new.self) (begins (bare h.node)) is h.says met) (c.meets_node.ensures.met h.node h.stands)

pub returns-in-Says-clause-met : goal.returns-in-Says-clause-met
returns-in-Says-clause-met c =
    λ said more found.
    let h = rw c.in-Says.is at found in
    if_ok c.meets_byte.result _ _ (λ (is : Bool) met. said_next said more (left c.args.self.now) (left c.meets_byte.new.self) (says c.in-Says.byte) is h met) c.meets_byte.ensures.met

pub returns-in-Ends-clause-met : goal.returns-in-Ends-clause-met
returns-in-Ends-clause-met c =
    λ said more found.
    let h = rw c.in-Ends.is at found in
    if_ok c.meets_end.result _ _ (λ (is : Bool) met. said_next said more (left c.args.self.now) (left c.meets_end.new.self) ends is h met) c.meets_end.ensures.met
