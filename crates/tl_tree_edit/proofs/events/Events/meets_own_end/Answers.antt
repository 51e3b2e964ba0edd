use Rattle.std.proofs.Common.{Bool, [], sym, ◌∙◌, ◌∷◌}
use Rattle.tl_tree_edit.proofs.Following.{if_ok, renamed}
use Rattle.tl_tree_edit.proofs.Saying.{if-true}
use Rattle.tl_tree_edit.specs.Changes.{stays, where_it_stays}
use Rattle.tl_tree_edit.specs.Events.{ends}
use Rattle.tl_tree_edit.specs.Inner.Walk.{left}
use Rattle.tl_tree_edit.specs.View.{change_of}
use Rattle.tl_tree_edit.proofs.events.Events.meets_own_end.Goals as goal

pub returns-clause-met : goal.returns-clause-met
returns-clause-met c =
    let own = (ends ∷ []) in
    let same = sym (if-true (stays (change_of c.args.change)) own [] (sym c.stays.ensures ∙ c.if-not-stays.false)) in
    if_ok c.meets_end.result _ _
    (λ (is : Bool) met. renamed own (where_it_stays (change_of c.args.change) own) (left c.args.self.now) (left c.meets_end.new.self) is same met)
    c.meets_end.ensures.met
