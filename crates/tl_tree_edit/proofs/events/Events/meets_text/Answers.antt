use Rattle.std.proofs.Common.{Bool, List, [], map, refl, subst, true, ◌∷◌, ◌≡◌}
use Rattle.tl_tree_edit.proofs.Following.{if_ok, passed, text_begun}
use Rattle.tl_tree_edit.specs.Events.{says}
use Rattle.tl_tree_edit.specs.Events.{Event as Said}
use Rattle.tl_tree_edit.specs.Inner.Walk.{Follows, left}
use Rattle.tl_tree_edit.proofs.events.Events.meets_text.Goals as goal

pub returns-then-take_bytes-clause-met : goal.returns-then-take_bytes-clause-met
returns-then-take_bytes-clause-met c =
    let text : c.args.text.now ≡ c.in-Some.first.now ∷ c.in-Some.rest.now = c.in-Some.ensures.cases.0 in
    let first = rw c.if-not-branch.false at c.in_ok-meets_byte.ensures.met in
    let rest = passed (map says c.in-Some.rest.now) (left c.meets_byte.new.self) (left c.take_bytes.new.self) (c.if-take_bytes.ensures.taken refl) in
    text_begun c.args.text.now c.in-Some.rest.now c.in-Some.first.now (left c.args.self.now) (left c.meets_byte.new.self) (left c.take_bytes.new.self) true text first rest

pub returns-clause-met : goal.returns-clause-met
returns-clause-met c =
    let text : c.args.text.now ≡ c.in-Some.first.now ∷ c.in-Some.rest.now = c.in-Some.ensures.cases.0 in
    let first = rw c.if-not-branch.false at c.in_ok-meets_byte.ensures.met in
    if_ok c.meets_bytes.result _ _
    (λ (is : Bool) rest.
    text_begun c.args.text.now c.in-Some.rest.now c.in-Some.first.now (left c.args.self.now) (left c.meets_byte.new.self) (left c.meets_bytes.new.self) is text first
    (subst (λ (now : List Said). Follows (map says c.in-Some.rest.now) [] now (left c.meets_bytes.new.self) is) (c.if-take_bytes.ensures.left refl) rest))
    c.meets_bytes.ensures.met
