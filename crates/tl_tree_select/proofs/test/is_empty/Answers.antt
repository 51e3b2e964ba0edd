use Rattle.std.proofs.Common.{◌≡◌, ◌∷◌, ℕ, rules}
use Rattle.std.proofs.lemmas.Grind.{common_steps}
use Rattle.tl_tree_select.specs.Meaning.{IsNothing}
use Rattle.tl_tree_select.specs.Page.{seen}
use Rattle.tl_tree_select.proofs.Nothings.{all_next}
use Rattle.tl_tree_select.proofs.test.is_empty.Goals as goal

pub loop-child-preserved : goal.loop-child-preserved
loop-child-preserved c =
    let P : ℕ → Type 0 = IsNothing (seen c.args.page.now) in
    let all : c.loop-child.child-iterator ≡ c.in-Some.child ∷ c.next.new.self = search (rules, common_steps) in
    let next = all_next P c.in-Some.child c.next.new.self c.loop-child.child-iterator all (c.is_nothing_at.ensures.0 (search rules)) in
    (λ h. next.0 (c.loop-child.invariant.0 h), λ h. c.loop-child.invariant.1 (next.1 h))
