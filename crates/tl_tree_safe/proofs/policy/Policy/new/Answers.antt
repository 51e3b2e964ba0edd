use Rattle.std.proofs.Common.{List, None, Option, ap, sym, ℕ, ◌∙◌, ◌≡◌}
use Rattle.std.specs.Option.{option_map}
use Rattle.tl_tree_safe.proofs.Lawful.{lawful, plain, words}
use Rattle.tl_tree_safe.specs.Policies.{listed_words}
use Rattle.tl_tree_safe.specs.Refusals.{first_refusal, refusal_of}
use Rattle.tl_tree_safe.specs.declared.refusal.PolicyError.{PolicyError}
use Rattle.tl_tree_safe.proofs.policy.Policy.new.Goals as goal

pub invariant_of-result : goal.invariant_of-result
invariant_of-result c =
    let p = listed_words c.args.lists in
    let none : first_refusal p ≡ None =
    sym c.first_refusal.ensures ∙ ap (λ (r : Option PolicyError). option_map refusal_of r) c.in-None.is in
    record { words = words p none; plain = plain p none; lawful = lawful p none }
