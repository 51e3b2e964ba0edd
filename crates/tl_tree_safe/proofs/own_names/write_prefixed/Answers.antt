use Rattle.std.proofs.Common.{List, ap, append_assoc, rules, sym, true, ℕ, ◌++◌, ◌∙◌, ◌≡◌}
use Rattle.tl_tree_safe.proofs.KeptValues.{lone_prefixed}
use Rattle.tl_tree_safe.specs.Inner.ValueKinds.{lacks_front}
use Rattle.tl_tree_safe.proofs.own_names.write_prefixed.Goals as goal

pub returns : goal.returns
returns c =
    let prefix : List ℕ = c.args.prefix.now in
    let text : List ℕ = c.args.text.now in
    let out : List ℕ = c.args.out.now.items in
    let lacks : lacks_front prefix text ≡ true = search rules in
    c.in_ok-extend_from_slice-2.ensures.items
    ∙ ap (λ (x : List ℕ). x ++ text) c.in_ok-extend_from_slice.ensures.items
    ∙ append_assoc out prefix text
    ∙ ap (λ (x : List ℕ). out ++ x) (sym (lone_prefixed prefix text lacks))
