use Rattle.std.proofs.Common.{List, subst, sym, true, ◌∙◌, ◌≡◌, ℕ}
use Rattle.std.specs.List.{list_all}
use Rattle.tl_tree_safe.proofs.SaidTexts.{whole_in_flow, whole_there}
use Rattle.tl_tree_spec.specs.Stays.{may_be_read}
use Rattle.tl_tree_safe.proofs.texts.is_whole.Goals as goal

pub returns-then-in_flow : goal.returns-then-in_flow
returns-then-in_flow c = λ _.
    let s : List ℕ = c.args.bytes.now in
    let whole = sym c.is_clean.ensures ∙ c.if-is_clean.true in
    whole_there c.args.in_flow s whole (subst (λ v. list_all (may_be_read v) s ≡ true) (sym c.if-in_flow.true) (whole_in_flow s whole))

pub returns-else-in_flow : goal.returns-else-in_flow
returns-else-in_flow c = λ all.
    let s : List ℕ = c.args.bytes.now in
    whole_there c.args.in_flow s (sym c.is_clean.ensures ∙ c.if-is_clean.true) (sym c.may_all_be_read.ensures ∙ all)
