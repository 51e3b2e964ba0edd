use Rattle.std.proofs.Common.{List, ℕ, subst, ◌∙◌, IfOk, IfNone}
use Rattle.tl_spec.specs.Select.Selector.{Selector}
use Rattle.tl_spec.specs.Select.Text.{IsSelectorText}
use Rattle.tl_selector.proofs.parser.parse_query_selector.Goals as goal

pub returns-clause-none : goal.returns-clause-none
returns-clause-none c =
    subst (λ (s : List ℕ). IfOk c.selector.result (λ o. IfNone o ((e : Selector) → IsSelectorText s e → ⊥))) (c.new.ensures.text ∙ c.as_bytes.ensures.value) c.selector.ensures.none
