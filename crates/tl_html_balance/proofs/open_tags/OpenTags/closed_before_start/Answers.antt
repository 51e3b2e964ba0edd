use Rattle.std.proofs.Common.{ap, ◌∙◌, sym, drop, length, length-drop, arith}
use Rattle.tl_html_spec.specs.Balanced.{is_foreign}
use Rattle.tl_html_balance.specs.Inner.Rules.{rules_for, total}
use Rattle.tl_html_balance.specs.declared.rule.TheConstants.{BEFORE_START}
use Rattle.tl_html_balance.specs.View.{name_of, open_names}
use Rattle.tl_html_balance.proofs.Opened.{left-small}
use Rattle.tl_html_balance.proofs.Rules.{before-foreign, before-rules}
use Rattle.tl_html_balance.proofs.open_tags.OpenTags.closed_before_start.Goals as goal

pub overflow_add-result : goal.overflow_add-result
overflow_add-result c =
    let tags = open_names c.args.self.now in
    let few = left-small c.args.self.now 0 in
    let left = ap (λ names. length names) (c.skip-left.ensures ∙ ap (drop c.head_before-head.result) c.all.ensures) in
    omega (arith, length-drop c.head_before-head.result tags, c.head_before-head.ensures.within, c.count_all.ensures.within)

pub returns-then-is_foreign-clause-value : goal.returns-then-is_foreign-clause-value
returns-then-is_foreign-clause-value c =
    let left = c.skip-left.ensures ∙ ap (drop c.head_before-head.result) c.all.ensures in
    before-foreign (name_of c.args.name.now) (open_names c.args.self.now) c.head_before-head.result c.head_before-head.ensures.value
    (sym (ap is_foreign left) ∙ sym c.is_foreign.ensures ∙ c.if-is_foreign.true)

pub returns-clause-value : goal.returns-clause-value
returns-clause-value c =
    let left = c.skip-left.ensures ∙ ap (drop c.head_before-head.result) c.all.ensures in
    before-rules (name_of c.args.name.now) (open_names c.args.self.now) c.head_before-head.result c.count_all.result c.head_before-head.ensures.value
    (sym (ap is_foreign left) ∙ sym c.is_foreign.ensures ∙ c.if-is_foreign.false)
    (c.count_all.ensures.value ∙ ap (total (rules_for BEFORE_START (name_of c.args.name.now))) left)
