use Rattle.std.proofs.Common.{List, ap, subst, true, ℕ, ◌∙◌, ◌≡◌}
use Rattle.tl_answers.specs.Findings.{whole}
use Rattle.tl_html_spec.specs.HtmlTokenizer.{without_mark}
use Rattle.tl_tree_safe.specs.InDiv.{is_in_proportion_in_div, safe_print}
use Rattle.tl_tree_safe.specs.OfPolicy.{lists_of}
use Rattle.tl_tree_safe.specs.RemovedLines.{TellRemoved}
use Rattle.tl_cli.proofs.task.told_page.Goals as goal

pub returns-clause-made : goal.returns-clause-made
returns-clause-made c =
    let page : List ℕ = c.args.page.now in
    let bytes : List ℕ = c.as_bytes.result.now in
    let text : List ℕ = c.without_mark.result.now in
    let same : bytes ≡ page = c.as_bytes.ensures.value ∙ c.in_ok-markup.ensures.text in
    let marked : text ≡ without_mark page = c.without_mark.ensures ∙ ap without_mark same in
    record {
      in_proportion = subst (λ (t : List ℕ). is_in_proportion_in_div t ≡ true) marked c.in_ok-told.ensures.in_proportion;
      print = c.whole.ensures ∙ ap whole (c.in_ok-told.ensures.print ∙ ap (safe_print (lists_of c.args.policy.now)) marked);
    }

pub returns-clause-removed : goal.returns-clause-removed
returns-clause-removed c =
    let page : List ℕ = c.args.page.now in
    let bytes : List ℕ = c.as_bytes.result.now in
    let text : List ℕ = c.without_mark.result.now in
    let same : bytes ≡ page = c.as_bytes.ensures.value ∙ c.in_ok-markup.ensures.text in
    let marked : text ≡ without_mark page = c.without_mark.ensures ∙ ap without_mark same in
    subst (λ (t : List ℕ). TellRemoved (lists_of c.args.policy.now) c.args.file.now t c.in_ok-told.told.lines.items) marked c.in_ok-told.ensures.lines
