use Rattle.std.proofs.Common.{◌≡◌, List, subst, sym, ℕ, ◌∙◌}
use Rattle.tl_answers.specs.Answers.{AreSelected}
use Rattle.tl_answers.specs.Findings.{finding_of}
use Rattle.tl_answers.specs.Pages.{IsAnswered, searched}
use Rattle.tl_cli.proofs.task.ask.Goals as goal

pub returns-clause-made : goal.returns-clause-made
returns-clause-made c = λ m selected.
    let page : List ℕ = c.args.page.now in
    let question = c.args.question.now in
    let text : List ℕ = c.as_bytes.result.now in
    let same : text ≡ page = c.as_bytes.ensures.value ∙ c.in_ok-page.ensures.text in
    let asked : AreSelected question (searched text) m = subst (λ (p : List ℕ). AreSelected question (searched p) m) (sym same) selected in
    subst (λ (p : List ℕ). IsAnswered question m c.args.end.now p (finding_of c.in_ok-answer_of_page.field-0)) same (c.in_ok-answer_of_page.ensures.made m asked)
