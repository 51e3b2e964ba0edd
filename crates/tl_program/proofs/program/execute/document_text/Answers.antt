use Rattle.std.proofs.Common.{◌≡◌, ℕ, List, Err, rules, ap, string_bytes, sym, ◌∙◌, subst}
use Rattle.tl_spec.specs.Tree.Document.{Document}
use Rattle.tl_spec.specs.Print.Text.{document_text}
use Rattle.tl.specs.View.{document_of}
use Rattle.tl_page.specs.Failure.{failure_of_tree}
use Rattle.tl_page.specs.Outcome.{Fails, Gives, Outcome, outcome_of}
use Rattle.tl_page.proofs.Outcomes.{fails-outcome}
use Rattle.tl_program.specs.Output.{IsJustRead, texts_of}
use Rattle.tl_program.proofs.OneWalk.{texts_of_one_walk}
use Rattle.tl_program.proofs.program.execute.document_text.Goals as goal

same_texts : (d : Document) → IsJustRead d → texts_of d ≡ outcome_of (document_text d)
same_texts d (t, is) = ap texts_of is ∙ texts_of_one_walk t ∙ sym (ap (λ (d : Document). outcome_of (document_text d)) is)

pub returns-in_err-inner_text : goal.returns-in_err-inner_text
returns-in_err-inner_text c =
    let d : Document = document_of c.args.document.now in
    let error = c.in_err-inner_text.field-0.0 in
    let is : c.from_residual.result ≡ Err (failure_of_tree error) = search rules in
    let fails : Fails (outcome_of (document_text d)) (failure_of_tree error) = fails-outcome (document_text d) error c.in_err-inner_text.ensures.answers in
    subst (Gives string_bytes (texts_of d)) (sym is)
    (subst (λ (outcome : Outcome (List ℕ)). Fails outcome (failure_of_tree error)) (sym (same_texts d c.requires)) fails)

pub returns : goal.returns
returns c =
    same_texts (document_of c.args.document.now) c.requires ∙ ap outcome_of c.in_ok-inner_text.ensures.answers
