use Rattle.std.proofs.Common.{List, ℕ, false, ◌∷◌, ◌++◌, ap, ◌∙◌}
use Rattle.tl_html_spec.specs.HtmlTokenizer.{HtmlAttribute, StartTag}
use Rattle.tl_html_balance.specs.declared.balance.Opening.{Opening}
use Rattle.tl_html_parts.specs.Parts.{name_of}
use Rattle.tl_patch_elements.specs.Inner.Opened.{opened_tokens}
use Rattle.tl_patch_spec.specs.Elements.{PlacedToken, tokens_at}
use Rattle.tl_patch_elements.specs.Inner.Finding.{elements_with}
use Rattle.tl_patch_elements.proofs.finder.Finder.push_opening.Goals as goal

pub returns-in_ok-push_open-in-Open-clause-elements : goal.returns-in_ok-push_open-in-Open-clause-elements
returns-in_ok-push_open-in-Open-clause-elements c = λ (attributes : List HtmlAttribute) (rest : List PlacedToken).
    let n : List ℕ = name_of c.args.name.now in
    ap (λ (o : Opening). elements_with c.args.self.now (tokens_at c.args.at false (StartTag n attributes false ∷ opened_tokens o n) ++ rest)) c.in-Open.is
    ∙ c.in_ok-push_open-in-Open.ensures.elements attributes rest
