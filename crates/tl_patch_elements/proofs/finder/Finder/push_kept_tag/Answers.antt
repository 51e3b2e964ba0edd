use Rattle.std.proofs.Common.{◌≡◌, ℕ, List, false, ap, subst, subst₂, ◌∙◌}
use Rattle.tl_html_spec.specs.Balanced.{Names, before_start, is_dropped}
use Rattle.tl_html_spec.specs.HtmlTokenizer.{HtmlAttribute}
use Rattle.tl_html_balance.specs.Tokens.{Opens}
use Rattle.tl_html_balance.specs.View.{open_names}
use Rattle.tl_html_balance.specs.declared.balance.Opening.{Opening}
use Rattle.tl_html_parts.specs.Parts.{name_of}
use Rattle.tl_patch_elements.proofs.Tags.{alone_is, start_found}
use Rattle.tl_patch_elements.proofs.finder.Finder.push_kept_tag.Goals as goal

pub push_opening-requires-clause-alone : goal.push_opening-requires-clause-alone
push_opening-requires-clause-alone c =
    let o : Opening = c.opening-opening.result in
    let left : Names = open_names c.close.new.self.open_tags in
    alone_is o (name_of c.args.name.now) c.args.closes left (subst (λ (x : List ℕ). Opens o x c.args.closes left) c.requires.name c.opening-opening.ensures)

pub returns : goal.returns
returns c = λ (attributes : List HtmlAttribute).
    let n : List ℕ = name_of c.args.name.now in
    let tags : Names = open_names c.args.self.now.open_tags in
    let k : ℕ = c.closed_before_start-count.result in
    let o : Opening = c.opening-opening.result in
    start_found c.args.self.now c.close.new.self c.push_opening.new.self c.args.at n attributes c.args.closes k o
    (subst (λ (x : List ℕ). is_dropped x tags ≡ false) c.requires.name c.requires.kept)
    (c.closed_before_start-count.ensures.value ∙ ap (λ (x : List ℕ). before_start x tags) c.requires.name)
    (subst₂ (λ (x : List ℕ) (t : Names). Opens o x c.args.closes t) c.requires.name c.in_ok-close.ensures.names c.opening-opening.ensures)
    c.in_ok-close.ensures.elements c.in_ok-close.ensures.names
    (λ rest. c.in_ok-push_opening.ensures.elements attributes rest) c.in_ok-push_opening.ensures.names
