use Rattle.std.proofs.Common.{◌≡◌, List, ℕ, length, map, ap, sym, ◌∙◌}
use Rattle.tl_html_spec.specs.Pieces.{Piece, pieces, runs}
use Rattle.tl_html_tokens.specs.declared.token.Token.{Token}
use Rattle.tl_patch_elements.specs.View.{elements_view}
use Rattle.tl_patch_elements.specs.declared.found.Element.{Element as CodeElement}
use Rattle.tl_patch_spec.specs.Tail.{up_to_tail}
use Rattle.tl_patch_edit.proofs.Tails.{count_pieces}
use Rattle.tl_patch_edit.proofs.tail.elements_up_to_tail.Goals as goal

pub returns-clause-elements : goal.returns-clause-elements
returns-clause-elements c =
    let page : List ℕ = c.args.page.now in
    let ps : List Piece = runs (pieces page) in
    let tokens : List Token = c.in_ok-found.found.tokens.items in
    let len : length tokens ≡ length c.as_slice-tokens.result.now = ap (λ (ts : List Token). length ts) (sym c.as_slice-tokens.ensures.value) in
    c.in_ok-found-2.ensures ps c.in_ok-tail.ensures (count_pieces page tokens c.in_ok-found.ensures.tokens ∙ len)
    ∙ ap (λ (es : List CodeElement). map (up_to_tail ps) (elements_view es)) c.as_slice.ensures.value
    ∙ ap (map (up_to_tail ps)) c.in_ok-found.ensures.elements
