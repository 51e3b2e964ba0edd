use Rattle.std.proofs.Common.{List, ap, map, subst, sym, ◌∙◌}
use Rattle.tl_html_tokens.specs.Tokens.{AreTokensOf}
use Rattle.tl_html_tokens.specs.declared.token.Token.{Token}
use Rattle.tl_patch_elements.specs.View.{elements_view}
use Rattle.tl_patch_elements.specs.declared.found.Element.{Element}
use Rattle.tl_patch_edit.specs.Stretches.{stretch_of}
use Rattle.tl_patch_edit.proofs.Unique.{tokens_of_page}
use Rattle.tl_patch_edit.proofs.page.TokenizedPage.stretches.Goals as goal

pub all_stretches-requires : goal.all_stretches-requires
all_stretches-requires c =
    subst (λ (ts : List Token). AreTokensOf c.args.self.now.page.now ts) (sym c.as_slice-tokens.ensures.value) (tokens_of_page c.args.self.now.page.now c.args.self.now.tokens.items c.args.self.now.of_page)

pub tail_of-requires : goal.tail_of-requires
tail_of-requires c =
    subst (λ (ts : List Token). AreTokensOf c.args.self.now.page.now ts) (sym c.as_slice-tokens.ensures.value) (tokens_of_page c.args.self.now.page.now c.args.self.now.tokens.items c.args.self.now.of_page)

pub begin_of-tail-requires : goal.begin_of-tail-requires
begin_of-tail-requires c =
    subst (λ (ts : List Token). AreTokensOf c.args.self.now.page.now ts) (sym c.as_slice-tokens.ensures.value) (tokens_of_page c.args.self.now.page.now c.args.self.now.tokens.items c.args.self.now.of_page)

pub returns-clause-elements : goal.returns-clause-elements
returns-clause-elements c =
    c.in_ok-elements.ensures
    ∙ ap (λ (es : List Element). map (stretch_of c.args.self.now.page.now) (elements_view es)) c.as_slice.ensures.value
    ∙ ap (map (stretch_of c.args.self.now.page.now)) c.args.self.now.up_to_tail
