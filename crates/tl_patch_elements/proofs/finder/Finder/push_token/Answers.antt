use Rattle.std.proofs.Common.{map, sym, ap, subst, ◌∙◌}
use Rattle.tl_html_spec.specs.HtmlTokenizer.{Character}
use Rattle.tl_html_tokens.specs.Characters.{characters_of}
use Rattle.tl_html_tokens.specs.Comments.{comment_of}
use Rattle.tl_html_tokens.specs.Whole.{IsWhole, bytes_at}
use Rattle.tl_html_tokens.specs.declared.stage.TokenKind.TheVariants as kind
use Rattle.tl_patch_elements.specs.Inner.Parts.{Says}
use Rattle.tl_patch_elements.specs.Inner.Finding.{Finds}
use Rattle.tl_patch_elements.proofs.Tags.{comment_found, doctype_found, none_found}
use Rattle.tl_patch_elements.proofs.finder.Finder.push_token.Goals as goal

pub returns-in_ok-push_text-in-Text : goal.returns-in_ok-push_text-in-Text
returns-in_ok-push_text-in-Text c = λ ts part.
    let page = c.args.page.now in
    let token = c.args.token in
    let s : Says page token kind.Text ts = subst (λ k. Says page token k ts) c.in-Text.is part.says in
    subst (Finds c.args.self.now c.push_text.new.self c.args.at) (ap (λ x. map Character (characters_of token.mode x)) c.token_bytes-bytes.ensures ∙ sym s)
    c.in_ok-push_text-in-Text.ensures

pub returns-in_ok-push_start-in-StartTag : goal.returns-in_ok-push_start-in-StartTag
returns-in_ok-push_start-in-StartTag c = λ ts part.
    let page = c.args.page.now in
    let token = c.args.token in
    let s : Says page token kind.StartTag ts = subst (λ k. Says page token k ts) c.in-StartTag.is part.says in
    c.in_ok-push_start-in-StartTag.ensures token.mode ts (subst (λ x. IsWhole token.mode x ts) (sym c.token_bytes-bytes.ensures) s.0) s.1

pub returns-in_ok-push_end-in-EndTag : goal.returns-in_ok-push_end-in-EndTag
returns-in_ok-push_end-in-EndTag c = λ ts part.
    let page = c.args.page.now in
    let token = c.args.token in
    let s : Says page token kind.EndTag ts = subst (λ k. Says page token k ts) c.in-EndTag.is part.says in
    c.in_ok-push_end-in-EndTag.ensures token.mode ts (subst (λ x. IsWhole token.mode x ts) (sym c.token_bytes-bytes.ensures) s.0) s.1

pub returns-in-Comment : goal.returns-in-Comment
returns-in-Comment c = λ ts part.
    let page = c.args.page.now in
    let token = c.args.token in
    let s : Says page token kind.Comment ts = subst (λ k. Says page token k ts) c.in-Comment.is part.says in
    subst (Finds c.args.self.now c.args.self.now c.args.at) (sym s) (comment_found c.args.self.now c.args.at (comment_of (bytes_at page token)))

pub returns-in-Doctype : goal.returns-in-Doctype
returns-in-Doctype c = λ ts part.
    let s : Says c.args.page.now c.args.token kind.Doctype ts = subst (λ k. Says c.args.page.now c.args.token k ts) c.in-Doctype.is part.says in
    subst (Finds c.args.self.now c.args.self.now c.args.at) (sym s) (doctype_found c.args.self.now c.args.at)

pub returns-in-Nothing : goal.returns-in-Nothing
returns-in-Nothing c = λ ts part.
    let s : Says c.args.page.now c.args.token kind.Nothing ts = subst (λ k. Says c.args.page.now c.args.token k ts) c.in-Nothing.is part.says in
    subst (Finds c.args.self.now c.args.self.now c.args.at) (sym s) (none_found c.args.self.now c.args.at)
