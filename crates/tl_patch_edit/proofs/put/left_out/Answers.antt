use Rattle.std.proofs.Common.{◌++◌, ◌∷◌, [], List, ℕ, ap, subst, ◌∙◌}
use Rattle.tl_html_spec.specs.HtmlTokenizer.{EndTag}
use Rattle.tl_html_tokens.specs.Whole.{IsWhole}
use Rattle.tl_html_tokens.specs.declared.mode.Mode.TheVariants as mode
use Rattle.tl_html_tokens.specs.declared.stage.TokenKind.TheVariants as kind
use Rattle.tl_html_parts.specs.Parts.{name_of}
use Rattle.tl_patch_edit.specs.Inner.Parts.{Part, part_view, parts_view}
use Rattle.tl_patch_edit.proofs.Puts.{end_tag_put}
use Rattle.tl_patch_edit.proofs.put.left_out.Goals as goal

pub returns-clause-parts : goal.returns-clause-parts
returns-clause-parts c =
    let name : List ℕ = name_of c.args.raw.now in
    let tag = c.requires in
    let part : Part = part_view c.end_tag_part.result in
    end_tag_put name (part_view c.args.place) part (parts_view c.push.new.out.items)
    (c.end_tag_part.ensures ∙ ap (λ (b : List ℕ). record { kind = kind.EndTag; mode = mode.Data; bytes = b }) tag.is)
    (subst (λ (b : List ℕ). IsWhole mode.Data b (EndTag name ∷ [])) tag.is tag.whole)
    (c.in_ok-push.ensures ∙ ap (λ xs. parts_view xs ++ part ∷ []) c.new-parts.ensures.items)
