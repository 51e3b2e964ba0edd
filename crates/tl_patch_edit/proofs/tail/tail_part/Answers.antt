use Rattle.std.proofs.Common.{List, ℕ, subst}
use Rattle.std.proofs.lemmas.Result.{IfOk-weaker}
use Rattle.tl_html_spec.specs.HtmlTokenizer.{HtmlToken}
use Rattle.tl_html_spec.specs.Pieces.{Piece}
use Rattle.tl_html_tokens.specs.Kinds.{IsEndTag, IsKind}
use Rattle.tl_html_tokens.specs.Whole.{IsWhole}
use Rattle.tl_html_tokens.specs.declared.mode.Mode.{Mode}
use Rattle.tl_patch_edit.specs.Inner.Parts.{IsPieceOf, Says, part_view}
use Rattle.tl_patch_edit.specs.Inner.Tails.{IsTailPart}
use Rattle.tl_patch_edit.specs.declared.tail.TailPart.{TailPart}
use Rattle.tl_patch_edit.proofs.tail.tail_part.Goals as goal

pub returns-in-EndTag : goal.returns-in-EndTag
returns-in-EndTag c =
    let mode : Mode = c.args.part.mode in
    let bytes : List ℕ = c.args.part.bytes.now in
    IfOk-weaker c.end_tag_part.result (λ (x : TailPart). (m : Mode) (ts : List HtmlToken) → IsWhole m bytes ts → IsEndTag ts → IsTailPart x ts)
    (λ (x : TailPart). (p : Piece) → IsPieceOf (part_view c.args.part) p → IsTailPart x p.tokens)
    (λ x f p h. f mode p.tokens (subst (λ k. Says k mode bytes p.tokens) c.in-EndTag.is h.says) (subst (λ k. IsKind k p.tokens) c.in-EndTag.is h.kind)) c.end_tag_part.ensures
