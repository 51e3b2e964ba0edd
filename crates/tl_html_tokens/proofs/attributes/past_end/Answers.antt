use Rattle.std.proofs.Common.{◌≡◌, ◌+◌, ℕ, List, Option, Some, take, refl, ap, sym, ◌∙◌}
use Rattle.tl_html_tokens.specs.Inner.Machine as M
use Rattle.tl_html_tokens.specs.declared.stage.Stage.{Stage}
use Rattle.tl_html_tokens.specs.declared.stage.Stage.TheVariants as stage
use Rattle.tl_html_tokens.specs.declared.stage.Tag.{Tag}
use Rattle.tl_html_tokens.specs.declared.stage.TokenKind.{TokenKind}
use Rattle.tl_html_tokens.proofs.Through.{join, one}
use Rattle.tl_html_tokens.proofs.attributes.past_end.Goals as goal

pub returns-then-text-at-eq62-clause-through : goal.returns-then-text-at-eq62-clause-through
returns-then-text-at-eq62-clause-through c =
    let s : List ℕ = c.args.text.now in
    let tag : Tag = c.args.tag in
    let at : ℕ = c.args.at in
    let whole : TokenKind → Option Stage = λ k. Some (stage.Whole k tag.mode) in
    join (stage.BeforeKey tag) (stage.AfterValue tag) (stage.Whole (M.tag_kind tag.is_end) tag.mode) at 1 s c.requires.inside c.requires.passed
    (one (stage.AfterValue tag) (stage.Whole (M.tag_kind tag.is_end) tag.mode) s at 62 c.if-at-text.true c.if-text-at-eq62.true refl)
    ∙ ap whole (sym c.kind.ensures)
