use Rattle.std.proofs.Common.{ap, sym, subst, ◌∙◌, ◌++◌, ◌∷◌, []}
use Rattle.tl_html_spec.specs.Pieces.{pieces, runs}
use Rattle.tl_patch_edit.specs.Inner.Parts.{ArePieces, parts_view}
use Rattle.tl_patch_edit.proofs.Lists.{tokens_all, tokens_more}
use Rattle.tl_patch_edit.proofs.Said.{page_pieces}
use Rattle.tl_patch_edit.proofs.part.parts_of.Goals as goal

pub loop-at-init : goal.loop-at-init
loop-at-init c = ap parts_view c.in_ok-parts.ensures.items

pub loop-at-preserved : goal.loop-at-preserved
loop-at-preserved c =
    tokens_more c.args.page.now c.args.tokens.now c.loop-at.at _ _ _ c.loop-at-test.true c.loop-at.invariant
    (c.in_ok-push.ensures ∙ ap (λ x. parts_view c.loop-at.parts.items ++ x ∷ []) c.part_at.ensures)

pub returns : goal.returns
returns c =
    subst (λ xs. ArePieces xs (runs (pieces c.args.page.now))) (sym (tokens_all c.args.page.now c.args.tokens.now c.loop-at.at _ c.loop-at-test.false c.loop-at.invariant))
    (page_pieces c.args.page.now c.args.tokens.now c.requires)
