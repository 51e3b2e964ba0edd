use Rattle.std.proofs.Common.{sym, ◌∙◌}
use Rattle.tl_patch_edit.proofs.Names.{document_name, implied_name, table_name}
use Rattle.tl_patch_edit.proofs.element_name.may_lack_end_tag.Goals as goal

pub returns-then-is_implied : goal.returns-then-is_implied
returns-then-is_implied c = implied_name c.args.name.now (sym c.is_among-is_implied.ensures ∙ c.if-is_implied.true)

pub returns-then-is_part : goal.returns-then-is_part
returns-then-is_part c = table_name c.args.name.now (sym c.is_among-is_part.ensures ∙ c.if-is_part.true)

pub returns : goal.returns
returns c =
    c.is_document_name.ensures
    ∙ document_name c.args.name.now (sym c.is_among-is_implied.ensures ∙ c.if-is_implied.false) (sym c.is_among-is_part.ensures ∙ c.if-is_part.false)
