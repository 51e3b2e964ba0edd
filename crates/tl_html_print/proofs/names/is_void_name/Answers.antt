use Rattle.std.proofs.Common.{ap, sym, ◌∙◌, ◌||◌}
use Rattle.tl_names.specs.Elements.{closed_at_once, is_among}
use Rattle.tl_html_print.proofs.Listed.{void-listed}
use Rattle.tl_html_print.proofs.names.is_void_name.Goals as goal

pub returns-then-is_of : goal.returns-then-is_of
returns-then-is_of c =
    let name = c.args.name.now in
    c.if-is_of.true ∙ ap (λ b. b || is_among closed_at_once name) (sym c.if-is_of.true ∙ c.is_of.ensures) ∙ void-listed name

pub returns-else-is_of : goal.returns-else-is_of
returns-else-is_of c =
    let name = c.args.name.now in
    c.is_among.ensures ∙ ap (λ b. b || is_among closed_at_once name) (sym c.if-is_of.false ∙ c.is_of.ensures) ∙ void-listed name
