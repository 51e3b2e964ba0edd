use Rattle.std.proofs.Common.{ap, ◌∙◌}
use Rattle.tl_html_balance.specs.Classes.{classes_in}
use Rattle.tl_html_balance.proofs.Letters.{by_first, by_none}
use Rattle.tl_html_balance.proofs.known.classes_of.Goals as goal

pub returns-in-Some : goal.returns-in-Some
returns-in-Some c =
    c.classes_among.ensures
    ∙ ap (λ rows. classes_in rows c.args.name.now) c.rows_at.ensures
    ∙ by_first c.args.name.now c.in-Some.letter.now c.in-Some.ensures.value

pub returns-in-None : goal.returns-in-None
returns-in-None c = by_none c.args.name.now c.in-None.ensures.value
