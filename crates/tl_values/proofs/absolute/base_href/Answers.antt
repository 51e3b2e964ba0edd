use Rattle.std.proofs.Common.{sym, ◌∙◌, ◌≡◌}
use Rattle.tl_values.proofs.Bases.{href_none, href_some}
use Rattle.tl_values.proofs.absolute.base_href.Goals as goal

pub returns-in-Some : goal.returns-in-Some
returns-in-Some c = c.value.ensures ∙ sym (href_some _ c.in-Some.number c.in-Some.ensures.0 c.in-Some.ensures.1)

pub returns-in-None : goal.returns-in-None
returns-in-None c = sym (href_none _ c.in-None.ensures)
