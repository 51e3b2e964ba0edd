use Rattle.tl_html_balance.proofs.Letters.{at_no_place, at_place}
use Rattle.tl_html_balance.proofs.known.rows_of.Goals as goal

pub returns-in_default : goal.returns-in_default
returns-in_default c = at_no_place c.args.groups.now c.args.place c.in_default.ensures.lookup.3

pub returns : goal.returns
returns c =
    let found = c.in-Some.ensures.lookup in
    at_place c.args.groups.now c.args.place c.in-Some.rows.now found.3.0 found.1
