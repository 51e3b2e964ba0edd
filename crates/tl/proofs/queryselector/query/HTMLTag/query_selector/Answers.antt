use Rattle.tl_spec.proofs.Select.Text.{alone-text}
use Rattle.tl.proofs.queryselector.query.HTMLTag.query_selector.Goals as goal

-- a text of one simple part is a selector's
pub returns-in_default-clause-fault : goal.returns-in_default-clause-fault
returns-in_default-clause-fault c = λ alone rises.
    let found = alone-text c.args.selector.now alone in
    let none = rw c.in_default.is at c.in_ok-parsed.ensures.none in
    absurd (none found.0 found.1)
