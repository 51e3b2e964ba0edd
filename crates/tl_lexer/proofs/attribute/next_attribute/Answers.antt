use Rattle.std.proofs.Common.{sym}
use Rattle.tl_lexer.specs.Span.{pair_at}
use Rattle.tl_lexer.proofs.Places.{later}
use Rattle.tl_lexer.proofs.attribute.next_attribute.Goals as goal

pub returns-clause-order : goal.returns-clause-order
returns-clause-order c =
    let t = c.args.text.now in
    let found = c.attribute-end.result in
    later t c.args.at c.in_ok-first.first found.1 c.skip_blanks.result (pair_at t found.0) c.in_ok-first.ensures (sym c.if-is_closing.ensures) c.requires c.skip_blanks.ensures.within
    c.attribute-end.ensures.read c.skip_blanks.ensures.rest
