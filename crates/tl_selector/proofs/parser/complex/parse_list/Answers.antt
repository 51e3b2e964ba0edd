use Rattle.std.proofs.Common.{sym}
use Rattle.tl_selector.specs.View.{selector}
use Rattle.tl_selector.proofs.TextParts.{alone_end, second_bad}
use Rattle.tl_selector.proofs.parser.complex.parse_list.Goals as goal

pub returns-in-Some-clause-alone : goal.returns-in-Some-clause-alone
returns-in-Some-clause-alone c h =
    c.parse_rest.ensures.alone (alone_end c.args.s.now (selector c.in-Some.first, c.in-Some.rest.now) h (rw (← c.skip_spaces.ensures) (sym c.in-Some.ensures)))

pub returns-in-Some-clause-bad : goal.returns-in-Some-clause-bad
returns-in-Some-clause-bad c h =
    c.parse_rest.ensures.bad (second_bad c.args.s.now (selector c.in-Some.first, c.in-Some.rest.now) h (rw (← c.skip_spaces.ensures) (sym c.in-Some.ensures)))
