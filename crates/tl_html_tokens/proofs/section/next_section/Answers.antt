use Rattle.std.proofs.Common.{◌≤◌, ◌+◌, drop, length, length-drop, arith}
use Rattle.std.proofs.lemmas.List.{take_rest}
use Rattle.tl_html_tokens.proofs.Sections.{section_within}
use Rattle.tl_html_tokens.proofs.section.next_section.Goals as goal

pub returns-clause-order : goal.returns-clause-order
returns-clause-order c =
    let begin : 9 ≤ length (drop c.args.start c.args.page.now) = rw take_rest at (c.starts_with.ensures.bound c.if-not-starts_with.false) in
    let all = length-drop c.args.start c.args.page.now in
    let e = c.section_from.ensures in
    (section_within c.args.page.now (c.args.start + 9) c.section_from.result.text_end c.section_from.result.end (omega arith) e.text e.end).0

pub returns-clause-within : goal.returns-clause-within
returns-clause-within c =
    let begin : 9 ≤ length (drop c.args.start c.args.page.now) = rw take_rest at (c.starts_with.ensures.bound c.if-not-starts_with.false) in
    let all = length-drop c.args.start c.args.page.now in
    let e = c.section_from.ensures in
    (section_within c.args.page.now (c.args.start + 9) c.section_from.result.text_end c.section_from.result.end (omega arith) e.text e.end).1
