use Rattle.std.proofs.Common.{refl, rules}
use Rattle.tl_program.specs.Action.{action_of, selector_of}
use Rattle.tl_program.proofs.LongPages.{long_page-run}
use Rattle.tl_program.proofs.Meaning.{IsPage-not_understood, IsSelectorOf-selector_of}
use Rattle.tl_program.proofs.program.runner.run.Goals as goal

pub returns-in-Ok-TooLong-clause-run : goal.returns-in-Ok-TooLong-clause-run
returns-in-Ok-TooLong-clause-run g c =
    let action = action_of c.args.command.now in
    let page = rw c.in-Ok-TooLong.field-0-is at c.in-Ok-TooLong.ensures.page in
    let is_long = IsPage-not_understood action (selector_of action) _ page in
    (selector_of action, IsSelectorOf-selector_of action, long_page-run _ _ _ _ _ _ is_long c.in-Ok-TooLong.ensures.marks)

pub returns-in-Err-clause-run : goal.returns-in-Err-clause-run
returns-in-Err-clause-run g c =
    let action = action_of c.args.command.now in
    (selector_of action, IsSelectorOf-selector_of action, search rules)

pub returns-in-Err-last_output-clause-run : goal.returns-in-Err-last_output-clause-run
returns-in-Err-last_output-clause-run g c =
    let action = action_of c.args.command.now in
    (selector_of action, IsSelectorOf-selector_of action, search rules)

pub returns-in-Ok-write_and_flush-clause-run : goal.returns-in-Ok-write_and_flush-clause-run
returns-in-Ok-write_and_flush-clause-run g c =
    let action = action_of c.args.command.now in
    (selector_of action, IsSelectorOf-selector_of action, search rules)

pub returns-clause-run : goal.returns-clause-run
returns-clause-run g c =
    let action = action_of c.args.command.now in (
      selector_of action,
      IsSelectorOf-selector_of action,
      record {
        range = search rules;
        exact = search rules;
        written = λ _ not_four. absurd (not_four refl);
        identity = search rules;
        flushed_once = search rules;
        flushed_last = search rules;
        unflushed = search rules;
        untouched = search rules;
        beginning = search rules;
        unread = search rules;
        unwritten = search rules;
        failed = search rules;
      },
    )
