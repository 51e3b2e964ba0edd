use Rattle.tl_answers.proofs.partly.with_elements.Goals as goal

pub returns-in-Ok-clause-left : goal.returns-in-Ok-clause-left
returns-in-Ok-clause-left c = record { is_left = c.in-Ok.ensures.numbers; left_out = c.in-Ok.ensures.left_out }
