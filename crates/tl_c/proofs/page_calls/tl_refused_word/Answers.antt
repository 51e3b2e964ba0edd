use Rattle.tl_c.proofs.page_calls.tl_refused_word.Goals as goal

pub returns-clause-put : goal.returns-clause-put
returns-clause-put c = c.copy_result.ensures.put _ c.word_refused-word.ensures.gives

pub returns-clause-told : goal.returns-clause-told
returns-clause-told c = λ other.
    c.word_refused-word.ensures.told (λ lost. other (c.copy_result.ensures.memory.1 lost))

pub returns-clause-lost : goal.returns-clause-lost
returns-clause-lost c = λ three. c.word_refused-word.ensures.lost (c.copy_result.ensures.memory.0 three)
