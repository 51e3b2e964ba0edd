use Rattle.tl_c.proofs.page_calls.tl_list_options.Goals as goal

pub returns : goal.returns
returns c = record { put = c.copy_result.ensures.put _ c.lines_with.ensures.gives }
