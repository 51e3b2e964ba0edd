use Rattle.std.proofs.Common.{refl}
use Rattle.bstr.specs.Utf8.{pieces_from}
use Rattle.tl_spec.proofs.examples.searches.words_of_values.Goals as goal

pub returns-clause-no_break_space : goal.returns-clause-no_break_space
unfolding pieces_from
returns-clause-no_break_space c = refl

pub returns-clause-file_separator : goal.returns-clause-file_separator
unfolding pieces_from
returns-clause-file_separator c = refl

pub returns-clause-part_of_a_word : goal.returns-clause-part_of_a_word
unfolding pieces_from
returns-clause-part_of_a_word c = refl
