use Rattle.std.proofs.Common.{refl}
use Rattle.std.specs.Char.{encode_utf8}
use Rattle.tl_html_spec.proofs.examples.numbers.Goals as goal

pub returns-clause-of_either_base : goal.returns-clause-of_either_base
unfolding encode_utf8
returns-clause-of_either_base c = refl

pub returns-clause-windows_1252 : goal.returns-clause-windows_1252
unfolding encode_utf8
returns-clause-windows_1252 c = refl

pub returns-clause-of_controls : goal.returns-clause-of_controls
unfolding encode_utf8
returns-clause-of_controls c = refl

pub returns-clause-null : goal.returns-clause-null
unfolding encode_utf8
returns-clause-null c = refl

pub returns-clause-surrogate : goal.returns-clause-surrogate
unfolding encode_utf8
returns-clause-surrogate c = refl

pub returns-clause-past_the_last_character : goal.returns-clause-past_the_last_character
unfolding encode_utf8
returns-clause-past_the_last_character c = refl

pub returns-clause-the_last_character : goal.returns-clause-the_last_character
unfolding encode_utf8
returns-clause-the_last_character c = refl

pub returns-clause-at_the_end : goal.returns-clause-at_the_end
unfolding encode_utf8
returns-clause-at_the_end c = refl

pub returns-clause-none : goal.returns-clause-none
unfolding encode_utf8
returns-clause-none c = refl
