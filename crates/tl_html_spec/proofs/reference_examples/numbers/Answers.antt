use Rattle.std.proofs.Common.{refl}
use Rattle.std.specs.Char.{encode_utf8}
use Rattle.tl_html_spec.proofs.reference_examples.numbers.Goals as goal

pub returns-clause-windows : goal.returns-clause-windows
unfolding encode_utf8
returns-clause-windows c = refl

pub returns-clause-null : goal.returns-clause-null
unfolding encode_utf8
returns-clause-null c = refl

pub returns-clause-surrogate : goal.returns-clause-surrogate
unfolding encode_utf8
returns-clause-surrogate c = refl

pub returns-clause-last : goal.returns-clause-last
unfolding encode_utf8
returns-clause-last c = refl

pub returns-clause-past_the_last : goal.returns-clause-past_the_last
unfolding encode_utf8
returns-clause-past_the_last c = refl

pub returns-clause-long : goal.returns-clause-long
unfolding encode_utf8
returns-clause-long c = refl
