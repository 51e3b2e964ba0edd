use Rattle.std.proofs.Common.{refl}
use Rattle.std.specs.Str.{chars, is_utf8}
use Rattle.std.specs.Str.Lossy.{utf8_valid_len, utf8_error_len, utf8_lossy}
use lib.Utf8.{encode}
use Rattle.tl_spec.proofs.examples.searches.broken_values.Goals as goal

pub returns-clause-other_byte : goal.returns-clause-other_byte
unfolding utf8_lossy utf8_valid_len utf8_error_len is_utf8 chars encode
returns-clause-other_byte c = refl

pub returns-clause-replacement : goal.returns-clause-replacement
unfolding utf8_lossy utf8_valid_len utf8_error_len is_utf8 chars encode
returns-clause-replacement c = refl

pub returns-clause-two_bytes : goal.returns-clause-two_bytes
unfolding utf8_lossy utf8_valid_len utf8_error_len is_utf8 chars encode
returns-clause-two_bytes c = refl

pub returns-clause-front : goal.returns-clause-front
unfolding utf8_lossy utf8_valid_len utf8_error_len is_utf8 chars encode
returns-clause-front c = refl

pub returns-clause-back : goal.returns-clause-back
unfolding utf8_lossy utf8_valid_len utf8_error_len is_utf8 chars encode
returns-clause-back c = refl

pub returns-clause-middle : goal.returns-clause-middle
unfolding utf8_lossy utf8_valid_len utf8_error_len is_utf8 chars encode
returns-clause-middle c = refl

pub returns-clause-no_part : goal.returns-clause-no_part
unfolding utf8_lossy utf8_valid_len utf8_error_len is_utf8 chars encode
returns-clause-no_part c = refl
