use Rattle.std.proofs.Common.{refl}
use Rattle.std.specs.Str.{chars, is_utf8}
use Rattle.std.specs.Str.Lossy.{utf8_valid_len, utf8_error_len, utf8_lossy}
use lib.Utf8.{encode}
use Rattle.tl_spec.proofs.examples.searches.keys_of_tags.Goals as goal

pub returns-clause-any_value : goal.returns-clause-any_value
unfolding utf8_lossy utf8_valid_len utf8_error_len is_utf8 chars encode
returns-clause-any_value c = refl
