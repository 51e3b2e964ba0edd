use Rattle.std.proofs.Common.{refl}
use Rattle.std.specs.Str.{chars, is_utf8}
use Rattle.std.specs.Str.Lossy.{utf8_error_len, utf8_valid_len}
use Rattle.tl_encoding.proofs.examples.marked_bytes.Goals as goal

pub returns-clause-text : goal.returns-clause-text
unfolding utf8_valid_len is_utf8 chars lib.Utf8.encode
returns-clause-text c = refl

pub returns-clause-alone : goal.returns-clause-alone
unfolding utf8_valid_len utf8_error_len is_utf8 chars lib.Utf8.encode
returns-clause-alone c = refl

pub returns-clause-run : goal.returns-clause-run
unfolding utf8_valid_len utf8_error_len is_utf8 chars lib.Utf8.encode
returns-clause-run c = refl

pub returns-clause-back : goal.returns-clause-back
unfolding lib.Utf8.encode
returns-clause-back c = refl
