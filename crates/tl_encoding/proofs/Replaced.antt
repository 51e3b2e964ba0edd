-- What std makes of bytes that may be no UTF-8 is what the decoder makes of them.
use Rattle.std.proofs.Common.{◌≡◌, ◌∙◌, ℕ, List, ap, encode_utf8_all}
use Rattle.std.specs.Prelude.{IsUtf8}
use Rattle.std.specs.Str.Lossy.{utf8_lossy}
use Rattle.bstr.proofs.lemmas.EncodeLemmas.{lossy_chars-utf8}
use Rattle.bstr.proofs.lemmas.LossyLemmas.{lossy_chars-utf8_lossy}
use Rattle.tl_encoding.specs.Utf8.{utf_8}
use Rattle.tl_encoding.proofs.Utf8.{decoder}

pub of_text : (bytes : List ℕ) → IsUtf8 bytes → encode_utf8_all (utf_8 bytes) ≡ bytes
of_text bytes text = ap encode_utf8_all (decoder bytes) ∙ lossy_chars-utf8 bytes text

pub of_any : (bytes : List ℕ) → encode_utf8_all (utf_8 bytes) ≡ utf8_lossy bytes
of_any bytes = ap encode_utf8_all (decoder bytes) ∙ lossy_chars-utf8_lossy bytes

pub ruleset replaced = (of_text, of_any)
