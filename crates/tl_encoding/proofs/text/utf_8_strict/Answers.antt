use Rattle.std.proofs.Common.{◌∙◌, ap, encode_utf8_all, string_bytes, sym}
use Rattle.std.proofs.lemmas.Str.{IsUtf8-string_bytes}
use Rattle.tl_encoding.specs.Utf8.{utf_8}
use Rattle.tl_encoding.proofs.Replaced.{of_text}
use Rattle.tl_encoding.proofs.text.utf_8_strict.Goals as goal

pub returns-in-Ok-clause-text : goal.returns-in-Ok-clause-text
returns-in-Ok-clause-text c =
    sym (of_text (string_bytes c.in-Ok.text) (IsUtf8-string_bytes c.in-Ok.text)) ∙ ap (λ v. encode_utf8_all (utf_8 v.items)) c.in-Ok.ensures.ok
