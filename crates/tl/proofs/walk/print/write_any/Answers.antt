use Rattle.std.proofs.Common.{◌++◌, refl, ap, ◌∙◌, string_bytes}
use Rattle.bstr.proofs.lemmas.LossyLemmas.{lossy_chars-utf8_lossy}
use Rattle.tl.proofs.walk.print.write_any.Goals as goal

pub returns-clause-ok : goal.returns-clause-ok
returns-clause-ok c = c.in_ok-to_str_lossy_into.ensures.ok refl ∙ ap (λ x. string_bytes c.args.out.now ++ x) (lossy_chars-utf8_lossy c.args.bytes.now)
