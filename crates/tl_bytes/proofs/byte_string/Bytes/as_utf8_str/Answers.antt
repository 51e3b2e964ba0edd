use Rattle.bstr.proofs.lemmas.LossyLemmas.{lossy_chars-utf8_lossy}
use Rattle.std.proofs.Common.{rules}
use Rattle.tl_bytes.proofs.byte_string.Bytes.as_utf8_str.Goals as goal

pub returns-clause-text : goal.returns-clause-text
returns-clause-text c = let h = lossy_chars-utf8_lossy c.args.self.now.list in search (rules, h)
