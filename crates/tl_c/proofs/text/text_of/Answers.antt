use Rattle.std.proofs.lemmas.Str.{is_utf8-from_IsUtf8}
use Rattle.tl_c.proofs.Texts.{is_utf8-no_text}
use Rattle.tl_c.proofs.text.text_of.Goals as goal

pub returns-in-Ok-clause-reads : goal.returns-in-Ok-clause-reads
returns-in-Ok-clause-reads c = is_utf8-from_IsUtf8 c.args.bytes.now c.in-Ok.ensures.cases.1

pub returns-in-Err-clause-reads : goal.returns-in-Err-clause-reads
returns-in-Err-clause-reads c = is_utf8-no_text c.args.bytes.now c.in-Err.ensures.cases.0
