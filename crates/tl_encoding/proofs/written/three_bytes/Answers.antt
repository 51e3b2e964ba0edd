use Rattle.std.proofs.Common.{sym}
use Rattle.tl_encoding.proofs.Wide.{three}
use Rattle.tl_encoding.proofs.written.three_bytes.Goals as goal

pub returns : goal.returns
returns c = sym (three c.args.code c.requires.lower_bound c.requires.upper_bound)
