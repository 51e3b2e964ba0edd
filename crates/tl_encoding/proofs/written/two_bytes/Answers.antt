use Rattle.std.proofs.Common.{sym}
use Rattle.tl_encoding.proofs.Wide.{two}
use Rattle.tl_encoding.proofs.written.two_bytes.Goals as goal

pub returns : goal.returns
returns c = sym (two c.args.code c.requires.lower_bound c.requires.upper_bound)
