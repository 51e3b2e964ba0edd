use Rattle.std.proofs.Common.{arith, sym, take_all}
use Rattle.tl_encoding.proofs.charset.head.Goals as goal

pub returns-then-page-lt-HEAD : goal.returns-then-page-lt-HEAD
returns-then-page-lt-HEAD c = let short = c.if-page-lt-HEAD.true in sym (take_all 1024 c.args.page.now (omega arith))
