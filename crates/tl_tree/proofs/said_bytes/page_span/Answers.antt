use Rattle.std.proofs.Common.{refl}
use Rattle.tl_tree.proofs.SaidTags.{page-part}
use Rattle.tl_tree.proofs.said_bytes.page_span.Goals as goal

pub returns-clause-stands : goal.returns-clause-stands
returns-clause-stands c = page-part c.args.store.now c.args.part _ refl refl c.requires.order c.requires.within
