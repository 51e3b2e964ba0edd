use Rattle.std.proofs.Common.{refl}
use Rattle.tl_tree.proofs.SaidTags.{page-bytes}
use Rattle.tl_tree.proofs.said_bytes.put_bytes.Goals as goal

pub returns-then-stands_at-clause-stands : goal.returns-then-stands_at-clause-stands
returns-then-stands_at-clause-stands c =
    page-bytes c.args.store.now c.args.place c.args.bytes.now _ refl refl c.if-stands_at.ensures.within c.if-stands_at.ensures.stands
