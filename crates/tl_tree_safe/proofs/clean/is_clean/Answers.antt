use Rattle.tl_tree_safe.proofs.Whole.{whole}
use Rattle.tl_tree_safe.proofs.clean.is_clean.Goals as goal

pub returns : goal.returns
returns c = whole c.args.bytes.now c.memchr3.result c.is_none.result c.memchr3.ensures c.is_none.ensures
