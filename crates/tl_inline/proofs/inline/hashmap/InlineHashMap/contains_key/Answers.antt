use Rattle.std.proofs.Common.{rules}
use Rattle.tl_inline.proofs.inline.hashmap.InlineHashMap.contains_key.Goals as goal

pub returns : goal.returns
returns g c = search rules
