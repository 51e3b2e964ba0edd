use Rattle.tl_inline.proofs.Maps.{set-set_value_at}
use Rattle.tl_inline.proofs.inline.hashmap.pairs.put_value.Goals as goal

pub returns : goal.returns
returns g c = set-set_value_at c.args.pairs.now c.args.index _ c.args.value
