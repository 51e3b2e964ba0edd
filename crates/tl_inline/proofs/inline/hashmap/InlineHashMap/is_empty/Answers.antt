use Rattle.std.proofs.lemmas.Bool.Decides.{Decides-eqb}
use Rattle.tl_inline.proofs.inline.hashmap.InlineHashMap.is_empty.Goals as goal

pub returns : goal.returns
returns g c = rw (← c.len.ensures.value) (Decides-eqb c.len.result 0)
