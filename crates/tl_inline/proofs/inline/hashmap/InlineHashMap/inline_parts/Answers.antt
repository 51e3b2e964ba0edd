use Rattle.std.proofs.Common.{refl}
use Rattle.tl_inline.proofs.inline.hashmap.InlineHashMap.inline_parts.Goals as goal

pub returns-in-Inline-clause-variant : goal.returns-in-Inline-clause-variant
returns-in-Inline-clause-variant g c = rw (← c.self.view_is, c.in-Inline.is) refl
