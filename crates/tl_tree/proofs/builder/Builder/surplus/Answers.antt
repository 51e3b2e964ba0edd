use Rattle.tl_tree.specs.Inner.Builders.{builder_of, token_of}
use Rattle.tl_tree.proofs.builder.Builder.surplus.Goals as goal

pub returns-clause-some : goal.returns-clause-some
unfolding builder_of token_of
returns-clause-some c = c.surplus.ensures.some

pub returns-clause-none : goal.returns-clause-none
unfolding builder_of token_of
returns-clause-none c = c.surplus.ensures.none
