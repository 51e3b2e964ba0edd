use Rattle.std.proofs.Common.{refl}
use Rattle.std.specs.Char.{encode_utf8}
use Rattle.tl_tree_spec.proofs.table_examples.parts.Goals as goal

pub returns-clause-carriage_return : goal.returns-clause-carriage_return
unfolding encode_utf8
returns-clause-carriage_return c = refl
