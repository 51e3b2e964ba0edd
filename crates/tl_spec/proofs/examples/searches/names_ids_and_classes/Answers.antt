use Rattle.std.proofs.Common.{refl}
use Rattle.std.specs.Str.{chars, is_utf8}
use lib.Utf8.{encode}
use Rattle.tl_spec.proofs.examples.searches.names_ids_and_classes.Goals as goal

pub returns-clause-class : goal.returns-clause-class
unfolding is_utf8 chars encode
returns-clause-class c = refl
