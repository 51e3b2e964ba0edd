use Rattle.std.specs.Prelude.{◌==◌}
use Rattle.tl_bytes.proofs.Searches.{first_from_IsFirstByte}
use Rattle.tl_bytes.proofs.simd.find_far.Goals as goal

pub returns : goal.returns
returns c = first_from_IsFirstByte (λ b. b == c.args.needle) c.args.haystack.now _ c.memchr.ensures
