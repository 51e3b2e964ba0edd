use Rattle.std.proofs.Common.{rules}
use Rattle.std.proofs.lemmas.Iterator.{YieldsList-from_slice}
use Rattle.std.proofs.lemmas.Iterator.Search.{position_from_yields_List}
use Rattle.tl_bytes.specs.Search.{is_one_of}
use Rattle.tl_bytes.proofs.Searches.{is_one_of-comm}
use Rattle.tl_bytes.proofs.simd.fallback.find_any.Goals as goal

pub returns : goal.returns
returns c =
    position_from_yields_List (is_one_of c.args.needles.now) c.position.new.self _ _ c.position.ensures.ran (YieldsList-from_slice c.args.haystack.now cc)
    (λ x b q k. search (rules, is_one_of-comm c.args.needles.now x.now))
