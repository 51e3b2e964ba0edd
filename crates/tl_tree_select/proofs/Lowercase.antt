-- Letters of ASCII in either case.
use Rattle.std.proofs.Common.{◌≡◌, ◌<◌, ℕ, List, length, sym, ap, ◌∙◌, arith, get_or, ext_get_or}
use Rattle.std.specs.Char.{to_ascii_lowercase}
use Rattle.std.specs.Str.{str_to_ascii_lowercase}
use Rattle.std.proofs.lemmas.List.{length-map, get_or-map}

pub lower_at : (bs : List ℕ) (k : ℕ) → k < length bs → get_or (str_to_ascii_lowercase bs) k 0 ≡ to_ascii_lowercase (get_or bs k 0)
lower_at bs k w = get_or-map to_ascii_lowercase bs k 0 0 w
