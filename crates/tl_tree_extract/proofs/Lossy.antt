-- What is UTF-8 stays as it is.
use Rattle.std.proofs.Common.{List, ℕ, ◌≡◌}
use Rattle.std.proofs.lemmas.Str.{utf8_lossy-IsUtf8}
use Rattle.std.specs.Str.{IsUtf8}
use Rattle.std.specs.Str.Lossy.{utf8_lossy}

pub lossy_same : (bytes : List ℕ) → IsUtf8 bytes → utf8_lossy bytes ≡ bytes
lossy_same bytes u = utf8_lossy-IsUtf8 bytes u
