use Rattle.std.proofs.Common.{◌≡◌, IsUtf8, rules, subst, sym, true}
use Rattle.std.proofs.Math.Utf8.{scalar}
use Rattle.std.proofs.lemmas.Str.{IsUtf8-encode}
use Rattle.tl_encoding.proofs.written.push_character.Goals as goal

pub from_utf8_unchecked-requires : goal.from_utf8_unchecked-requires
from_utf8_unchecked-requires c =
    let is : scalar c.args.character ≡ true = search rules in
    subst IsUtf8 (sym c.two_bytes-two.ensures) (IsUtf8-encode c.args.character is)

pub from_utf8_unchecked-requires-then-code-lt65536 : goal.from_utf8_unchecked-requires-then-code-lt65536
from_utf8_unchecked-requires-then-code-lt65536 c =
    let is : scalar c.args.character ≡ true = search rules in
    subst IsUtf8 (sym c.three_bytes-three.ensures) (IsUtf8-encode c.args.character is)
