-- The bytes of characters in UTF-8, where there are two and three.
use Rattle.std.proofs.Common.{◌≡◌, ℕ, ◌+◌, ◌/◌, ◌%◌, ◌<◌, ◌≤◌, List, [], ◌∷◌, arith, encode_utf8, refl}
use Rattle.std.proofs.lemmas.Bool.{le-ltb, lt-ltb}

pub two : (c : ℕ) → 0x80 ≤ c → c < 0x800 → encode_utf8 c ≡ (0xC0 + c / 0x40) ∷ (0x80 + c % 0x40) ∷ []
unfolding lib.Utf8.encode
two c low high = rw (le-ltb c 128 low, lt-ltb c 2048 high) refl

pub three : (c : ℕ) → 0x800 ≤ c → c < 0x10000
    → encode_utf8 c ≡ (0xE0 + c / 0x1000) ∷ (0x80 + (c / 0x40) % 0x40) ∷ (0x80 + c % 0x40) ∷ []
unfolding lib.Utf8.encode
three c low high = rw (le-ltb c 128 (omega (arith, low)), le-ltb c 2048 low, lt-ltb c 65536 high) refl
