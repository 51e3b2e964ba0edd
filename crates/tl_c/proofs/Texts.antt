-- Bytes that are text, or not.
use Rattle.std.proofs.Common.{◌≡◌, ℕ, Bool, true, false, List, refl}
use Rattle.std.specs.Prelude.{IsUtf8}
use Rattle.std.specs.Str.{is_utf8}
use Rattle.std.proofs.lemmas.Str.{IsUtf8-from_is_utf8}

no_test : (b : Bool) → (b ≡ true → ⊥) → b ≡ false
no_test true lacks = absurd (lacks refl)
no_test false lacks = refl

pub is_utf8-no_text : (bytes : List ℕ) → (IsUtf8 bytes → ⊥) → is_utf8 bytes ≡ false
is_utf8-no_text bytes lacks = no_test (is_utf8 bytes) (λ e. lacks (IsUtf8-from_is_utf8 bytes e))
