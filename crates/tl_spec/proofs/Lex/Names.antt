-- All that the proofs use of the class of a name's bytes: a change of the class is a change of the first lemmas here.
use Rattle.std.proofs.Common.{◌≡◌, ℕ, true, false, not, ◌||◌, ◌&&◌, ◌==◌, codes, refl, ap, ap₂, sym, ◌∙◌}
use Rattle.std.proofs.lemmas.Bool.{and_parts, false_from_ne_true, or_parts, true≢false}
use Rattle.tl_spec.specs.Lex.ByteClass.{greater, is_blank, is_closing, is_ident, is_name, slash}
use Rattle.tl_spec.specs.Print.Clean.{IsName}
use Rattle.tl_spec.proofs.Lex.Bytes.{not_this}

-- so a name is ASCII, and after an attribute the first byte of the next one's key is not passed over
pub name-ident : (b : ℕ) → is_name b ≡ true → is_ident b ≡ true
name-ident b h = (and_parts (is_ident b) (not (b == slash)) h).0

-- no name holds a `/`
pub name-not-slash : (b : ℕ) → is_name b ≡ true → (b == slash) ≡ false
name-not-slash b h = false_from_ne_true (b == slash) (λ is. true≢false (sym (and_parts (is_ident b) (not (b == slash)) h).1 ∙ ap not is))

-- so where an attribute begins with neither a key nor `=`, its byte is passed over; `/` alone may be excepted, since no attribute begins with it
pub ident-name : (b : ℕ) → is_closing b ≡ false → is_name b ≡ false → is_ident b ≡ false
ident-name b open_ h =
    false_from_ne_true (is_ident b) (λ is. true≢false (sym (ap₂ (λ x y. x && not y) is (or_parts (b == slash) (b == greater) open_).0) ∙ h))

-- the keys that are kept apart are names

pub id-IsName : IsName (codes "id")
id-IsName = refl

pub class-IsName : IsName (codes "class")
class-IsName = refl

-- a byte that is no ident byte ends a name
pub no_name : (b : ℕ) → is_ident b ≡ false → is_name b ≡ false
no_name b h = false_from_ne_true (is_name b) (λ e. true≢false (sym (name-ident b e) ∙ h))

-- and no byte of a name is that byte
pub name-not : (b c : ℕ) → is_name b ≡ true → is_ident c ≡ false → (b == c) ≡ false
name-not b c h n = not_this is_name b c h (no_name c n)

pub name-not-blank : (b : ℕ) → is_name b ≡ true → is_blank b ≡ false
name-not-blank b h = ap₂ (λ x y. x || y) (name-not b 0x20 h refl) (name-not b 0x0A h refl)
