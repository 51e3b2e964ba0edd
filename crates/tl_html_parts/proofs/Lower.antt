-- Letters in lower case are read as they stand in names and keys.
use Rattle.std.proofs.Common.{◌≡◌, ℕ, Bool, true, false, not, ◌==◌, ◌||◌, ◌&&◌, arith, refl, ap, ◌∙◌}
use Rattle.std.specs.Char.{is_ascii_lowercase}
use Rattle.std.proofs.lemmas.Bool.{and_from, or_from}
use Rattle.std.proofs.lemmas.Bool.Decides.{nat_tests}
use Rattle.tl_spec.proofs.Lex.Bytes.{not_this}
use Rattle.tl_html_spec.specs.HtmlTokenizer.{ends_name, is_white_space}
use Rattle.tl_html_spec.specs.Reader.{feed}
use Rattle.tl_html_parts.specs.Bytes.{is_key_byte, is_kept_in_name, is_name_byte}
use Rattle.tl_html_parts.proofs.Runs.{feed_is}

other_than : (b c : ℕ) → is_ascii_lowercase b ≡ true → is_ascii_lowercase c ≡ false → (b == c) ≡ false
other_than b c h k = not_this is_ascii_lowercase b c h k

no_end : (b : ℕ) → is_ascii_lowercase b ≡ true → ends_name (feed b) ≡ false
no_end b h =
    let white : is_white_space b ≡ false =
    or_from ((b == 9) || (b == 10) || (b == 12)) (b == 32) (or_from ((b == 9) || (b == 10)) (b == 12) (or_from (b == 9) (b == 10) (other_than b 9 h refl) (other_than b 10 h refl)) (other_than b 12 h refl)) (other_than b 32 h refl) in
    ap ends_name (feed_is b (other_than b 13 h refl))
    ∙ or_from (is_white_space b || (b == 47)) (b == 62) (or_from (is_white_space b) (b == 47) white (other_than b 47 h refl)) (other_than b 62 h refl)

lower_kept : (b : ℕ) → is_ascii_lowercase b ≡ true → is_kept_in_name b ≡ true
lower_kept b h = grind (arith, nat_tests)

pub lower_name : (b : ℕ) → is_ascii_lowercase b ≡ true → (is_name_byte b && is_kept_in_name b) ≡ true
lower_name b h = and_from (is_name_byte b) (is_kept_in_name b) (ap not (no_end b h)) (lower_kept b h)

pub lower_key : (b : ℕ) → is_ascii_lowercase b ≡ true → (is_key_byte b && is_kept_in_name b) ≡ true
lower_key b h =
    and_from (is_key_byte b) (is_kept_in_name b) (ap not (or_from (ends_name (feed b)) (b == 61) (no_end b h) (other_than b 61 h refl)))
    (lower_kept b h)
