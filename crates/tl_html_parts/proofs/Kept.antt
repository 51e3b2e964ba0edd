-- Names and values that are read as they stand.
use Rattle.std.proofs.Common.{◌≡◌, ℕ, Bool, true, false, not, ◌==◌, ◌||◌, List, [], ◌∷◌, ◌++◌, refl, ap, ◌∙◌, sym, arith, append-nil, if◌then◌else◌}
use Rattle.std.specs.Char.{to_ascii_lowercase}
use Rattle.std.specs.List.{list_all}
use Rattle.std.proofs.lemmas.Bool.{and_parts}
use Rattle.std.proofs.lemmas.Bool.Decides.{nat_tests}
use Rattle.tl_html_spec.specs.HtmlTokenizer.{char_of, replacement}
use Rattle.tl_html_spec.specs.Unescaped.{unescaped_value}
use Rattle.tl_html_spec.proofs.Feeds.{is_no_return}
use Rattle.tl_html_spec.proofs.Looked.{bytes-plain}
use Rattle.tl_html_tokens.specs.Characters.{without_nul}
use Rattle.tl_html_parts.specs.Bytes.{is_kept_in_name, is_kept_in_value}
use Rattle.tl_html_parts.specs.Parts.{name_of, value_of}
use Rattle.tl_html_parts.proofs.Free.{no_nul, no_return}
use Rattle.tl_html_parts.proofs.Modes.{all_of, first_not, second_not}

lower_kept : (b : ℕ) → is_kept_in_name b ≡ true → to_ascii_lowercase b ≡ b
lower_kept b h = grind (arith, nat_tests)

nonzero_kept : (b : ℕ) → is_kept_in_name b ≡ true → (b == 0) ≡ false
nonzero_kept b h = grind (arith, nat_tests)

pub name_kept : (s : List ℕ) → list_all is_kept_in_name s ≡ true → name_of s ≡ s
name_kept [] h = refl
name_kept (b ∷ s) h =
    let parts = and_parts (is_kept_in_name b) (list_all is_kept_in_name s) h in
    ap (λ c. char_of c ++ name_of s) (lower_kept b parts.0)
    ∙ ap (λ (x : Bool). (if x then replacement else b ∷ []) ++ name_of s) (nonzero_kept b parts.0)
    ∙ ap (λ x. b ∷ x) (name_kept s parts.1)

no_reference : (s : List ℕ) → list_all (λ b. not (b == 38)) s ≡ true → unescaped_value s ≡ s
no_reference s h = ap unescaped_value (sym (append-nil s)) ∙ bytes-plain true s [] h ∙ append-nil s

pub value-kept : (s : List ℕ) → list_all is_kept_in_value s ≡ true → value_of s ≡ s
value-kept s h =
    ap (λ t. unescaped_value (without_nul t)) (no_return s (all_of is_kept_in_value is_no_return (λ b k. second_not (b == 38) (b == 13) (first_not ((b == 38) || (b == 13)) (b == 0) k)) s h))
    ∙ ap unescaped_value (no_nul s (all_of is_kept_in_value (λ b. not (b == 0)) (λ b. second_not ((b == 38) || (b == 13)) (b == 0)) s h))
    ∙ no_reference s (all_of is_kept_in_value (λ b. not (b == 38)) (λ b k. first_not (b == 38) (b == 13) (first_not ((b == 38) || (b == 13)) (b == 0) k)) s h)
