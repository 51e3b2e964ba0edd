-- Names of elements.
use Rattle.std.proofs.Common.{◌≡◌, ℕ, Bool, true, false, ◌||◌, List, codes, refl, ◌∙◌}
use Rattle.std.specs.Str.{bytes_eq}
use Rattle.tl_names.specs.Elements.{implied_ends, is_among, table_parts}
use Rattle.tl_patch_spec.specs.Patches.{is_page_name, may_lack_end_tag}

abbrev one_of : Bool → Bool → Bool → Bool → Bool → Bool
one_of a b c d e = a || b || (c || (d || (e || false)))

is_it : (name : List ℕ) →
    one_of (is_among implied_ends name) (is_among table_parts name) (bytes_eq name (codes "html")) (bytes_eq name (codes "head")) (bytes_eq name (codes "body")) ≡ may_lack_end_tag name
is_it name = refl

first : (a b c d e : Bool) → a ≡ true → true ≡ one_of a b c d e
first true b c d e h = refl
first false b c d e h = cc

second : (a b c d e : Bool) → b ≡ true → true ≡ one_of a b c d e
second true b c d e h = refl
second false true c d e h = refl
second false false c d e h = cc

third : (a b c d e : Bool) → a ≡ false → b ≡ false → (c || d || e) ≡ one_of a b c d e
third true b c d e h k = cc
third false true c d e h k = cc
third false false true d e h k = refl
third false false false true e h k = refl
third false false false false true h k = refl
third false false false false false h k = refl

pub implied_name : (name : List ℕ) → is_among implied_ends name ≡ true → true ≡ may_lack_end_tag name
implied_name name h = first (is_among implied_ends name) (is_among table_parts name) (bytes_eq name (codes "html")) (bytes_eq name (codes "head")) (bytes_eq name (codes "body")) h ∙ is_it name

pub table_name : (name : List ℕ) → is_among table_parts name ≡ true → true ≡ may_lack_end_tag name
table_name name h = second (is_among implied_ends name) (is_among table_parts name) (bytes_eq name (codes "html")) (bytes_eq name (codes "head")) (bytes_eq name (codes "body")) h ∙ is_it name

pub document_name : (name : List ℕ) → is_among implied_ends name ≡ false → is_among table_parts name ≡ false →
    (bytes_eq name (codes "html") || bytes_eq name (codes "head") || bytes_eq name (codes "body")) ≡ may_lack_end_tag name
document_name name h k =
    third (is_among implied_ends name) (is_among table_parts name) (bytes_eq name (codes "html")) (bytes_eq name (codes "head")) (bytes_eq name (codes "body")) h k ∙ is_it name

last_false : (a b : Bool) → (a || b) ≡ (a || (b || false))
last_false true b = refl
last_false false true = refl
last_false false false = refl

page_is : (name : List ℕ) → (bytes_eq name (codes "html") || (bytes_eq name (codes "body") || false)) ≡ is_page_name name
page_is name = refl

pub page_name : (name : List ℕ) → (bytes_eq name (codes "html") || bytes_eq name (codes "body")) ≡ is_page_name name
page_name name = last_false (bytes_eq name (codes "html")) (bytes_eq name (codes "body")) ∙ page_is name
