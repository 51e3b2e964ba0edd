-- A name has no class that is not among those of all open tags.
use Rattle.std.proofs.Common.{◌≡◌, ℕ, zero, suc, ◌-◌, ◌<◌, ◌≤◌, min, max, reverse, vec_len, Bool, true, false, not, ◌==◌, bit_and, bit_or, List, [], ◌∷◌, Option, Some, None, option_map, length, take, drop, get_or, refl, ap, sym, ◌∙◌, arith, if◌then◌else◌}
use Rattle.std.specs.Int.{bit_at}
use Rattle.std.specs.List.{list_any}
use Rattle.std.proofs.lemmas.Bool.{both_ways, eq-eqb, eqb-true, false_from_ne_true, not_from_false, or_from, or_parts, true_from_ne_false}
use Rattle.std.proofs.lemmas.List.{drop_all}
use Rattle.std.proofs.lemmas.Nat.Bits.{bit_at-zero, bit_at_and, bit_at_or, same_from_bits}
use Rattle.tl_html_spec.specs.Balanced.{Names, depth, depth_in, looked_at}
use Rattle.tl_html_balance.specs.Classes.{classes_of, has, is}
use Rattle.tl_html_balance.specs.Names.{all_classes, are_nested, names_in}
use Rattle.tl_html_balance.specs.View.{open_names}
use Rattle.tl_html_balance.specs.declared.open_tags.OpenTag.{OpenTag}
use Rattle.tl_html_balance.specs.declared.open_tags.OpenTags.{OpenTags}
use Rattle.tl_html_balance.proofs.Nested.{nested_parts}
use Rattle.tl_html_balance.proofs.Opened.{inner-length, open-length, tag-at}

-- where two numbers together share no bit with a third, neither does by itself
apart-bits : (a b w i : ℕ) → bit_and (bit_or a b) w ≡ 0 → (bit_at (bit_and a w) i ≡ bit_at 0 i) × (bit_at (bit_and b w) i ≡ bit_at 0 i)
apart-bits a b w i h =
    let both : min (max (bit_at a i) (bit_at b i)) (bit_at w i) ≡ 0 =
    ap (λ n. min n (bit_at w i)) (sym (bit_at_or a b i)) ∙ sym (bit_at_and (bit_or a b) w i) ∙ ap (λ n. bit_at n i) h ∙ bit_at-zero i in
    let first : min (bit_at a i) (bit_at w i) ≡ 0 = omega arith in
    let second : min (bit_at b i) (bit_at w i) ≡ 0 = omega arith in
    (bit_at_and a w i ∙ first ∙ sym (bit_at-zero i), bit_at_and b w i ∙ second ∙ sym (bit_at-zero i))

apart : (a b w : ℕ) → bit_and (bit_or a b) w ≡ 0 → (bit_and a w ≡ 0) × (bit_and b w ≡ 0)
apart a b w h = (same_from_bits (bit_and a w) 0 (λ i. (apart-bits a b w i h).0), same_from_bits (bit_and b w) 0 (λ i. (apart-bits a b w i h).1))

lacks : (wanted classes : ℕ) → has wanted classes ≡ false → bit_and classes wanted ≡ 0
lacks wanted classes h =
    eqb-true (bit_and classes wanted) 0 (true_from_ne_false (bit_and classes wanted == 0) (λ e. both_ways (has wanted classes) h (not_from_false (bit_and classes wanted == 0) e)))

lacks-from : (wanted classes : ℕ) → bit_and classes wanted ≡ 0 → has wanted classes ≡ false
lacks-from wanted classes h = ap not (eq-eqb (bit_and classes wanted) 0 h)

none-in : (wanted : ℕ) (tags : List OpenTag) (bytes : List ℕ) → are_nested tags bytes ≡ true → has wanted (all_classes tags) ≡ false → list_any (is wanted) (names_in tags bytes) ≡ false
unfolding is
none-in wanted [] bytes h e = refl
none-in wanted (tag ∷ tags) bytes h e =
    let own = nested_parts tag tags bytes h in
    let none = apart tag.classes (all_classes tags) wanted (ap (λ n. bit_and n wanted) (sym own.all) ∙ lacks wanted tag.all_classes e) in
    or_from (is wanted (drop tag.start bytes)) (list_any (is wanted) (names_in tags (take tag.start bytes)))
    (ap (has wanted) (sym own.known) ∙ lacks-from wanted tag.classes none.0)
    (none-in wanted tags (take tag.start bytes) own.around (lacks-from wanted (all_classes tags) none.1))

none-from : (wanted : ℕ) (tags : List OpenTag) (bytes : List ℕ) (k : ℕ) (d : OpenTag) → are_nested tags bytes ≡ true → k < length tags → has wanted (get_or tags k d).all_classes ≡ false → list_any (is wanted) (drop k (names_in tags bytes)) ≡ false
none-from wanted [] bytes k d h lt e = absurd (omega arith)
none-from wanted (tag ∷ tags) bytes zero d h lt e = none-in wanted (tag ∷ tags) bytes h e
none-from wanted (tag ∷ tags) bytes (suc k) d h lt e =
    none-from wanted tags (take tag.start bytes) k d (nested_parts tag tags bytes h).around (omega arith) e

pub open-none : (t : OpenTags) (wanted k i : ℕ) (tag : OpenTag) (v : Bool) → k < vec_len t.tags → i ≡ vec_len t.tags - 1 - k → tag ≡ get_or t.tags.items i tag → v ≡ has wanted tag.all_classes → v ≡ false → list_any (is wanted) (drop k (open_names t)) ≡ false
unfolding open_names
open-none t wanted k i tag v lt at is said e =
    let many = inner-length t in
    let own : tag.all_classes ≡ (get_or (reverse t.tags.items) k tag).all_classes = ap (λ (o : OpenTag). o.all_classes) (tag-at t k i tag lt at is) in
    none-from wanted (reverse t.tags.items) t.names.items k tag t.nested (omega arith) (ap (has wanted) (sym own) ∙ sym said ∙ e)

pub open-past-none : (t : OpenTags) (wanted k : ℕ) → vec_len t.tags ≤ k → list_any (is wanted) (drop k (open_names t)) ≡ false
open-past-none t wanted k le =
    let all = open-length t in
    ap (list_any (is wanted)) (drop_all k (open_names t) (omega arith))

-- a search among names that all fail finds none

stays_none : (v : Bool) → (if v then None else option_map (λ n. suc n) None) ≡ None
stays_none true = refl
stays_none false = refl

search-none-in : (found stops : List ℕ → Bool) (limit : ℕ) (names : Names) → list_any found names ≡ false → depth_in found stops (take limit names) ≡ None
search-none-in found stops zero names e = refl
search-none-in found stops (suc limit) [] e = refl
search-none-in found stops (suc limit) (name ∷ names) e =
    let both = or_parts (found name) (list_any found names) e in
    ap (λ (v : Bool). if v then Some 0 else if stops name then None else option_map (λ n. suc n) (depth_in found stops (take limit names))) both.0
    ∙ ap (λ (o : Option ℕ). if stops name then None else option_map (λ n. suc n) o) (search-none-in found stops limit names both.1)
    ∙ stays_none (stops name)

pub search-none : (found stops : List ℕ → Bool) (names : Names) → list_any found names ≡ false → None ≡ depth found stops names
search-none found stops names e = sym (search-none-in found stops looked_at names e)
