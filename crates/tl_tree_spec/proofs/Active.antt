-- The list of active formatting elements beside the open ones, as balanced tags leave it.
use Rattle.std.proofs.Common.{◌≡◌, ℕ, ◌<◌, ◌≤◌, Bool, true, false, not, ◌&&◌, ◌==◌, List, [], ◌∷◌, map, Some, None, refl, ap, sym, subst, ◌∙◌, inl, inr, arith, if◌then◌else◌}
use Rattle.std.specs.Prelude.{⊤, nat_lt}
use Rattle.std.specs.List.{list_any}
use Rattle.std.specs.Str.{bytes_eq}
use Rattle.std.proofs.lemmas.Bool.{cases_Bool, or_from, or_left, or_parts, or_right}
use Rattle.std.proofs.lemmas.Bool.Decides.{nat_tests}
use Rattle.tl_tree_spec.specs.HtmlForest.{HtmlTag}
use Rattle.tl_tree_spec.specs.Groups.{Group, a_format, a_nobr, an_anchor, group}
use Rattle.tl_tree_spec.specs.Builder.{Builder, Element, Entry, alike_count, elements, formatting, has_number, is_alike, is_listed, is_open, listed, marker, rebuilt, reconstructed, reopened, with_room, within, without_earliest}
use Rattle.tl_tree_spec.specs.Stays.{is_mark}

-- the groups whose elements are listed as active
abbrev pub is_active : Group → Bool
is_active an_anchor = true
is_active a_format = true
is_active a_nobr = true
is_active _ = false

-- numbers fall from the innermost element outwards, and all are below this one
abbrev pub Ordered : ℕ → List Element → Type 0
Ordered b [] = ⊤
Ordered b (e ∷ es) = (e.number < b) × Ordered e.number es

-- the entries are open elements, in their order, and markers of open elements that mark
pub data Sound : List Entry → List Element → Type 0 where
  over : {es : List Element} → Sound [] es
  marked : {e : Element} {entries : List Entry} {es : List Element} →
      is_mark e.own.name ≡ true → Sound entries es → Sound (marker ∷ entries) (e ∷ es)
  kept : {e : Element} {entries : List Entry} {es : List Element} →
      is_mark e.own.name ≡ false → is_active (group e.own.name) ≡ true → Sound entries es →
      Sound (formatting e ∷ entries) (e ∷ es)
  skipped : {e : Element} {entries : List Entry} {es : List Element} →
      is_mark e.own.name ≡ false → Sound entries es → Sound entries (e ∷ es)

pub same_number : (k : ℕ) → (k == k) ≡ true
same_number k = grind (arith, nat_tests)

other_number : (j k : ℕ) → j < k → (j == k) ≡ false
other_number j k h = grind (arith, nat_tests)

pub Ordered-up : (j k : ℕ) (es : List Element) → j ≤ k → Ordered j es → Ordered k es
Ordered-up j k [] h o = o
Ordered-up j k (e ∷ es) h o = (omega (arith, h, o.0), o.1)

-- an entry at the front is open
pub head_open : {e : Element} {entries : List Entry} {es : List Element} → Sound (formatting e ∷ entries) es → is_open e.number es ≡ true
head_open {e} (kept {es} m a s) = or_left (e.number == e.number) (list_any (has_number e.number) es) (same_number e.number)
head_open {e} (skipped {e = x} {es} m s) = or_right (x.number == e.number) (list_any (has_number e.number) es) (head_open s)

-- so nothing is reconstructed
rebuilt_none : (b : Builder) (entries : List Entry) → Sound entries (elements b.stack) → rebuilt b entries ≡ record b { active = entries }
rebuilt_none b [] s = refl
rebuilt_none b (marker ∷ entries) s = refl
rebuilt_none b (formatting e ∷ entries) s =
    ap (λ (x : Bool). if x then record b { active = formatting e ∷ entries } else reopened e.own (rebuilt b entries)) (head_open s)

pub reconstructed_none : (b : Builder) → Sound b.active (elements b.stack) → reconstructed b ≡ b
reconstructed_none b s = rebuilt_none b b.active s

-- a number that is above all open ones is not listed
pub not_listed : {entries : List Entry} {es : List Element} (k b : ℕ) → b ≤ k → Ordered b es → Sound entries es → is_listed k entries ≡ false
not_listed k b h o over = refl
not_listed k b h o (marked {e} m s) = not_listed k e.number (omega (arith, h, o.0)) o.1 s
not_listed k b h o (kept {e} {entries} m a s) =
    or_from (e.number == k) (is_listed k entries) (other_number e.number k (omega (arith, h, o.0))) (not_listed k e.number (omega (arith, h, o.0)) o.1 s)
not_listed k b h o (skipped {e} m s) = not_listed k e.number (omega (arith, h, o.0)) o.1 s

abbrev names_of : List Element → List (List ℕ)
names_of es = map (λ (e : Element). e.own.name) es

-- where no element of a name is open up to a marking one, none is listed
pub none_listed : {entries : List Entry} {es : List Element} (n : List ℕ) → Sound entries es → within (bytes_eq n) is_mark (names_of es) ≡ false → listed n entries ≡ None
none_listed n over h = refl
none_listed n (marked m l) h = refl
none_listed n (kept {e} {entries} {es} m a s) h =
    let here = or_parts (bytes_eq n e.own.name) (not (is_mark e.own.name) && within (bytes_eq n) is_mark (names_of es)) h in
    let on : within (bytes_eq n) is_mark (names_of es) ≡ false = sym (ap (λ x. not x && within (bytes_eq n) is_mark (names_of es)) m) ∙ here.1 in
    ap (λ (x : Bool). if x then Some e else listed n entries) here.0 ∙ none_listed n s on
none_listed n (skipped {e} {es} m s) h =
    let here = or_parts (bytes_eq n e.own.name) (not (is_mark e.own.name) && within (bytes_eq n) is_mark (names_of es)) h in
    none_listed n s (sym (ap (λ x. not x && within (bytes_eq n) is_mark (names_of es)) m) ∙ here.1)

-- the Noah's Ark clause
earliest_gone : {entries : List Entry} {es : List Element} (own : HtmlTag) → Sound entries es → Sound (without_earliest own entries) es
earliest_gone own over = over
earliest_gone own (marked m l) = marked m l
earliest_gone own (kept {e} {entries} {es} m a s) =
    elim (cases_Bool (is_alike own e.own && (alike_count own entries == 0))) [
      | inl y ↦ subst (λ (x : List Entry). Sound x (e ∷ es)) (sym (ap (λ (v : Bool). if v then entries else formatting e ∷ without_earliest own entries) y)) (skipped m s)
      | inr n ↦ subst (λ (x : List Entry). Sound x (e ∷ es)) (sym (ap (λ (v : Bool). if v then entries else formatting e ∷ without_earliest own entries) n)) (kept m a (earliest_gone own s))
    ]
earliest_gone own (skipped m s) = skipped m (earliest_gone own s)

pub with_room-Sound : (entries : List Entry) (es : List Element) (own : HtmlTag) → Sound entries es → Sound (with_room own entries) es
with_room-Sound entries es own s =
    elim (cases_Bool (nat_lt 2 (alike_count own entries))) [
      | inl y ↦ subst (λ (x : List Entry). Sound x es) (sym (ap (λ (v : Bool). if v then without_earliest own entries else entries) y)) (earliest_gone own s)
      | inr n ↦ subst (λ (x : List Entry). Sound x es) (sym (ap (λ (v : Bool). if v then without_earliest own entries else entries) n)) s
    ]
