-- The attributes of a tag with a change.
use Rattle.std.proofs.Common.{◌≡◌, ℕ, Bool, true, false, not, ◌||◌, List, [], ◌∷◌, ◌++◌, refl, ap, ap₂, sym, ◌∙◌, inl, inr}
use Rattle.std.specs.List.{filter, list_any}
use Rattle.std.specs.Str.{bytes_eq}
use Rattle.std.proofs.lemmas.Bool.{cases_Bool}
use Rattle.std.proofs.lemmas.List.Folds.{list_any-append}
use Rattle.tl_html_spec.specs.HtmlTokenizer.{HtmlAttribute, OpenTag, with_attribute}
use Rattle.tl_patch_spec.specs.TagChanges.{has_attribute, has_key}
use Rattle.tl_patch_spec.proofs.Inside.{with_all}
use Rattle.tl_patch_spec.proofs.Sets.{adding_if, attribute_is, fresh, has_all, has_fresh, neither, revalue_all, revalued}
use Rattle.tl_patch_spec.proofs.Added.{other_way}
use Rattle.tl_patch_spec.proofs.Unset.{drop_attribute, dropped, dropped_same}

-- a tag lacks a key with an attribute more that has another

lacks_if : (c : Bool) (key : List ℕ) (t : OpenTag) (k v : List ℕ) → has_attribute key t ≡ false → bytes_eq k key ≡ false → has_attribute key (adding_if c t k v) ≡ false
lacks_if true key t k v h n = h
lacks_if false key t k v h n = list_any-append (has_key key) t.attributes ((k, v) ∷ []) ∙ ap₂ (λ (u w : Bool). u || (w || false)) h n

still_lacks : (key : List ℕ) (t : OpenTag) (k v : List ℕ) → has_attribute key t ≡ false → bytes_eq k key ≡ false → has_attribute key (with_attribute t k v) ≡ false
still_lacks key t k v h n = ap (has_attribute key) (attribute_is t k v) ∙ lacks_if (has_attribute k t) key t k v h n

pub all_lack : (key : List ℕ) (t : OpenTag) (xs : List HtmlAttribute) → has_attribute key t ≡ false → list_any (has_key key) xs ≡ false → has_attribute key (with_all t xs) ≡ false
all_lack key t [] h n = h
all_lack key t (a ∷ xs) h n =
    let p = neither (has_key key a) (list_any (has_key key) xs) n in
    all_lack key (with_attribute t a.0 a.1) xs (still_lacks key t a.0 a.1 h p.0) p.1

-- another value in the place of the first

pub set_all : (key old new : List ℕ) (t : OpenTag) (front back : List HtmlAttribute) → has_attribute key t ≡ false → list_any (has_key key) front ≡ false →
    with_all t (front ++ (key, new) ∷ back) ≡ revalued key new (with_all t (front ++ (key, old) ∷ back))
set_all key old new t [] back h n =
    ap (λ (u : OpenTag). with_all u back) (fresh key old new t h) ∙ revalue_all key new (with_attribute t key old) back (has_fresh key old t h)
set_all key old new t (a ∷ front) back h n =
    let p = neither (has_key key a) (list_any (has_key key) front) n in
    set_all key old new (with_attribute t a.0 a.1) front back (still_lacks key t a.0 a.1 h p.0) p.1

pub set_has : (key old : List ℕ) (t : OpenTag) (front back : List HtmlAttribute) → has_attribute key t ≡ false → list_any (has_key key) front ≡ false →
    has_attribute key (with_all t (front ++ (key, old) ∷ back)) ≡ true
set_has key old t [] back h n = has_all key (with_attribute t key old) back (has_fresh key old t h)
set_has key old t (a ∷ front) back h n =
    let p = neither (has_key key a) (list_any (has_key key) front) n in
    set_has key old (with_attribute t a.0 a.1) front back (still_lacks key t a.0 a.1 h p.0) p.1

-- those with a key gone

abbrev pub others_of : List ℕ → List HtmlAttribute → List HtmlAttribute
others_of key xs = filter (λ a. not (has_key key a)) xs

pub unset_all : (key : List ℕ) (t : OpenTag) (xs : List HtmlAttribute) → with_all (dropped key t) (others_of key xs) ≡ dropped key (with_all t xs)
unset_all key t [] = refl
unset_all key t (a ∷ xs) = elim (cases_Bool (has_key key a)) [
  | inl y ↦ rw (y, filter) (ap (λ (u : OpenTag). with_all u (others_of key xs)) (sym (dropped_same key t a.0 a.1 y)) ∙ unset_all key (with_attribute t a.0 a.1) xs)
  | inr n ↦ rw (n, filter) (ap (λ (u : OpenTag). with_all u (others_of key xs)) (sym (drop_attribute key t a.0 a.1 (other_way a.0 key n))) ∙ unset_all key (with_attribute t a.0 a.1) xs)
]
