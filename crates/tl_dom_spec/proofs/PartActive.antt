-- The list of active formatting elements of the partial builder, and that of the whole one.
use Rattle.std.proofs.Common.{◌≡◌, ℕ, suc, Bool, false, ◌||◌, ◌&&◌, ◌==◌, ◌<◌, List, [], ◌∷◌, length, map, refl, ap, ap₂, sym, ◌∙◌, subst, inl, inr, arith, if◌then◌else◌}
use Rattle.std.specs.Prelude.{nat_lt, option_map}
use Rattle.std.specs.List.{list_all, list_any}
use Rattle.std.specs.Str.{bytes_eq}
use Rattle.std.proofs.lemmas.Bool.{cases_Bool, cond-false, cond-true, eqb-true, or_parts}
use Rattle.tl_html_spec.specs.HtmlTokenizer.{HtmlAttribute}
use Rattle.tl_tree_spec.specs.HtmlForest.{HtmlTag}
use Rattle.tl_tree_spec.specs.Builder as P
use Rattle.tl_dom_spec.specs.Tags.{Attribute, plain_attribute}
use Rattle.tl_dom_spec.specs.Builder as B
use Rattle.tl_dom_spec.specs.Formatting as F
use Rattle.tl_dom_spec.proofs.PartPaths.{eq_suc, tag_of}
use Rattle.tl_dom_spec.proofs.PartBuilders.{AreListed, entry_of}

abbrev pub listed_as : P.Element → F.Listed
listed_as e = record { number = suc e.number; tag = tag_of e.own }

pub listed_is : (n : List ℕ) (es : List P.Entry) → F.listed n (map entry_of es) ≡ option_map listed_as (P.listed n es)
listed_is n [] = refl
listed_is n (P.marker ∷ es) = refl
listed_is n (P.formatting e ∷ es) = elim (cases_Bool (bytes_eq n e.own.name)) [
  | inl y ↦ rw y refl
  | inr m ↦ rw m (listed_is n es)
]

pub is_listed_is : (k : ℕ) (es : List P.Entry) → F.is_listed (suc k) (map entry_of es) ≡ P.is_listed k es
is_listed_is k [] = refl
is_listed_is k (P.marker ∷ es) = is_listed_is k es
is_listed_is k (P.formatting e ∷ es) =
    ap (λ v. v || F.is_listed (suc k) (map entry_of es)) (eq_suc e.number k) ∙ ap (λ v. (e.number == k) || v) (is_listed_is k es)

-- an entry that is not there is not taken away
pub nothing_unlisted : (k : ℕ) (es : List P.Entry) → P.is_listed k es ≡ false → F.unlisted (suc k) (map entry_of es) ≡ map entry_of es
nothing_unlisted k [] h = refl
nothing_unlisted k (P.marker ∷ es) h = ap (λ fs. B.marker ∷ fs) (nothing_unlisted k es h)
nothing_unlisted k (P.formatting e ∷ es) h =
    let two = or_parts (e.number == k) (P.is_listed k es) h in
    cond-false _ _ _ (eq_suc e.number k ∙ two.0) ∙ ap (λ fs. entry_of (P.formatting e) ∷ fs) (nothing_unlisted k es two.1)

pub unlisted_is : (k next : ℕ) (es : List P.Entry) → AreListed next es → F.unlisted (suc k) (map entry_of es) ≡ map entry_of (P.unlisted k es)
unlisted_is k next [] h = refl
unlisted_is k next (P.marker ∷ es) h = ap (λ fs. B.marker ∷ fs) (unlisted_is k next es h)
unlisted_is k next (P.formatting e ∷ es) h = elim (cases_Bool (e.number == k)) [
  | inl y ↦ cond-true _ _ _ (eq_suc e.number k ∙ y)
      ∙ nothing_unlisted k es (ap (λ j. P.is_listed j es) (sym (eqb-true e.number k y)) ∙ h.1)
      ∙ ap (map entry_of) (sym (cond-true _ _ _ y))
  | inr n ↦ cond-false _ _ _ (eq_suc e.number k ∙ n)
      ∙ ap (λ fs. entry_of (P.formatting e) ∷ fs) (unlisted_is k next es h.3)
      ∙ ap (map entry_of) (sym (cond-false _ _ _ n))
]

pub without_last_marker_is : (es : List P.Entry) → B.without_last_marker (map entry_of es) ≡ map entry_of (P.without_last_marker es)
without_last_marker_is [] = refl
without_last_marker_is (P.marker ∷ es) = refl
without_last_marker_is (P.formatting e ∷ es) = without_last_marker_is es

-- Noah's Ark

length_map : (keys : List HtmlAttribute) → length (map plain_attribute keys) ≡ length keys
length_map [] = refl
length_map (a ∷ keys) = ap suc (length_map keys)

any_same : (x : HtmlAttribute) (keys : List HtmlAttribute) → list_any (F.is_same_attribute (plain_attribute x)) (map plain_attribute keys) ≡ list_any (P.same_attribute x) keys
any_same x [] = refl
any_same x (a ∷ keys) = ap (λ v. P.same_attribute x a || v) (any_same x keys)

all_same : (keys others : List HtmlAttribute) →
    list_all (λ (x : Attribute). list_any (F.is_same_attribute x) (map plain_attribute others)) (map plain_attribute keys)
    ≡ list_all (λ (x : HtmlAttribute). list_any (P.same_attribute x) others) keys
all_same [] others = refl
all_same (a ∷ keys) others = ap₂ (λ (x y : Bool). x && y) (any_same a others) (all_same keys others)

is_alike_is : (a c : HtmlTag) → F.is_alike (tag_of a) (tag_of c) ≡ P.is_alike a c
is_alike_is a c =
    ap₂ (λ (x y : Bool). bytes_eq a.name c.name && x && y)
    (ap₂ (λ (x y : ℕ). x == y) (length_map a.attributes) (length_map c.attributes)) (all_same a.attributes c.attributes)

alike_count_is : (own : HtmlTag) (es : List P.Entry) → F.alike_count (tag_of own) (map entry_of es) ≡ P.alike_count own es
alike_count_is own [] = refl
alike_count_is own (P.marker ∷ es) = refl
alike_count_is own (P.formatting e ∷ es) =
    ap₂ (λ (x : Bool) (n : ℕ). if x then suc n else n) (is_alike_is own e.own) (alike_count_is own es)

without_earliest_is : (own : HtmlTag) (es : List P.Entry) → F.without_earliest (tag_of own) (map entry_of es) ≡ map entry_of (P.without_earliest own es)
without_earliest_is own [] = refl
without_earliest_is own (P.marker ∷ es) = refl
without_earliest_is own (P.formatting e ∷ es) =
    let test = ap₂ (λ (x : Bool) (n : ℕ). x && (n == 0)) (is_alike_is own e.own) (alike_count_is own es) in
    elim (cases_Bool (P.is_alike own e.own && (P.alike_count own es == 0))) [
      | inl y ↦ cond-true _ _ _ (test ∙ y) ∙ ap (map entry_of) (sym (cond-true _ _ _ y))
      | inr n ↦ cond-false _ _ _ (test ∙ n) ∙ ap (λ fs. entry_of (P.formatting e) ∷ fs) (without_earliest_is own es) ∙ ap (map entry_of) (sym (cond-false _ _ _ n))
    ]

pub with_room_is : (own : HtmlTag) (es : List P.Entry) → F.with_room (tag_of own) (map entry_of es) ≡ map entry_of (P.with_room own es)
with_room_is own es =
    let test = ap (nat_lt 2) (alike_count_is own es) in
    elim (cases_Bool (nat_lt 2 (P.alike_count own es))) [
      | inl y ↦ cond-true _ _ _ (test ∙ y) ∙ without_earliest_is own es ∙ ap (map entry_of) (sym (cond-true _ _ _ y))
      | inr n ↦ cond-false _ _ _ (test ∙ n) ∙ ap (map entry_of) (sym (cond-false _ _ _ n))
    ]

-- what stays true of the entries

pub more_listed : (next : ℕ) (es : List P.Entry) → AreListed next es → AreListed (suc next) es
more_listed next [] h = tt
more_listed next (P.marker ∷ es) h = more_listed next es h
more_listed next (P.formatting e ∷ es) h = (h.0, h.1, (let l = h.2 in omega arith), more_listed next es h.3)

-- a number that is not given yet is not listed
pub not_listed : (next : ℕ) (es : List P.Entry) → AreListed next es → P.is_listed next es ≡ false
not_listed next [] h = refl
not_listed next (P.marker ∷ es) h = not_listed next es h
not_listed next (P.formatting e ∷ es) h =
    ap₂ (λ (x y : Bool). x || y) (other e.number next h.2) (not_listed next es h.3)
  where
    other : (a c : ℕ) → a < c → (a == c) ≡ false
    other a c l = elim (cases_Bool (a == c)) [
      | inl y ↦ (let e = eqb-true a c y in absurd (omega (arith, l, e)))
      | inr n ↦ n
    ]

fewer : (k j : ℕ) (es : List P.Entry) → P.is_listed j es ≡ false → P.is_listed j (P.unlisted k es) ≡ false
fewer k j [] h = refl
fewer k j (P.marker ∷ es) h = fewer k j es h
fewer k j (P.formatting e ∷ es) h =
    let two = or_parts (e.number == j) (P.is_listed j es) h in
    elim (cases_Bool (e.number == k)) [
      | inl y ↦ ap (P.is_listed j) (cond-true _ _ _ y) ∙ two.1
      | inr n ↦ ap (P.is_listed j) (cond-false _ _ _ n) ∙ ap₂ (λ (x y : Bool). x || y) two.0 (fewer k j es two.1)
    ]

pub unlisted_listed : (k next : ℕ) (es : List P.Entry) → AreListed next es → AreListed next (P.unlisted k es)
unlisted_listed k next [] h = tt
unlisted_listed k next (P.marker ∷ es) h = unlisted_listed k next es h
unlisted_listed k next (P.formatting e ∷ es) h = elim (cases_Bool (e.number == k)) [
  | inl y ↦ subst (AreListed next) (sym (cond-true _ _ _ y)) h.3
  | inr n ↦ subst (AreListed next) (sym (cond-false _ _ _ n)) (h.0, fewer k e.number es h.1, h.2, unlisted_listed k next es h.3)
]

pub marker_listed : (next : ℕ) (es : List P.Entry) → AreListed next es → AreListed next (P.without_last_marker es)
marker_listed next [] h = tt
marker_listed next (P.marker ∷ es) h = h
marker_listed next (P.formatting e ∷ es) h = marker_listed next es h.3

fewer_alike : (own : HtmlTag) (j : ℕ) (es : List P.Entry) → P.is_listed j es ≡ false → P.is_listed j (P.without_earliest own es) ≡ false
fewer_alike own j [] h = refl
fewer_alike own j (P.marker ∷ es) h = h
fewer_alike own j (P.formatting e ∷ es) h =
    let two = or_parts (e.number == j) (P.is_listed j es) h in
    elim (cases_Bool (P.is_alike own e.own && (P.alike_count own es == 0))) [
      | inl y ↦ ap (P.is_listed j) (cond-true _ _ _ y) ∙ two.1
      | inr n ↦ ap (P.is_listed j) (cond-false _ _ _ n) ∙ ap₂ (λ (x y : Bool). x || y) two.0 (fewer_alike own j es two.1)
    ]

earliest_listed : (own : HtmlTag) (next : ℕ) (es : List P.Entry) → AreListed next es → AreListed next (P.without_earliest own es)
earliest_listed own next [] h = tt
earliest_listed own next (P.marker ∷ es) h = h
earliest_listed own next (P.formatting e ∷ es) h = elim (cases_Bool (P.is_alike own e.own && (P.alike_count own es == 0))) [
  | inl y ↦ subst (AreListed next) (sym (cond-true _ _ _ y)) h.3
  | inr n ↦ subst (AreListed next) (sym (cond-false _ _ _ n)) (h.0, fewer_alike own e.number es h.1, h.2, earliest_listed own next es h.3)
]

pub room_listed : (own : HtmlTag) (next : ℕ) (es : List P.Entry) → AreListed next es → AreListed next (P.with_room own es)
room_listed own next es h = elim (cases_Bool (nat_lt 2 (P.alike_count own es))) [
  | inl y ↦ subst (AreListed next) (sym (cond-true _ _ _ y)) (earliest_listed own next es h)
  | inr n ↦ subst (AreListed next) (sym (cond-false _ _ _ n)) h
]
