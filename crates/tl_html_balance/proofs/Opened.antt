-- The open tags, outermost first as they are kept, and innermost first as they are seen.
use Rattle.std.proofs.Common.{◌≡◌, ℕ, zero, suc, ◌+◌, ◌-◌, ◌<◌, ◌≤◌, min, true, List, [], ◌∷◌, ◌++◌, Some, None, Result, Ok, Err, length, take, drop, get_or, reverse, slice_get, inl, inr, ap, sym, ◌∙◌, subst, arith, length-drop, OnErr, vec_len}
use Rattle.std.proofs.lemmas.List.{drop-drop, drop_all, drop_at, drop_min, get_or-reverse, length-reverse, reverse-append, take-append-drop}
use Rattle.std.proofs.lemmas.Bool.{cases_lt}
use Rattle.std.proofs.lemmas.Option.{slice_get-get_or, slice_get_past}
use Rattle.tl_html_spec.specs.Balanced.{Names}
use Rattle.tl_html_balance.specs.Classes.{classes_of}
use Rattle.tl_html_balance.specs.Names.{are_nested, end_at, names_in}
use Rattle.tl_html_balance.specs.View.{open_names}
use Rattle.tl_html_balance.specs.declared.open_tags.OpenTag.{OpenTag}
use Rattle.tl_html_balance.specs.declared.open_tags.OpenTags.{OpenTags}
use Rattle.tl_html_balance.proofs.Nested.{Remains, classes-at, end-after, end-within, name-at, names-length, pushed-names, remain, start-before}

abbrev inner_first : OpenTags → List OpenTag
inner_first t = reverse t.tags.items

pub inner-length : (t : OpenTags) → length (inner_first t) ≡ vec_len t.tags
inner-length t = length-reverse t.tags.items ∙ sym t.tags.ok.0

pub open-length : (t : OpenTags) → length (open_names t) ≡ vec_len t.tags
unfolding open_names
open-length t = names-length (inner_first t) t.names.items ∙ inner-length t

-- a tag that is read from the end is the one at that place
pub tag-at : (t : OpenTags) (k i : ℕ) (tag : OpenTag) → k < vec_len t.tags → i ≡ vec_len t.tags - 1 - k → tag ≡ get_or t.tags.items i tag → tag ≡ get_or (inner_first t) k tag
tag-at t k i tag lt e is =
    let many : length t.tags.items ≡ vec_len t.tags = sym t.tags.ok.0 in
    let at : i ≡ length t.tags.items - 1 - k = omega arith in
    is ∙ ap (λ n. get_or t.tags.items n tag) at ∙ sym (get_or-reverse t.tags.items k tag (omega arith))

pub open-classes : (t : OpenTags) (k i : ℕ) (tag : OpenTag) → k < length (open_names t) → i ≡ vec_len t.tags - 1 - k → tag ≡ get_or t.tags.items i tag → tag.classes ≡ classes_of (get_or (open_names t) k [])
unfolding open_names
open-classes t k i tag lt e is =
    let all = open-length t in
    let more = inner-length t in
    ap (λ (own : OpenTag). own.classes) (tag-at t k i tag (omega arith) e is)
    ∙ classes-at (inner_first t) t.names.items k tag t.nested (omega arith)

pub open-end : (t : OpenTags) (k i : ℕ) (tag : OpenTag) → (0 < k) → k < length (open_names t) → i ≡ vec_len t.tags - k → tag ≡ get_or t.tags.items i tag → tag.start ≡ end_at (inner_first t) t.names.items k
open-end t zero i tag pos lt e is = absurd (omega arith)
open-end t (suc k) i tag pos lt e is =
    let all = open-length t in
    let more = inner-length t in
    ap (λ (own : OpenTag). own.start) (tag-at t k i tag (omega arith) (omega arith) is)
    ∙ sym (end-after (inner_first t) t.names.items k tag t.nested (omega arith))

-- where a name lies, and what it is
pub record Lies (t : OpenTags) (k start : ℕ) : Type 0 where
  pub order : start ≤ end_at (inner_first t) t.names.items k
  pub within : end_at (inner_first t) t.names.items k ≤ length t.names.items
  pub bytes : take (end_at (inner_first t) t.names.items k - start) (drop start t.names.items) ≡ get_or (open_names t) k []

pub open-name : (t : OpenTags) (k i : ℕ) (tag : OpenTag) → k < length (open_names t) → i ≡ vec_len t.tags - 1 - k → tag ≡ get_or t.tags.items i tag → Lies t k tag.start
unfolding open_names
open-name t k i tag lt e is =
    let all = open-length t in
    let more = inner-length t in
    let own = tag-at t k i tag (omega arith) e is in
    let start : tag.start ≡ (get_or (inner_first t) k tag).start = ap (λ (o : OpenTag). o.start) own in
    let last : ℕ = end_at (inner_first t) t.names.items k in
    record {
      order = subst (λ n. n ≤ last) (sym start) (start-before (inner_first t) t.names.items k tag t.nested (omega arith));
      within = end-within (inner_first t) t.names.items k (omega arith);
      bytes = ap (λ n. take (last - n) (drop n t.names.items)) start ∙ name-at (inner_first t) t.names.items k tag t.nested (omega arith);
    }

pub open-get : (t : OpenTags) (k start end : ℕ) (bytes : List ℕ) → k < length (open_names t) → Lies t k start → end ≡ end_at (inner_first t) t.names.items k → bytes ≡ t.names.items → Some (take (end - start) (drop start bytes)) ≡ slice_get (open_names t) k
open-get t k start end bytes lt lies e f =
    ap (λ n. Some (take (n - start) (drop start bytes))) e
    ∙ ap (λ all. Some (take (end_at (inner_first t) t.names.items k - start) (drop start all))) f
    ∙ ap Some lies.bytes
    ∙ sym (slice_get-get_or (open_names t) k [] lt)

pub open-past : (t : OpenTags) (k : ℕ) → length (open_names t) ≤ k → None ≡ slice_get (open_names t) k
open-past t k le = sym (slice_get_past (open_names t) k le)

-- the innermost ones are closed

reverse-take : (n : ℕ) (tags : List OpenTag) → n ≤ length tags → reverse (take n tags) ≡ drop (length tags - n) (reverse tags)
reverse-take n tags le =
    let gone : length (reverse (drop n tags)) ≡ length tags - n = length-reverse (drop n tags) ∙ length-drop n tags in
    sym (ap (λ (all : List OpenTag). drop (length tags - n) (reverse all)) (sym (take-append-drop n tags))
    ∙ ap (drop (length tags - n)) (reverse-append (take n tags) (drop n tags))
    ∙ drop_at (reverse (drop n tags)) (reverse (take n tags)) (length tags - n) gone)

-- what is left where the outermost closed tag begins at `start`
pub record Closed (t : OpenTags) (left count : ℕ) (tag : OpenTag) : Type 0 where
  pub names : names_in (reverse (take left t.tags.items)) (take tag.start t.names.items) ≡ drop count (open_names t)
  pub nested : are_nested (reverse (take left t.tags.items)) (take tag.start t.names.items) ≡ true

pub closed-at : (t : OpenTags) (count left : ℕ) (tag : OpenTag) → left ≡ vec_len t.tags - count → left < vec_len t.tags → tag ≡ get_or t.tags.items left tag → Closed t left count tag
unfolding open_names
closed-at t count left tag e lt is =
    let many : length t.tags.items ≡ vec_len t.tags = sym t.tags.ok.0 in
    let all : length (inner_first t) ≡ vec_len t.tags = inner-length t in
    let k : ℕ = vec_len t.tags - left - 1 in
    let one_more : suc k ≡ length t.tags.items - left = omega arith in
    let least : suc k ≡ min count (length (names_in (inner_first t) t.names.items)) = omega (arith, names-length (inner_first t) t.names.items) in
    let own : tag ≡ get_or (inner_first t) k tag = tag-at t k left tag (omega arith) (omega arith) is in
    let rest : reverse (take left t.tags.items) ≡ drop (suc k) (inner_first t) = reverse-take left t.tags.items (omega arith) ∙ ap (λ n. drop n (inner_first t)) (sym one_more) in
    let bytes : take tag.start t.names.items ≡ take (get_or (inner_first t) k tag).start t.names.items = ap (λ (o : OpenTag). take o.start t.names.items) own in
    let more : Remains (inner_first t) (drop (suc k) (inner_first t)) t.names.items (take (get_or (inner_first t) k tag).start t.names.items) (suc k) = remain (inner_first t) t.names.items k tag t.nested (omega arith) in
    record {
      names =
          ap (λ (tags : List OpenTag). names_in tags (take tag.start t.names.items)) rest
          ∙ ap (names_in (drop (suc k) (inner_first t))) bytes
          ∙ more.names
          ∙ ap (λ n. drop n (names_in (inner_first t) t.names.items)) least
          ∙ drop_min count (names_in (inner_first t) t.names.items);
      nested =
          ap (λ (tags : List OpenTag). are_nested tags (take tag.start t.names.items)) rest
          ∙ ap (are_nested (drop (suc k) (inner_first t))) bytes
          ∙ more.nested;
    }

pub closed-nested : (t : OpenTags) (count left : ℕ) (tag : OpenTag) (tags : List OpenTag) (names : List ℕ) → Closed t left count tag → tags ≡ take left t.tags.items → names ≡ take tag.start t.names.items → are_nested (reverse tags) names ≡ true
closed-nested t count left tag tags names h e f =
    ap (λ (all : List OpenTag). are_nested (reverse all) names) e
    ∙ ap (are_nested (reverse (take left t.tags.items))) f
    ∙ h.nested

pub closed-none : (t : OpenTags) (count left : ℕ) → left ≡ vec_len t.tags - count → vec_len t.tags ≤ left → open_names t ≡ drop count (open_names t)
closed-none t count left e le =
    let all = open-length t in
    let none : min count (length (open_names t)) ≡ 0 = omega arith in
    sym (sym (drop_min count (open_names t)) ∙ ap (λ n. drop n (open_names t)) none)

pub closed-names : (t u : OpenTags) (count left : ℕ) (tag : OpenTag) → Closed t left count tag → u.tags.items ≡ take left t.tags.items → u.names.items ≡ take tag.start t.names.items → open_names u ≡ drop count (open_names t)
unfolding open_names
closed-names t u count left tag h e f =
    ap (λ (tags : List OpenTag). names_in (reverse tags) u.names.items) e
    ∙ ap (names_in (reverse (take left t.tags.items))) f
    ∙ h.names

-- a tag is opened, or there is no memory for it

pub none-open : (t : OpenTags) → t.tags.items ≡ [] → open_names t ≡ []
unfolding open_names
none-open t e = ap (λ (tags : List OpenTag). names_in (reverse tags) t.names.items) e

pub same-open : (t u : OpenTags) → u.tags.items ≡ t.tags.items → u.names.items ≡ t.names.items → open_names u ≡ open_names t
unfolding open_names
same-open t u e f =
    ap (λ (tags : List OpenTag). names_in (reverse tags) u.names.items) e ∙ ap (names_in (inner_first t)) f

pub push-open : (t u : OpenTags) (tag : OpenTag) (name : List ℕ) → tag.start ≡ length t.names.items → u.tags.items ≡ t.tags.items ++ tag ∷ [] → u.names.items ≡ t.names.items ++ name → open_names u ≡ name ∷ open_names t
unfolding open_names
push-open t u tag name at e f =
    ap (λ (tags : List OpenTag). names_in (reverse tags) u.names.items) e
    ∙ ap (λ (tags : List OpenTag). names_in tags u.names.items) (reverse-append t.tags.items (tag ∷ []))
    ∙ ap (names_in (tag ∷ inner_first t)) f
    ∙ pushed-names tag (inner_first t) t.names.items name at

-- a place among those that are left

pub place-within : (names : Names) (closed depth : ℕ) → depth < length (drop closed names) → closed + depth < length names
place-within names closed depth lt = omega (arith, length-drop closed names)

pub place-fits : (t : OpenTags) (closed depth : ℕ) → depth < length (drop closed (open_names t)) → closed + depth < 18446744073709551616
place-fits t closed depth lt =
    let all = open-length t in
    let within = place-within (open_names t) closed depth lt in
    omega (arith, t.tags.ok.1, t.tags.small)

pub at_err : {T E P : Type 0} (r : Result T E) → P → OnErr r P
at_err (Ok x) h = tt
at_err (Err e) h = h

pub left-small : (t : OpenTags) (closed : ℕ) → length (drop closed (open_names t)) < 9223372036854775808
left-small t closed =
    let all = open-length t in
    omega (arith, length-drop closed (open_names t), t.tags.ok.1, t.tags.small)

pub more-left : (t : OpenTags) (closed count all : ℕ) → all ≡ min (closed + count) 18446744073709551615 → drop all (open_names t) ≡ drop count (drop closed (open_names t))
more-left t closed count all e =
    let few : length (open_names t) < 9223372036854775808 = left-small t 0 in
    elim (cases_lt (closed + count) 18446744073709551615) [
      | inl lt ↦ (
          let same : all ≡ closed + count = omega arith in
          ap (λ n. drop n (open_names t)) same ∙ sym (drop-drop count closed (open_names t)))
      | inr le ↦ (
          let past : length (open_names t) ≤ all = omega arith in
          let far : length (open_names t) ≤ closed + count = omega arith in
          drop_all all (open_names t) past ∙ sym (drop-drop count closed (open_names t) ∙ drop_all (closed + count) (open_names t) far))
    ]
