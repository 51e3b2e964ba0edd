-- A start tag without a key.
use Rattle.std.proofs.Common.{◌≡◌, ℕ, ◌-◌, ◌+◌, ◌==◌, ◌||◌, Bool, true, false, List, [], ◌∷◌, ◌++◌, length, take, drop, get_or, map, refl, ap, ap₂, sym, subst, ◌∙◌, inl, inr, append_assoc, arith, true≢false, if◌then◌else◌}
use Rattle.std.specs.Prelude.{◌⊎◌}
use Rattle.std.specs.List.{All}
use Rattle.std.proofs.Math.Seq.{take-add}
use Rattle.std.proofs.lemmas.Bool.{cases_Bool, eqb-true, or_cases}
use Rattle.std.proofs.lemmas.List.{drop-drop, drop_more, take-append-drop}
use Rattle.std.proofs.lemmas.List.Elements.{All-cons, All-head, All-tail}
use Rattle.tl_html_spec.specs.HtmlTokenizer.{HtmlAttribute, HtmlToken, OpenTag, StartTag, ends_name, is_white_space}
use Rattle.tl_html_spec.specs.Reader.{feed}
use Rattle.tl_html_parts.specs.Bytes.{is_space}
use Rattle.tl_html_tokens.specs.Whole.{IsWhole}
use Rattle.tl_html_tokens.specs.declared.mode.Mode.TheVariants as mode
use Rattle.tl_patch_spec.specs.TagNames.{IsNameEnd}
use Rattle.tl_patch_spec.specs.Splices.{Splice, are_ordered, with_splices, with_splices_from}
use Rattle.tl_patch_spec.specs.TagChanges.{Unset, changed_token, without_key}
use Rattle.tl_patch_spec.proofs.Inside.{after_value, inner_text, with_all}
use Rattle.tl_patch_spec.proofs.Sets.{with_list}
use Rattle.tl_patch_spec.proofs.Unset.{dropped}
use Rattle.tl_patch.specs.Inner.Cuts.{Cutting, cuts_of, free_after, is_free, opens, over}
use Rattle.tl_patch.specs.AttributePlaces.{places_of}
use Rattle.tl_patch.specs.StartTags.{IsChanged, IsCut, IsStartTagAlone}
use Rattle.tl_patch.specs.Taken.{shifted}
use Rattle.tl_patch.proofs.Attributes.{found}
use Rattle.tl_patch.proofs.KeyChanges.{whole_same}
use Rattle.tl_patch.proofs.Keys.{others_of, unset_all}
use Rattle.tl_patch.proofs.Revalued.{started}
use Rattle.tl_patch.proofs.Starts.{Ends, start_of, whole_rest}
use Rattle.tl_patch.proofs.Taken.{all_taken, keys_taken}
use Rattle.tl_patch.proofs.Unset.{Left, left, ordered}

-- the same splices of a list with something before it

moved_on : (n at : ℕ) (items : List ℕ) (ss : List (Splice ℕ)) → with_splices_from (n + at) items (map (shifted n) ss) ≡ with_splices_from at items ss
moved_on n at items [] = refl
moved_on n at items (s ∷ ss) =
    let f : (n + s.from) - (n + at) ≡ s.from - at = omega arith in
    let u : (n + s.until) - (n + at) ≡ s.until - at = omega arith in
    ap₂ (λ j k. take j items ++ (s.put ++ with_splices_from (n + s.until) (drop k items) (map (shifted n) ss))) f u
    ∙ ap (λ ys. take (s.from - at) items ++ (s.put ++ ys)) (moved_on n s.until (drop (s.until - at) items) ss)

pub spliced_after : (n : ℕ) (tag : List ℕ) (ss : List (Splice ℕ)) → take n tag ++ with_splices (drop n tag) ss ≡ with_splices tag (map (shifted n) ss)
spliced_after n tag [] = take-append-drop n tag
spliced_after n tag (s ∷ ss) =
    let f : (n + s.from) - 0 ≡ n + s.from = omega arith in
    let u : (n + s.until) - 0 ≡ n + s.until = omega arith in
    let g : s.from - 0 ≡ s.from = omega arith in
    let v : s.until - 0 ≡ s.until = omega arith in
    ap₂ (λ j k. take n tag ++ (take j (drop n tag) ++ (s.put ++ with_splices_from s.until (drop k (drop n tag)) ss))) g v
    ∙ sym (append_assoc (take n tag) (take s.from (drop n tag)) (s.put ++ with_splices_from s.until (drop s.until (drop n tag)) ss))
    ∙ ap₂ (λ (xs ys : List ℕ). xs ++ (s.put ++ with_splices_from s.until ys ss)) (sym (take-add n s.from tag)) (drop-drop s.until n tag)
    ∙ ap (λ ys. take (n + s.from) tag ++ (s.put ++ ys)) (sym (moved_on n s.until (drop (n + s.until) tag) ss))
    ∙ sym (ap₂ (λ j k. take j tag ++ (s.put ++ with_splices_from (n + s.until) (drop k tag) (map (shifted n) ss))) f u)

all_shifted : (n : ℕ) (ss : List (Splice ℕ)) → All IsCut ss → All IsCut (map (shifted n) ss)
all_shifted n [] h = λ k d l. absurd (omega arith)
all_shifted n (s ∷ ss) h = All-cons IsCut (shifted n s) (map (shifted n) ss) (All-head IsCut s ss h) (all_shifted n ss (All-tail IsCut s ss h))

-- a name ends as before

name_ends : (b c : ℕ) (x y : List ℕ) → ends_name (feed b) ≡ true → (opens (b ∷ x) ≡ true → opens (c ∷ y) ≡ true) → (is_free (b ∷ x) ≡ true → is_free (c ∷ y) ≡ true) → (over (b ∷ x) ≡ true → over (c ∷ y) ≡ true) →
    ends_name (feed c) ≡ true
name_ends b c x y e o f z = elim (cases_Bool (is_space b)) [
  | inl s ↦ by_open (or_cases (is_space c) (c == 62) (o (ap (λ (v : Bool). v || (b == 62)) s)))
  | inr n ↦ elim (cases_Bool (b == 62)) [
    | inl g ↦ ends_with 62 refl (z g)
    | inr m ↦ elim (cases_Bool (b == 47)) [
      | inl l ↦ by_free (is_space c) refl (f (ap (λ (v : Bool). if v then free_after x else (b == 47) || (b == 62)) n ∙ ap (λ (v : Bool). v || (b == 62)) l))
      | inr k ↦ absurd (true≢false (sym e ∙ never b n m k))
    ]
  ]
]
  where
    ends_with : (d : ℕ) → ends_name (feed d) ≡ true → (c == d) ≡ true → ends_name (feed c) ≡ true
    ends_with d h q = subst (λ v. ends_name (feed v) ≡ true) (sym (eqb-true c d q)) h

    space_ends : is_space c ≡ true → ends_name (feed c) ≡ true
    space_ends h = ap (λ (v : Bool). v || (feed c == 47) || (feed c == 62)) h

    by_open : (is_space c ≡ true) ⊎ ((c == 62) ≡ true) → ends_name (feed c) ≡ true
    by_open (inl h) = space_ends h
    by_open (inr h) = ends_with 62 refl h

    by_slash : ((c == 47) ≡ true) ⊎ ((c == 62) ≡ true) → ends_name (feed c) ≡ true
    by_slash (inl h) = ends_with 47 refl h
    by_slash (inr h) = ends_with 62 refl h

    by_free : (v : Bool) → is_space c ≡ v → is_free (c ∷ y) ≡ true → ends_name (feed c) ≡ true
    by_free true h q = space_ends h
    by_free false h q = by_slash (or_cases (c == 47) (c == 62) (sym (ap (λ (v : Bool). if v then free_after y else (c == 47) || (c == 62)) h) ∙ q))

    never : (d : ℕ) → is_space d ≡ false → (d == 62) ≡ false → (d == 47) ≡ false → ends_name (feed d) ≡ false
    never d h i j = elim (cases_Bool (d == 13)) [
      | inl q ↦ absurd (true≢false (ap is_space (sym (eqb-true d 13 q)) ∙ h))
      | inr q ↦ (
          let same : feed d ≡ d = ap (λ (v : Bool). if v then 10 else d) q in
          ap ends_name same ∙ ap (λ (v : Bool). v || (d == 47) || (d == 62)) (ap is_white_space (sym same) ∙ h)
          ∙ ap₂ (λ (v w : Bool). v || w) j i)
    ]

pub record IsUnset (tag : List ℕ) (n : ℕ) (key : List ℕ) : Type 0 where
  pub ordered : are_ordered 0 (length (drop n tag)) (cuts_of (drop n tag) key 0 (places_of (drop n tag))).splices ≡ true
  pub changed : (new : List ℕ) → new ≡ take n tag ++ with_splices (drop n tag) (cuts_of (drop n tag) key 0 (places_of (drop n tag))).splices → IsChanged (Unset key) tag new

module _ (tag : List ℕ) (n : ℕ) (p : IsNameEnd false n tag) (a : IsStartTagAlone tag) where
  abbrev rest : List ℕ
  rest = drop n tag

  abbrev opened : OpenTag
  opened = (p.in_name).0

  left_of : (e : Ends rest opened a.tokens) (key : List ℕ) → Left opened rest e.closes e.returned e.more key 0 (cuts_of rest key 0 (places_of rest)) (others_of key e.more)
  left_of e key =
      let f = found opened rest e.closes e.returned e.more e.outcome in
      left opened rest e.closes e.returned e.more key (places_of rest) 0 [] e.more f.0 e.outcome f.1

  unset_token : (key : List ℕ) (more : List HtmlAttribute) (closes : Bool) → start_of opened (others_of key more) closes ≡ changed_token (Unset key) (start_of opened more closes)
  unset_token key more closes =
      let none : opened.attributes ≡ [] = (p.in_name).3 in
      let same : dropped key opened ≡ opened = ap (with_list opened) (ap (without_key key) none ∙ sym none) in
      ap (λ (u : OpenTag). StartTag opened.name u.attributes closes)
      (ap (λ (u : OpenTag). with_all u (others_of key more)) (sym same) ∙ unset_all key opened more)

  unset_whole : (e : Ends rest opened a.tokens) (key : List ℕ) → IsWhole mode.Data (take n tag ++ with_splices rest (cuts_of rest key 0 (places_of rest)).splices) (map (changed_token (Unset key)) a.tokens)
  unset_whole e key =
      let h = left_of e key in
      let i = h.instead in
      let c : Cutting = cuts_of rest key 0 (places_of rest) in
      let first : ℕ = (c.follow).first in
      let b : ℕ = get_or tag n 0 in
      let back : rest ≡ b ∷ drop (n + 1) tag = drop_more tag n 0 p.within in
      let ends : ends_name (feed first) ≡ true =
      name_ends b first (drop (n + 1) tag) h.later p.ends
      (λ o. sym (ap opens h.head) ∙ i.space (ap opens back ∙ o)) (λ o. sym (ap is_free h.head) ∙ i.alone (ap is_free back ∙ o)) (λ o. sym (ap over h.head) ∙ i.end (ap over back ∙ o)) in
      let whole = whole_rest (take n tag) h.later first opened e.closes e.returned (others_of key e.more) (started tag n p a).named ends (p.in_name).4
      (sym (ap (inner_text after_value false) h.head) ∙ i.read) in
      subst (λ ts. IsWhole mode.Data (take n tag ++ with_splices rest c.splices) (map (changed_token (Unset key)) ts)) (sym e.is)
      (subst (λ xs. IsWhole mode.Data (take n tag ++ xs) (changed_token (Unset key) (start_of opened e.more e.closes) ∷ [])) (sym h.head)
      (subst (λ (y : HtmlToken). IsWhole mode.Data (take n tag ++ (first ∷ h.later)) (y ∷ [])) (unset_token key e.more e.closes) whole))

  pub is_unset : (key : List ℕ) → IsUnset tag n key
  is_unset key =
      let e : Ends rest opened a.tokens = (started tag n p a).ends in
      let h = left_of e key in
      let c : Cutting = cuts_of rest key 0 (places_of rest) in
      record {
        ordered = ordered opened rest e.closes e.returned e.more key 0 c.splices h.sorted;
        changed = λ new is. record {
          splices = map (shifted n) c.splices;
          bytes = is ∙ spliced_after n tag c.splices;
          put = all_shifted n c.splices h.put;
          taken = keys_taken tag key n p c.splices
              (all_taken opened rest e.closes e.returned e.more key (places_of rest) 0 [] (found opened rest e.closes e.returned e.more e.outcome).0);
          tokens = λ tokens w i.
              let same : a.tokens ≡ tokens = whole_same mode.Data tag a.tokens tokens a.whole w in
              subst (λ xs. IsWhole mode.Data xs (map (changed_token (Unset key)) tokens)) (sym is)
              (subst (λ ts. IsWhole mode.Data (take n tag ++ with_splices rest c.splices) (map (changed_token (Unset key)) ts)) same (unset_whole e key));
        };
      }
