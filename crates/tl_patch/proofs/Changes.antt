-- Tags with one attribute more, or with another name.
use Rattle.std.proofs.Common.{◌≡◌, ℕ, ◌+◌, ◌<◌, Bool, true, false, List, [], ◌∷◌, ◌++◌, length, take, drop, get_or, codes, refl, ap, ap₂, sym, subst, ◌∙◌, append_assoc}
use Rattle.std.proofs.lemmas.List.{drop_more, take-append-drop}
use Rattle.tl_html_spec.specs.HtmlTokenizer.{HtmlAttribute, HtmlToken, OpenTag, data_state, tag_name}
use Rattle.tl_html_spec.specs.Reader.{Reader, after, at, emitted}
use Rattle.tl_html_spec.proofs.Fold.{emitted_append}
use Rattle.tl_patch_spec.specs.Markup.{attribute_markup, is_key, is_name, is_without_nul, value_markup}
use Rattle.tl_patch_spec.specs.TagChanges.{FirstGoesOnAs, FirstLacks, Rename, Set, changed_first}
use Rattle.tl_patch_spec.proofs.Added.{added_reads}
use Rattle.tl_patch_spec.proofs.Renamed.{renamed_reads}
use Rattle.tl_patch_spec.proofs.Writing.{Reads}
use Rattle.tl_patch.specs.Places.{IsAdded, IsRenamed}
use Rattle.tl_patch_spec.specs.TagNames.{IsNameEnd, tag_opening}
use Rattle.tl_patch.proofs.Names.{end_name_reads, named, start_name_reads}

-- what is read after a name is read from its state
after_name : (s : Reader) (front y : List ℕ) (tag : OpenTag) → after s front ≡ at (tag_name tag) → emitted s front ≡ [] →
    emitted s (front ++ y) ≡ emitted (at (tag_name tag)) y
after_name s front y tag a silent = emitted_append s front y ∙ ap₂ (λ (ts : List HtmlToken) (r : Reader). ts ++ emitted r y) silent a

-- a tag is its name, the byte that ends it, and the rest
parted : (tag more : List ℕ) (n : ℕ) → n < length tag → tag ++ more ≡ take n tag ++ (get_or tag n 0 ∷ (drop (n + 1) tag ++ more))
parted tag more n l =
    ap (λ xs. xs ++ more) (sym (take-append-drop n tag) ∙ ap (λ xs. take n tag ++ xs) (drop_more tag n 0 l))
    ∙ append_assoc (take n tag) (get_or tag n 0 ∷ drop (n + 1) tag) more

old_reads : (is_end : Bool) (tag more : List ℕ) (n : ℕ) (p : IsNameEnd is_end n tag) →
    emitted (at data_state) (tag ++ more) ≡ emitted (at (tag_name (p.in_name).0)) (get_or tag n 0 ∷ (drop (n + 1) tag ++ more))
old_reads is_end tag more n p =
    ap (emitted (at data_state)) (parted tag more n p.within)
    ∙ after_name (at data_state) (take n tag) (get_or tag n 0 ∷ (drop (n + 1) tag ++ more)) (p.in_name).0 (p.in_name).1 (p.in_name).2

new_parted : (front put tag more : List ℕ) (n : ℕ) → n < length tag →
    (front ++ (put ++ drop n tag)) ++ more ≡ front ++ (put ++ (get_or tag n 0 ∷ (drop (n + 1) tag ++ more)))
new_parted front put tag more n l =
    append_assoc front (put ++ drop n tag) more
    ∙ ap (λ xs. front ++ xs) (append_assoc put (drop n tag) more ∙ ap (λ xs. put ++ (xs ++ more)) (drop_more tag n 0 l))

added : (tag key value : List ℕ) (n : ℕ) → IsNameEnd false n tag → is_key key ≡ true → is_without_nul value ≡ true →
    IsAdded tag (take n tag ++ (attribute_markup key value ++ drop n tag)) key value
added tag key value n p k v = record {
  place = n;
  name = p;
  bytes = refl;
  tokens = λ more lacks.
      let b : ℕ = get_or tag n 0 in
      let rest : List ℕ = drop (n + 1) tag ++ more in
      let t : OpenTag = (p.in_name).0 in
      let was = old_reads false tag more n p in
      ap (emitted (at data_state)) (new_parted (take n tag) (attribute_markup key value) tag more n p.within)
      ∙ after_name (at data_state) (take n tag) (attribute_markup key value ++ b ∷ rest) t (p.in_name).1 (p.in_name).2
      ∙ added_reads t key value b rest (p.in_name).3 k v p.ends (subst (FirstLacks key) was lacks)
      ∙ ap (changed_first (Set key value)) (sym was);
}

pub attribute_is : (out key value : List ℕ) →
    ((((out ++ 32 ∷ []) ++ key) ++ 61 ∷ 34 ∷ []) ++ value_markup value) ++ 34 ∷ [] ≡ out ++ attribute_markup key value
attribute_is out key value = simp append_assoc

pub added_is : (tag key value new : List ℕ) (n : ℕ) → IsNameEnd false n tag → is_key key ≡ true → is_without_nul value ≡ true →
    new ≡ (take n tag ++ attribute_markup key value) ++ drop n tag → IsAdded tag new key value
added_is tag key value new n p k v e =
    subst (λ items. IsAdded tag items key value) (sym (e ∙ append_assoc (take n tag) (attribute_markup key value) (drop n tag))) (added tag key value n p k v)

-- the tag that a name begins, with another name
same_tag : (is_end : Bool) (name : List ℕ) (t : OpenTag) → t.attributes ≡ [] → t.is_end ≡ is_end → named is_end name ≡ record t { name = name }
same_tag is_end name t a e = sym (ap₂ (λ (w : Bool) (xs : List HtmlAttribute). tag_of w name xs) e a)
  where
    tag_of : Bool → List ℕ → List HtmlAttribute → OpenTag
    tag_of w n xs = record { is_end = w; name = n; attributes = xs }

renamed : (is_end : Bool) (tag name : List ℕ) (n : ℕ) → IsNameEnd is_end n tag → Reads data_state (tag_opening is_end ++ name) [] (tag_name (named is_end name)) →
    IsRenamed is_end tag (tag_opening is_end ++ (name ++ drop n tag)) name
renamed is_end tag name n p r = record {
  place = n;
  name_end = p;
  bytes = refl;
  tokens = λ more follows.
      let opening : List ℕ = tag_opening is_end in
      let b : ℕ = get_or tag n 0 in
      let rest : List ℕ = drop (n + 1) tag ++ more in
      let t : OpenTag = (p.in_name).0 in
      let was = old_reads is_end tag more n p in
      ap (emitted (at data_state)) (new_parted opening name tag more n p.within ∙ sym (append_assoc opening name (b ∷ rest)))
      ∙ after_name (at data_state) (opening ++ name) (b ∷ rest) (named is_end name) r.state_is r.tokens_are
      ∙ ap (λ (u : OpenTag). emitted (at (tag_name u)) (b ∷ rest)) (same_tag is_end name t (p.in_name).3 (p.in_name).4)
      ∙ renamed_reads t name b rest p.ends (subst (FirstGoesOnAs name) was follows)
      ∙ ap (changed_first (Rename name)) (sym was);
}

pub start_renamed : (tag name new : List ℕ) (n : ℕ) → IsNameEnd false n tag → is_name name ≡ true → new ≡ (codes "<" ++ name) ++ drop n tag →
    IsRenamed false tag new name
start_renamed tag name new n p k e =
    subst (λ items. IsRenamed false tag items name) (sym (e ∙ append_assoc (codes "<") name (drop n tag))) (renamed false tag name n p (start_name_reads name k))

pub end_renamed : (tag name new : List ℕ) (n : ℕ) → IsNameEnd true n tag → is_name name ≡ true → new ≡ (codes "</" ++ name) ++ drop n tag →
    IsRenamed true tag new name
end_renamed tag name new n p k e =
    subst (λ items. IsRenamed true tag items name) (sym (e ∙ append_assoc (codes "</") name (drop n tag))) (renamed true tag name n p (end_name_reads name k))
