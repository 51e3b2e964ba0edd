-- A tag with a key that it lacks.
use Rattle.std.proofs.Common.{◌≡◌, ℕ, ◌-◌, Bool, true, false, List, [], ◌∷◌, ◌++◌, take, drop, map, refl, ap, ap₂, sym, subst, ◌∙◌, inr, arith}
use Rattle.std.specs.List.{list_any}
use Rattle.tl_html_spec.specs.HtmlTokenizer.{HtmlAttribute, HtmlToken, OpenTag, StartTag, with_attribute}
use Rattle.tl_html_tokens.specs.Kinds.{IsStartTag}
use Rattle.tl_html_tokens.specs.Whole.{IsWhole}
use Rattle.tl_html_tokens.specs.declared.mode.Mode.TheVariants as mode
use Rattle.tl_patch.specs.Places.{IsAdded}
use Rattle.tl_patch_spec.specs.TagNames.{IsNameEnd}
use Rattle.tl_patch_spec.specs.Markup.{attribute_markup, is_key, is_without_nul, quoted_value}
use Rattle.tl_patch_spec.specs.Splices.{Splice, with_splices}
use Rattle.tl_patch_spec.specs.TagChanges.{Set, changed_token, has_key}
use Rattle.tl_patch_spec.proofs.Added.{attribute_reads, front_all, fronted, fronted_first, with_key_first}
use Rattle.tl_patch_spec.proofs.Inside.{after_value, with_all}
use Rattle.tl_patch_spec.proofs.Sets.{kind_kept, name_kept}
use Rattle.tl_patch.specs.AttributePlaces.{is_named, places_of}
use Rattle.tl_patch.specs.StartTags.{IsChanged, IsPut, IsStartTagAlone, is_start_tag}
use Rattle.tl_patch.proofs.Begins.{start_alone}
use Rattle.tl_patch.proofs.KeyChanges.{whole_same}
use Rattle.tl_patch.proofs.Keys.{all_lack}
use Rattle.tl_patch.proofs.Puts.{one_put}
use Rattle.tl_patch.proofs.Revalued.{lacks_key, started}
use Rattle.tl_patch.proofs.Starts.{Ends, IsStart, start_is, start_of, whole_start}

abbrev splice_at : ℕ → List ℕ → Splice ℕ
splice_at n put = record { from = n; until = n; put = put }

spliced_is : (n : ℕ) (put tag : List ℕ) → with_splices tag (splice_at n put ∷ []) ≡ take n tag ++ (put ++ drop n tag)
spliced_is n put tag = let same : n - 0 ≡ n = omega arith in ap (λ m. take m tag ++ (put ++ drop m tag)) same

-- the token of a tag that lacks the key, with the key in front
front_token : (t : OpenTag) (key value : List ℕ) (more : List HtmlAttribute) (closes : Bool) → t.attributes ≡ [] → list_any (has_key key) (with_all t more).attributes ≡ false →
    start_of (with_attribute t key value) more closes ≡ changed_token (Set key value) (start_of t more closes)
front_token t key value more closes none lacks =
    let u : OpenTag = with_all t more in
    let front : with_all (with_attribute t key value) more ≡ fronted (key, value) u =
    ap (λ (x : OpenTag). with_all x more) (fronted_first t key value none) ∙ front_all (key, value) t more lacks in
    ap₂ (λ n (x : OpenTag). StartTag n x.attributes closes) (name_kept t ((key, value) ∷ [])) front
    ∙ ap (λ xs. StartTag t.name xs closes) (sym (with_key_first key value u.attributes lacks))

abbrev attributes_in : HtmlToken → List HtmlAttribute
attributes_in (StartTag name attributes closes) = attributes
attributes_in token = []

first_attributes : List HtmlToken → List HtmlAttribute
first_attributes [] = []
first_attributes (t ∷ ts) = attributes_in t

module _ (tag key value : List ℕ) (n : ℕ) (p : IsNameEnd false n tag) (k : is_key key ≡ true) (v : is_without_nul value ≡ true) where
  added_whole : (tokens : List HtmlToken) → IsWhole mode.Data tag tokens → IsStartTag tokens → list_any (has_key key) (first_attributes tokens) ≡ false →
      IsWhole mode.Data (take n tag ++ (attribute_markup key value ++ drop n tag)) (map (changed_token (Set key value)) tokens)
  unfolding first_attributes
  added_whole tokens w s lacks =
      let t : OpenTag = (p.in_name).0 in
      let u : OpenTag = with_attribute t key value in
      let is : IsStart tag n t tokens = start_is tag tokens n p w s in
      let e : Ends (drop n tag) t tokens = is.ends in
      let r = attribute_reads t key value k v in
      let new = whole_start (take n tag) (key ++ (61 ∷ quoted_value value)) (drop n tag) 32 t u after_value false e.closes e.returned e.more is.named refl
      r.tokens_are r.state_is (kind_kept t ((key, value) ∷ []) ∙ (p.in_name).4) e.outcome in
      let none : list_any (has_key key) (with_all t e.more).attributes ≡ false = subst (λ ts. list_any (has_key key) (first_attributes ts) ≡ false) e.is lacks in
      subst (λ ts. IsWhole mode.Data (take n tag ++ (attribute_markup key value ++ drop n tag)) (map (changed_token (Set key value)) ts)) (sym e.is)
      (subst (λ (x : HtmlToken). IsWhole mode.Data (take n tag ++ (attribute_markup key value ++ drop n tag)) (x ∷ [])) (front_token t key value e.more e.closes (p.in_name).3 none) new)

pub fresh : (tag new key value : List ℕ) (n : ℕ) → is_start_tag tag ≡ true → IsNameEnd false n tag → list_any (is_named (drop n tag) key) (places_of (drop n tag)) ≡ false →
    is_key key ≡ true → is_without_nul value ≡ true → IsAdded tag new key value → IsChanged (Set key value) tag new
unfolding first_attributes
fresh tag new key value n o p h k v a =
    let was : IsStartTagAlone tag = start_alone tag o in
    let e = (started tag n p was).ends in
    let t : OpenTag = (p.in_name).0 in
    let lacks : list_any (has_key key) (with_all t e.more).attributes ≡ false =
    all_lack key t e.more (ap (list_any (has_key key)) (p.in_name).3) (lacks_key tag n p was key h) in
    let s : Splice ℕ = splice_at a.place (attribute_markup key value) in
    record {
      splices = s ∷ [];
      bytes = a.bytes ∙ sym (spliced_is a.place (attribute_markup key value) tag);
      put = one_put (IsPut (Set key value)) s (inr refl);
      taken = (s, refl, inr (record { start = n; name = p; absent = h; behind = a.name; nothing = refl }));
      tokens = λ tokens w i.
          let same : start_of t e.more e.closes ∷ [] ≡ tokens = sym e.is ∙ whole_same mode.Data tag was.tokens tokens was.whole w in
          let none : list_any (has_key key) (first_attributes tokens) ≡ false = subst (λ ts. list_any (has_key key) (first_attributes ts) ≡ false) same lacks in
          subst (λ xs. IsWhole mode.Data xs (map (changed_token (Set key value)) tokens)) (sym a.bytes)
          (added_whole tag key value a.place a.name k v tokens w i none);
    }
