-- A tag with another value at a key that it has, by the place of its first attribute with that key.
use Rattle.std.proofs.Common.{◌≡◌, ◌≤◌, ℕ, zero, suc, ◌-◌, ◌+◌, Bool, true, false, ◌||◌, List, [], ◌∷◌, ◌++◌, length, take, drop, get_or, map, refl, ap, ap₂, sym, subst, ◌∙◌, inl, inr, append_assoc, append-nil, arith}
use Rattle.std.specs.List.{list_any}
use Rattle.std.specs.Str.{bytes_eq}
use Rattle.std.proofs.Math.Seq.{take-add}
use Rattle.std.proofs.lemmas.List.{drop-drop, drop_more}
use Rattle.std.proofs.lemmas.Slice.Eq.{bytes_eq-Decides}
use Rattle.tl_html_spec.specs.HtmlTokenizer.{HtmlAttribute, HtmlToken, OpenTag, StartTag, State, after_attribute_value, attribute_name, before_attribute_value, ends_name, with_attribute}
use Rattle.tl_html_spec.specs.Reader.{Reader, after, at, emitted, feed, read}
use Rattle.tl_html_spec.proofs.Fold.{after_append, emitted_append}
use Rattle.tl_html_tokens.specs.Whole.{IsWhole}
use Rattle.tl_html_tokens.specs.declared.mode.Mode.TheVariants as mode
use Rattle.tl_patch_spec.specs.TagNames.{IsNameEnd}
use Rattle.tl_patch_spec.specs.Markup.{is_without_nul, quoted_value}
use Rattle.tl_patch_spec.specs.Splices.{Splice, with_splices}
use Rattle.tl_patch_spec.specs.TagChanges.{Set, changed_token, has_key}
use Rattle.tl_patch_spec.proofs.Inside.{Inside, after_value, ended, inner_text, with_all}
use Rattle.tl_patch_spec.proofs.Sets.{kind_kept, name_kept, revalued, with_key_is}
use Rattle.tl_patch_spec.proofs.Tags.{all_append, in_tag}
use Rattle.tl_patch_spec.proofs.Writing.{Reads, quoted_value_reads, then_reads}
use Rattle.tl_patch.specs.AttributePlaces.{IsFirstNamed, is_named, key_at, places_of, value_put}
use Rattle.tl_patch.specs.StartTags.{IsChanged, IsPut, IsStartTagAlone, IsValuePut}
use Rattle.tl_patch.specs.declared.stage.Place.{Place}
use Rattle.tl_patch.proofs.Attributes.{AreAttributes, IsAttribute, PutAt, Quiet, found, keys_of}
use Rattle.tl_patch.proofs.KeyChanges.{whole_same}
use Rattle.tl_patch.proofs.Ended.{reader_in}
use Rattle.tl_patch.proofs.Keys.{set_all, set_has}
use Rattle.tl_patch.proofs.Puts.{one_put}
use Rattle.tl_patch.proofs.Starts.{Ends, IsNamed, IsStart, named_after, named_emits, start_is, start_of, whole_start}

-- whether a key is among keys

any_keys : (key : List ℕ) (xs : List HtmlAttribute) → list_any (has_key key) xs ≡ list_any (λ k. bytes_eq k key) (keys_of xs)
any_keys key [] = refl
any_keys key (a ∷ xs) = ap (λ (c : Bool). bytes_eq a.0 key || c) (any_keys key xs)

any_places : (rest key : List ℕ) (ps : List Place) → list_any (is_named rest key) ps ≡ list_any (λ k. bytes_eq k key) (map (key_at rest) ps)
any_places rest key [] = refl
any_places rest key (p ∷ ps) = ap (λ (c : Bool). bytes_eq (key_at rest p) key || c) (any_places rest key ps)

pub same_keys : (rest key : List ℕ) (xs : List HtmlAttribute) (ps : List Place) → keys_of xs ≡ map (key_at rest) ps → list_any (has_key key) xs ≡ list_any (is_named rest key) ps
same_keys rest key xs ps e = any_keys key xs ∙ ap (list_any (λ k. bytes_eq k key)) e ∙ sym (any_places rest key ps)

-- what is put is read as the value

any_return : (s : State) (v : Bool) (y : List ℕ) → (emitted (reader_in s v) (34 ∷ y) ≡ emitted (at s) (34 ∷ y)) × (after (reader_in s v) (34 ∷ y) ≡ after (at s) (34 ∷ y))
unfolding read
any_return s true y = (refl, refl)
any_return s false y = (refl, refl)

equals_reads : (u : OpenTag) (key : List ℕ) → Reads (attribute_name u key) (61 ∷ []) [] (before_attribute_value u key)
unfolding read
equals_reads u key = record { tokens_are = refl; state_is = refl }

-- a whole tag, by what follows its name up to a place in it

whole_after : (front x y z : List ℕ) (b : ℕ) (t u : OpenTag) (i : Inside) (closes w : Bool) (back : List HtmlAttribute) → IsNamed front t → ends_name (feed b) ≡ true → x ≡ b ∷ z →
    emitted (in_tag after_value t false) x ≡ [] → after (in_tag after_value t false) x ≡ in_tag i u false → u.is_end ≡ false → inner_text i false y ≡ ended closes back w [] →
    IsWhole mode.Data (front ++ (x ++ y)) (start_of u back closes ∷ [])
whole_after front x y z b t u i closes w back n e s m a k o =
    subst (λ xs. IsWhole mode.Data (front ++ (xs ++ y)) (start_of u back closes ∷ [])) (sym s)
    (whole_start front z y b t u i false closes w back n e
    (named_emits t b z e ∙ subst (λ xs. emitted (in_tag after_value t false) xs ≡ []) s m)
    (named_after t b z e ∙ subst (λ xs. after (in_tag after_value t false) xs ≡ in_tag i u false) s a) k o)

pub spliced_at : (n from until : ℕ) (put tag : List ℕ) → take n tag ++ (take from (drop n tag) ++ (put ++ drop until (drop n tag)))
    ≡ with_splices tag (record { from = n + from; until = n + until; put = put } ∷ [])
spliced_at n from until put tag =
    let f : (n + from) - 0 ≡ n + from = omega arith in
    let u : (n + until) - 0 ≡ n + until = omega arith in
    sym (append_assoc (take n tag) (take from (drop n tag)) (put ++ drop until (drop n tag)))
    ∙ ap₂ (λ (xs ys : List ℕ). xs ++ (put ++ ys)) (sym (take-add n from tag)) (drop-drop until n tag)
    ∙ sym (ap₂ (λ k l. take k tag ++ (put ++ drop l tag)) f u)

value_is_put : (c : Bool) (value : List ℕ) → IsValuePut value (value_put c value)
value_is_put true value = inl refl
value_is_put false value = inr refl

module _ (t : OpenTag) (rest : List ℕ) (closes returned : Bool) (more : List HtmlAttribute) where
  lookup : (before : List Place) (last : ℕ) (done later : List Place) (place : Place) → AreAttributes t rest closes returned more last done (before ++ place ∷ later) →
      (n : ℕ) × IsAttribute t rest closes returned more n (done ++ before) place
  lookup [] last done later place h = (last, subst (λ xs. IsAttribute t rest closes returned more last xs place) (sym (append-nil done)) h.0)
  lookup (p ∷ before) last done later place h =
      let x = lookup before p.end (done ++ p ∷ []) later place h.1 in
      (x.0, subst (λ xs. IsAttribute t rest closes returned more x.0 xs place) (append_assoc done (p ∷ []) before) x.1)

  put_reads : (c : Bool) (p : Place) (front : List HtmlAttribute) (value : List ℕ) → is_without_nul value ≡ true → PutAt t rest closes returned more c p front →
      Quiet t rest closes returned more (take p.value rest ++ value_put c value) (in_tag after_value (with_attribute (with_all t front) (key_at rest p) value) false)
  put_reads true p front value h w =
      let u : OpenTag = with_all t front in
      let key : List ℕ = key_at rest p in
      let r = quoted_value_reads u key value h in
      let f = any_return (before_attribute_value u key) w.0 _ in (
        emitted_append (in_tag after_value t false) (take p.value rest) (quoted_value value)
            ∙ ap₂ (λ (ts : List HtmlToken) (q : Reader). ts ++ emitted q (quoted_value value)) w.1.0 w.1.1 ∙ f.0 ∙ r.tokens_are,
        after_append (in_tag after_value t false) (take p.value rest) (quoted_value value)
            ∙ ap (λ (q : Reader). after q (quoted_value value)) w.1.1 ∙ f.1 ∙ r.state_is,
      )
  put_reads false p front value h w =
      let u : OpenTag = with_all t front in
      let key : List ℕ = key_at rest p in
      let r = then_reads (attribute_name u key) (before_attribute_value u key) (after_attribute_value (with_attribute u key value)) (61 ∷ []) (quoted_value value) [] []
      (equals_reads u key) (quoted_value_reads u key value h) in (
        emitted_append (in_tag after_value t false) (take p.value rest) (61 ∷ quoted_value value)
            ∙ ap₂ (λ (ts : List HtmlToken) (q : Reader). ts ++ emitted q (61 ∷ quoted_value value)) w.0 w.1 ∙ r.tokens_are,
        after_append (in_tag after_value t false) (take p.value rest) (61 ∷ quoted_value value)
            ∙ ap (λ (q : Reader). after q (61 ∷ quoted_value value)) w.1 ∙ r.state_is,
      )

  -- something stands before a value
  some_before : (n : ℕ) (c : Bool) (p : Place) (front : List HtmlAttribute) → p.value ≡ n → PutAt t rest closes returned more c p front → (m : ℕ) × (p.value ≡ suc m)
  some_before (suc m) c p front e w = (m, e)
  some_before zero true p front e w = absurd (never _ _ (ap (λ (r : Reader). r.state) (ap (λ k. after (in_tag after_value t false) (take k rest)) (sym e) ∙ w.1.1)))
    where
      never : (k : List ℕ) (u : OpenTag) → after_attribute_value t ≡ before_attribute_value u k → ⊥
      never k u e = cc
  some_before zero false p front e w = absurd (never _ _ (ap (λ (r : Reader). r.state) (ap (λ k. after (in_tag after_value t false) (take k rest)) (sym e) ∙ w.1)))
    where
      never : (k : List ℕ) (u : OpenTag) → after_attribute_value t ≡ attribute_name u k → ⊥
      never k u e = cc

-- the token of a tag with another value there

set_token : (t : OpenTag) (key old value : List ℕ) (front back : List HtmlAttribute) (closes : Bool) → t.attributes ≡ [] → list_any (has_key key) front ≡ false →
    start_of (with_attribute (with_all t front) key value) back closes ≡ changed_token (Set key value) (start_of t (front ++ (key, old) ∷ back) closes)
set_token t key old value front back closes none lacks =
    let free : list_any (has_key key) t.attributes ≡ false = ap (list_any (has_key key)) none in
    let w : OpenTag = with_all t (front ++ (key, old) ∷ back) in
    let both : with_all (with_attribute (with_all t front) key value) back ≡ revalued key value w =
    all_append t front ((key, value) ∷ back) ∙ set_all key old value t front back free lacks in
    ap₂ (λ n (x : OpenTag). StartTag n x.attributes closes) (name_kept (with_all t front) ((key, value) ∷ []) ∙ name_kept t front) both
    ∙ ap (λ xs. StartTag t.name xs closes) (sym (with_key_is key value w.attributes (set_has key old t front back free lacks)))

pub record IsSet (tag : List ℕ) (n : ℕ) (key value : List ℕ) (place : Place) : Type 0 where
  pub order : place.value ≤ place.end
  pub inside : place.end ≤ length (drop n tag)
  pub changed : (new : List ℕ) → new ≡ take n tag ++ (take place.value (drop n tag) ++ (value_put place.has_equals value ++ drop place.end (drop n tag))) →
      IsChanged (Set key value) tag new

module _ (tag : List ℕ) (n : ℕ) (p : IsNameEnd false n tag) (a : IsStartTagAlone tag) where
  abbrev rest : List ℕ
  rest = drop n tag

  abbrev opened : OpenTag
  opened = (p.in_name).0

  pub started : IsStart tag n opened a.tokens
  started = start_is tag a.tokens n p a.whole a.start

  first_place : (e : Ends rest opened a.tokens) (key : List ℕ) (place : Place) (f : IsFirstNamed rest key (places_of rest) place) → (m : ℕ) × IsAttribute opened rest e.closes e.returned e.more m f.before place
  first_place e key place f =
      lookup opened rest e.closes e.returned e.more f.before 0 [] f.later place
      (subst (AreAttributes opened rest e.closes e.returned e.more 0 []) f.parts (found opened rest e.closes e.returned e.more e.outcome).0)

  set_whole : (e : Ends rest opened a.tokens) (key value : List ℕ) (place : Place) (f : IsFirstNamed rest key (places_of rest) place) → is_without_nul value ≡ true →
      IsWhole mode.Data (take n tag ++ (take place.value rest ++ (value_put place.has_equals value ++ drop place.end rest))) (map (changed_token (Set key value)) a.tokens)
  set_whole e key value place f h =
      let x = (first_place e key place f).1 in
      let t : OpenTag = opened in
      let named : key_at rest place ≡ key = (bytes_eq-Decides (key_at rest place) key).0 f.is in
      let lacks : list_any (has_key key) x.front ≡ false = same_keys rest key x.front f.before x.keys ∙ f.none_before in
      let u : OpenTag = with_attribute (with_all t x.front) (key_at rest place) value in
      let q = put_reads t rest e.closes e.returned e.more place.has_equals place x.front value h x.put in
      let m = some_before t rest e.closes e.returned e.more place.value place.has_equals place x.front refl x.put in
      let b : ℕ = get_or tag n 0 in
      let begins : take place.value rest ++ value_put place.has_equals value ≡ b ∷ (take m.0 (drop (n + 1) tag) ++ value_put place.has_equals value) =
      ap₂ (λ k (xs : List ℕ). take k xs ++ value_put place.has_equals value) m.1 (drop_more tag n 0 p.within) in
      let start : u.is_end ≡ false = kind_kept (with_all t x.front) ((key_at rest place, value) ∷ []) ∙ kind_kept t x.front ∙ (p.in_name).4 in
      let whole = whole_after (take n tag) (take place.value rest ++ value_put place.has_equals value) (drop place.end rest) _ b t u after_value e.closes e.returned x.back
      started.named p.ends begins q.0 q.1 start x.left in
      let token : start_of u x.back e.closes ≡ changed_token (Set key value) (start_of t e.more e.closes) =
      ap (λ k. start_of (with_attribute (with_all t x.front) k value) x.back e.closes) named
      ∙ set_token t key x.old value x.front x.back e.closes (p.in_name).3 lacks
      ∙ ap (λ k. changed_token (Set key value) (start_of t (x.front ++ (k, x.old) ∷ x.back) e.closes)) (sym named)
      ∙ ap (λ xs. changed_token (Set key value) (start_of t xs e.closes)) (sym x.all) in
      subst (λ xs. IsWhole mode.Data (take n tag ++ xs) (map (changed_token (Set key value)) a.tokens))
      (append_assoc (take place.value rest) (value_put place.has_equals value) (drop place.end rest))
      (subst (λ ts. IsWhole mode.Data (take n tag ++ ((take place.value rest ++ value_put place.has_equals value) ++ drop place.end rest)) (map (changed_token (Set key value)) ts)) (sym e.is)
      (subst (λ (y : HtmlToken). IsWhole mode.Data (take n tag ++ ((take place.value rest ++ value_put place.has_equals value) ++ drop place.end rest)) (y ∷ [])) token whole))

  pub is_set : (key value : List ℕ) (place : Place) → IsFirstNamed rest key (places_of rest) place → is_without_nul value ≡ true → IsSet tag n key value place
  is_set key value place f h =
      let e : Ends rest opened a.tokens = started.ends in
      let x = (first_place e key place f).1 in
      let put : List ℕ = value_put place.has_equals value in
      let s : Splice ℕ = record { from = n + place.value; until = n + place.end; put = put } in
      record {
        order = x.order;
        inside = x.inside;
        changed = λ new is. record {
          splices = s ∷ [];
          bytes = is ∙ spliced_at n place.value place.end put tag;
          put = one_put (IsPut (Set key value)) s (inl (value_is_put place.has_equals value));
          taken = (s, refl, inl (record { start = n; place = place; name = p; first = f; from = refl; until = refl }));
          tokens = λ tokens w i.
              let same : a.tokens ≡ tokens = whole_same mode.Data tag a.tokens tokens a.whole w in
              subst (λ xs. IsWhole mode.Data xs (map (changed_token (Set key value)) tokens)) (sym is)
              (subst (λ ts. IsWhole mode.Data (take n tag ++ (take place.value rest ++ (put ++ drop place.end rest))) (map (changed_token (Set key value)) ts)) same (set_whole e key value place f h));
        };
      }

  -- where no attribute has the key, the token lacks it
  pub lacks_key : (key : List ℕ) → list_any (is_named rest key) (places_of rest) ≡ false → list_any (has_key key) (started.ends).more ≡ false
  lacks_key key h =
      let e : Ends rest opened a.tokens = started.ends in
      same_keys rest key e.more (places_of rest) (found opened rest e.closes e.returned e.more e.outcome).1 ∙ h
