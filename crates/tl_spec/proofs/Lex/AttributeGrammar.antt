-- The attributes made pair after pair are those of all the pairs.
use Rattle.std.proofs.Common.{◌≡◌, ℕ, Bool, true, false, cond, not, ◌||◌, ◌&&◌, if◌then◌else◌, List, [], ◌∷◌, ◌++◌, Option, Some, None, bytes_eq, codes, map, filter, unwrap_or, refl, ap, ap₂, sym, ◌∙◌, subst, append_assoc, append-nil, true≢false}
use Rattle.std.specs.Prelude.{◌↔◌, fold, reverse}
use Rattle.std.specs.List.{AllByRecursion, IsDistinct, list_any}
use Rattle.std.specs.Map.{lookup}
use Rattle.std.proofs.lemmas.Bool.{cond_both, cond-true, cond-false, false_from_ne_true}
use Rattle.std.proofs.lemmas.Cmp.{nat_list_eq_equiv}
use Rattle.std.proofs.lemmas.List.{reverse-append}
use Rattle.std.proofs.lemmas.List.Elements.{All-filter, All-from_recursion, All-weaker, filter-append, filter_passes, recursion_from_All}
use Rattle.std.proofs.lemmas.Map.Views.{any-filter_same}
use Rattle.std.proofs.lemmas.Slice.Eq.{bytes_eq-Decides}
use Rattle.indexmap.specs.IndexMap.{insert_entry}
use Rattle.indexmap.specs.IndexSet.{insert_key}
use Rattle.tl_spec.specs.Lex.Attribute.{Pair}
use Rattle.tl_spec.specs.Lex.AttributeList.{PlainAttributes, IsOther, attributes_of, is_id, is_class, no_attributes, with_pair}
use Rattle.tl_spec.specs.Lex.AttributeGrammar.{AreAttributesOf, distinct_keys, last_value, other_keys}
use Rattle.tl_spec.proofs.Lex.ByKey.{choose_by_key-all}

same_key : (k l : List ℕ) → bytes_eq k l ≡ true → k ≡ l
same_key k l e = (bytes_eq-Decides k l).0 e

own_key : (k : List ℕ) → bytes_eq k k ≡ true
own_key k = nat_list_eq_equiv.refl k

-- the last value after one more pair

module _ (q : List ℕ) (done : List Pair) (p : Pair) where
  value-push : last_value q (done ++ p ∷ []) ≡ unwrap_or (cond (bytes_eq q p.0) (Some p.1) (lookup (bytes_eq q) (reverse done))) None
  value-push = ap (λ ps. unwrap_or (lookup (bytes_eq q) ps) None) (reverse-append done (p ∷ []))

  value-new : bytes_eq q p.0 ≡ true → last_value q (done ++ p ∷ []) ≡ p.1
  value-new h = value-push ∙ ap (λ o. unwrap_or o None) (cond-true (bytes_eq q p.0) _ _ h)

  value-old : bytes_eq q p.0 ≡ false → last_value q (done ++ p ∷ []) ≡ last_value q done
  value-old h = value-push ∙ ap (λ o. unwrap_or o None) (cond-false (bytes_eq q p.0) _ _ h)

-- the keys after one more pair

abbrev more : Bool → Bool → List (List ℕ) → List ℕ → List (List ℕ)
more passes there ks k = if passes then (if there then ks else ks ++ k ∷ []) else ks

-- a filter passes the new key over, or has it as new
filter-push : (test : List ℕ → Bool) (ks : List (List ℕ)) (k : List ℕ)
    → filter test (insert_key bytes_eq ks k) ≡ (if test k then insert_key bytes_eq (filter test ks) k else filter test ks)
filter-push test ks k =
    by (test k) refl (list_any (bytes_eq k) ks)
    ∙ sym (ap (λ there. more (test k) there (filter test ks) k) (any-filter_same (bytes_eq k) test (test k) (λ x e. ap test (sym (same_key k x e))) ks))
  where
    by : (passes : Bool) → test k ≡ passes → (there : Bool)
        → filter test (if there then ks else ks ++ k ∷ []) ≡ more passes (passes && there) (filter test ks) k
    by true h true = refl
    by true h false = filter-append test ks (k ∷ []) ∙ ap (λ l. filter test ks ++ l) (cond-true (test k) _ _ h)
    by false h true = refl
    by false h false = filter-append test ks (k ∷ []) ∙ ap (λ l. filter test ks ++ l) (cond-false (test k) _ _ h) ∙ append-nil (filter test ks)

insert-drop_while : (l k : List ℕ) (ks : List (List ℕ)) → bytes_eq k l ≡ false → insert_key bytes_eq (l ∷ ks) k ≡ l ∷ insert_key bytes_eq ks k
insert-drop_while l k ks h = ap (λ first. if (first || list_any (bytes_eq k) ks) then l ∷ ks else (l ∷ ks) ++ k ∷ []) h ∙ tail (list_any (bytes_eq k) ks)
  where
    tail : (there : Bool) → (if there then l ∷ ks else (l ∷ ks) ++ k ∷ []) ≡ l ∷ (if there then ks else ks ++ k ∷ [])
    tail true = refl
    tail false = refl

insert-here : (l k : List ℕ) (ks : List (List ℕ)) → bytes_eq k l ≡ true → insert_key bytes_eq (l ∷ ks) k ≡ l ∷ ks
insert-here l k ks h = ap (λ first. if (first || list_any (bytes_eq k) ks) then l ∷ ks else (l ∷ ks) ++ k ∷ []) h

keys-push : (done : List Pair) (p : Pair) → distinct_keys (done ++ p ∷ []) ≡ insert_key bytes_eq (distinct_keys done) p.0
keys-push [] p = refl
keys-push (d ∷ done) p =
    let ks = distinct_keys done in
    let differs = λ (key : List ℕ). not (bytes_eq d.0 key) in
    ap (λ l. d.0 ∷ filter differs l) (keys-push done p)
    ∙ ap (λ l. d.0 ∷ l) (filter-push differs ks p.0)
    ∙ by (bytes_eq d.0 p.0) refl
  where
    by : (same : Bool) → bytes_eq d.0 p.0 ≡ same
        → d.0 ∷ (if not (bytes_eq d.0 p.0) then insert_key bytes_eq (filter (λ key. not (bytes_eq d.0 key)) (distinct_keys done)) p.0 else filter (λ key. not (bytes_eq d.0 key)) (distinct_keys done))
        ≡ insert_key bytes_eq (distinct_keys (d ∷ done)) p.0
    by true h = ap (λ l. d.0 ∷ l) (cond-false (not (bytes_eq d.0 p.0)) _ _ (ap not h)) ∙ sym (insert-here d.0 p.0 _ (nat_list_eq_equiv.symm p.0 d.0 ∙ h))
    by false h = ap (λ l. d.0 ∷ l) (cond-true (not (bytes_eq d.0 p.0)) _ _ (ap not h)) ∙ sym (insert-drop_while d.0 p.0 _ (nat_list_eq_equiv.symm p.0 d.0 ∙ h))

abbrev is_other : List ℕ → Bool
is_other key = not (is_id key || is_class key)

others-push : (done : List Pair) (p : Pair) → other_keys (done ++ p ∷ []) ≡ (if is_other p.0 then insert_key bytes_eq (other_keys done) p.0 else other_keys done)
others-push done p = ap (filter is_other) (keys-push done p) ∙ filter-push is_other (distinct_keys done) p.0

-- each key with its value under f
abbrev valued : (List ℕ → Option (List ℕ)) → List (List ℕ) → List Pair
valued f ks = map (λ q. (q, f q)) ks

-- pairs of keys with their values, where only the value at k changes

module _ (k : List ℕ) (v : Option (List ℕ)) (old new : List ℕ → Option (List ℕ))
    (at_key : (q : List ℕ) → bytes_eq q k ≡ true → new q ≡ v) (elsewhere : (q : List ℕ) → bytes_eq q k ≡ false → new q ≡ old q) where
  map-apart : (ks : List (List ℕ)) → AllByRecursion (λ q. bytes_eq k q ≡ false) ks → valued old ks ≡ valued new ks
  map-apart [] h = refl
  map-apart (q ∷ ks) h = ap₂ (λ w l. (q, w) ∷ l) (sym (elsewhere q (nat_list_eq_equiv.symm q k ∙ h.0))) (map-apart ks h.1)

  insert-map : (ks : List (List ℕ)) → IsDistinct bytes_eq ks → insert_entry bytes_eq (valued old ks) k v ≡ valued new (insert_key bytes_eq ks k)
  unfolding IsDistinct
  insert-map [] h = ap (λ w. (k, w) ∷ []) (sym (at_key k (own_key k)))
  insert-map (l ∷ ks) h = by (bytes_eq k l) refl (insert-map ks h.1)
    where
      by : (same : Bool) → bytes_eq k l ≡ same → insert_entry bytes_eq (valued old ks) k v ≡ valued new (insert_key bytes_eq ks k)
          → insert_entry bytes_eq (valued old (l ∷ ks)) k v ≡ valued new (insert_key bytes_eq (l ∷ ks) k)
      by true e later =
          let apart = subst (λ x. AllByRecursion (λ q. bytes_eq x q ≡ false) ks) (sym (same_key k l e)) h.0 in
          cond-true (bytes_eq k l) _ _ e
          ∙ ap₂ (λ w es. (l, w) ∷ es) (sym (at_key l (nat_list_eq_equiv.symm l k ∙ e))) (map-apart ks apart)
          ∙ sym (ap (valued new) (insert-here l k ks e))
      by false e later =
          cond-false (bytes_eq k l) _ _ e
          ∙ ap₂ (λ w es. (l, w) ∷ es) (sym (elsewhere l (nat_list_eq_equiv.symm l k ∙ e))) later
          ∙ sym (ap (valued new) (insert-drop_while l k ks e))

-- a filter keeps keys distinct

-- what passing a test shows of a key is true of each key that a filter keeps
kept : (test : List ℕ → Bool) (P : List ℕ → Type 0) → ((k : List ℕ) → test k ≡ true → P k) → (ks : List (List ℕ)) → AllByRecursion P (filter test ks)
kept test P f ks = recursion_from_All P _ (All-weaker (λ k. test k ≡ true) P f _ (filter_passes test ks))

distinct-filter : (test : List ℕ → Bool) (ks : List (List ℕ)) → IsDistinct bytes_eq ks → IsDistinct bytes_eq (filter test ks)
unfolding IsDistinct
distinct-filter test [] h = tt
distinct-filter test (k ∷ ks) h =
    let P : List ℕ → Type 0 = λ l. bytes_eq k l ≡ false in
    cond_both (test k) _ _ (IsDistinct bytes_eq)
    (λ _. (recursion_from_All P _ (All-filter test P ks (All-from_recursion P ks h.0)), distinct-filter test ks h.1))
    (λ _. distinct-filter test ks h.1)

not_true : (b : Bool) → not b ≡ true → b ≡ false
not_true true h = sym h
not_true false h = refl

distinct-keys : (pairs : List Pair) → IsDistinct bytes_eq (distinct_keys pairs)
unfolding IsDistinct
distinct-keys [] = tt
distinct-keys (p ∷ ps) =
    let differs = λ (key : List ℕ). not (bytes_eq p.0 key) in (
      kept differs (λ key. bytes_eq p.0 key ≡ false) (λ key. not_true (bytes_eq p.0 key)) (distinct_keys ps),
      distinct-filter differs (distinct_keys ps) (distinct-keys ps),
    )

-- attributes after one more pair

other_yes : (k : List ℕ) → IsOther k → is_other k ≡ true
other_yes k o = ap₂ (λ x y. not (x || y)) o.0 o.1

-- a key that is not among the other ones differs from each of those
apart-others : (done : List Pair) (k : List ℕ) → is_other k ≡ false → AllByRecursion (λ q. bytes_eq k q ≡ false) (other_keys done)
apart-others done k h =
    kept is_other (λ q. bytes_eq k q ≡ false)
    (λ q o. false_from_ne_true (bytes_eq k q) (λ e. true≢false (sym o ∙ sym (ap is_other (same_key k q e)) ∙ h)))
    (distinct_keys done)

module _ (done : List Pair) (p : Pair) (a : PlainAttributes) (h : AreAttributesOf done a) where
  -- the others stay where the key is `id` or `class`
  others-stay : is_other p.0 ≡ false → a.others ≡ valued (λ q. last_value q (done ++ p ∷ [])) (other_keys (done ++ p ∷ []))
  others-stay o =
      h.others
      ∙ map-apart p.0 p.1 (λ q. last_value q done) (λ q. last_value q (done ++ p ∷ [])) (λ q. value-new q done p) (λ q. value-old q done p) (other_keys done) (apart-others done p.0 o)
      ∙ sym (ap (valued (λ q. last_value q (done ++ p ∷ []))) (others-push done p ∙ cond-false (is_other p.0) _ _ o))

  others-more : is_other p.0 ≡ true → insert_entry bytes_eq a.others p.0 p.1 ≡ valued (λ q. last_value q (done ++ p ∷ [])) (other_keys (done ++ p ∷ []))
  others-more o =
      ap (λ es. insert_entry bytes_eq es p.0 p.1) h.others
      ∙ insert-map p.0 p.1 (λ q. last_value q done) (λ q. last_value q (done ++ p ∷ [])) (λ q. value-new q done p) (λ q. value-old q done p) (other_keys done)
      (distinct-filter is_other (distinct_keys done) (distinct-keys done))
      ∙ sym (ap (valued (λ q. last_value q (done ++ p ∷ []))) (others-push done p ∙ cond-true (is_other p.0) _ _ o))

  unlike : (q : List ℕ) → bytes_eq p.0 q ≡ false → last_value q done ≡ last_value q (done ++ p ∷ [])
  unlike q e = sym (value-old q done p (nat_list_eq_equiv.symm q p.0 ∙ e))

  like : (q : List ℕ) → bytes_eq p.0 q ≡ true → p.1 ≡ last_value q (done ++ p ∷ [])
  like q e = sym (value-new q done p (nat_list_eq_equiv.symm q p.0 ∙ e))

  attributes-push : AreAttributesOf (done ++ p ∷ []) (with_pair a p)
  attributes-push =
      choose_by_key-all (AreAttributesOf (done ++ p ∷ [])) p.0 _ _ _
      (λ i. record {
        others = others-stay (ap (λ x. not (x || is_class p.0)) i);
        id = like (codes "id") i;
        class = h.class ∙ unlike (codes "class") (ap (λ k. bytes_eq k (codes "class")) (same_key p.0 (codes "id") i));
      })
      (λ i c. record {
        others = others-stay (ap₂ (λ x y. not (x || y)) i c);
        id = h.id ∙ unlike (codes "id") i;
        class = like (codes "class") c;
      })
      (λ o. record {
        others = others-more (other_yes p.0 o);
        id = h.id ∙ unlike (codes "id") o.0;
        class = h.class ∙ unlike (codes "class") o.1;
      })

fold-attributes : (done : List Pair) (a : PlainAttributes) (pairs : List Pair) → AreAttributesOf done a → AreAttributesOf (done ++ pairs) (fold with_pair a pairs)
fold-attributes done a [] h = subst (λ ps. AreAttributesOf ps a) (sym (append-nil done)) h
fold-attributes done a (p ∷ pairs) h =
    subst (λ ps. AreAttributesOf ps (fold with_pair a (p ∷ pairs))) (append_assoc done (p ∷ []) pairs)
    (fold-attributes (done ++ p ∷ []) (with_pair a p) pairs (attributes-push done p a h))

attributes-listed : (pairs : List Pair) → AreAttributesOf pairs (attributes_of pairs)
attributes-listed pairs = fold-attributes [] no_attributes pairs (record { others = refl; id = refl; class = refl })

pub attributes_of-only : (pairs : List Pair) (a : PlainAttributes) → AreAttributesOf pairs a ↔ (attributes_of pairs ≡ a)
attributes_of-only pairs a = (is, λ e. subst (AreAttributesOf pairs) e (attributes-listed pairs))
  where
    is : AreAttributesOf pairs a → attributes_of pairs ≡ a
    is h =
        let f = attributes-listed pairs in
        λ i. record { others = (f.others ∙ sym h.others) i; id = (f.id ∙ sym h.id) i; class = (f.class ∙ sym h.class) i }
