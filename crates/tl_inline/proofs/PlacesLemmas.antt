-- What is noted of keys, and where they are found by it.
use Rattle.std.proofs.Common.{◌≡◌, ℕ, zero, suc, ◌<◌, ◌-◌, ◌+◌, Bool, true, false, cond, List, [], ◌∷◌, ◌++◌, length, get_or, take, slice_get, slice_set, position, Option, Some, None, is_some, unwrap_or, refl, sym, ap, subst, ◌∙◌, arith, ◌⊎◌, inl, inr, true≢false}
use Rattle.std.specs.Cmp.{Equal-is}
use Rattle.std.specs.List.{AllByRecursion, swap_remove}
use Rattle.std.specs.Map.{keys_of}
use Rattle.std.specs.Option.{option_map, option_map_or}
use Rattle.std.proofs.lemmas.Bool.{eqb-true, eq-eqb, cases_eq}
use Rattle.std.proofs.lemmas.Cmp.{tied_itself, then_total, on_total, nat_cmp_total}
use Rattle.std.proofs.lemmas.Map.Lookups.{exact_pairs, exact_unsigned}
use Rattle.std.proofs.lemmas.Map.Entries.{length-keys_of}
use Rattle.std.proofs.lemmas.List.{take_more, get_or-map, get_or-take, get_or-set_same, get_or-set_other, length-set, length-take, length-map, map-set, take-map}
use Rattle.std.proofs.lemmas.List.Quantifiers.{position-Some}
use Rattle.std.proofs.lemmas.Option.{slice_get-get_or, slice_get-map, slice_get_within, get_or_from_slice_get}
use Rattle.std.specs.Ordering.{nat_cmp, ordering_then, is_eq}
use Rattle.indexmap.proofs.MapLemmas.{Found-position, Missing-position}
use Rattle.indexmap.specs.IndexMap.{insert_entry}
use Rattle.tl_spec.proofs.Tree.Pairs.{insert_present, keys-set_value_at}
use Rattle.tl_inline.proofs.Maps.{first_of_list, set-part}
use Rattle.tl_inline.specs.Digest.{Digest, digest_of}
use Rattle.tl_inline.specs.Places.{is_same, note_of, allows, with_key, without_alone, moved_to, Notes, AllowsAll, AllowsKey, passes_at}
use Rattle.tl_inline.specs.declared.inline.hashmap.heap.index.Place.{Place}
use Rattle.tl_inline.specs.declared.inline.hashmap.heap.index.Place.TheVariants.{Alone, Several}

same_some : {A : Type 0} {x y : A} → Some x ≡ Some y → x ≡ y
same_some {A} {x} e = ap (λ r. unwrap_or r x) e

none_is_some : {A : Type 0} {x : A} → None ≡ Some x → ⊥
none_is_some e = true≢false (sym (ap is_some e))

pub same_digest : (x y : Digest) → is_same x y ≡ true → x ≡ y
same_digest x y h = exact_pairs nat_cmp nat_cmp exact_unsigned exact_unsigned x y ((Equal-is (ordering_then (nat_cmp x.0 y.0) (nat_cmp x.1 y.1))).0 h)

pub same_itself : (x : Digest) → is_same x x ≡ true
same_itself x = ap is_eq (tied_itself (then_total (on_total (λ (p : Digest). p.0) nat_cmp_total) (on_total (λ (p : Digest). p.1) nat_cmp_total)) x)

-- ---- a search by what is noted

module _ {K V : Type 0} (t : K → Bool) where
  -- a key that passes, at the index that a search gives
  first_key : (es : List (K × V)) (i : ℕ) → position t (keys_of es) ≡ Some i → (k : K) × (slice_get (keys_of es) i ≡ Some k) × (t k ≡ true)
  first_key es i e =
      let within = (Found-position t es i e).within in
      let d = first_of_list es (omega (arith, within)) in
      let s = position-Some t (keys_of es) i d.0 e in
      (get_or (keys_of es) i d.0, slice_get-get_or (keys_of es) i d.0 s.0, s.1)

  first_passes : (es : List (K × V)) (i : ℕ) → position t (keys_of es) ≡ Some i → passes_at t es i ≡ true
  first_passes es i e =
      let within = (Found-position t es i e).within in
      let d = first_of_list es (omega (arith, within)) in
      let key : K × V → K = λ p. p.0 in
      ap (λ o. option_map_or (λ p. t p.0) o false) (slice_get-get_or es i d within) ∙ ap t (sym (get_or-map key es i d d.0 within))
      ∙ (position-Some t (keys_of es) i d.0 e).1

  absent_fails : (es : List (K × V)) (i : ℕ) → AllByRecursion (λ k. t k ≡ false) (keys_of es) → passes_at t es i ≡ false
  absent_fails [] i h = refl
  absent_fails (e ∷ es) zero h = h.0
  absent_fails (e ∷ es) (suc i) h = absent_fails es i h.1

  module _ (note : Option Place) (es : List (K × V)) (a : AllowsKey t note (keys_of es)) where
    found_allows : (i : ℕ) → position t (keys_of es) ≡ Some i → allows note i ≡ true
    found_allows i e =
        let k = first_key es i e in
        a i k.0 k.1 k.2

    pub found_nowhere : None ≡ note → None ≡ position t (keys_of es)
    found_nowhere none = by (position t (keys_of es)) refl
      where
        by : (r : Option ℕ) → position t (keys_of es) ≡ r → None ≡ r
        by None e = refl
        by (Some i) e = absurd (true≢false (sym (found_allows i e) ∙ ap (λ o. allows o i) (sym none)))

    alone_at : (j i : ℕ) → Some (Alone j) ≡ note → position t (keys_of es) ≡ Some i → j ≡ i
    alone_at j i is e = eqb-true j i (ap (λ o. allows o i) is ∙ found_allows i e)

    pub found_alone : (j : ℕ) → Some (Alone j) ≡ note → passes_at t es j ≡ true → Some j ≡ position t (keys_of es)
    found_alone j is passes = by (position t (keys_of es)) refl
      where
        by : (r : Option ℕ) → position t (keys_of es) ≡ r → Some j ≡ r
        by None e = absurd (true≢false (sym passes ∙ absent_fails es j (Missing-position t es e).absent))
        by (Some i) e = ap Some (alone_at j i is e)

    pub found_other : (j : ℕ) → Some (Alone j) ≡ note → passes_at t es j ≡ false → None ≡ position t (keys_of es)
    found_other j is fails = by (position t (keys_of es)) refl
      where
        by : (r : Option ℕ) → position t (keys_of es) ≡ r → None ≡ r
        by None e = refl
        by (Some i) e = absurd (true≢false (sym (first_passes es i e) ∙ ap (passes_at t es) (sym (alone_at j i is e)) ∙ fails))

-- what is noted of a digest is noted of each key that has it
pub allows_key : {K : Type 0} (f : K → Digest) (note : Digest → Option Place) (keys : List K) (t : K → Bool) (d : Digest)
    → ((k : K) → t k ≡ true → f k ≡ d) → AllowsAll f note keys → AllowsKey t (note d) keys
allows_key f note keys t d same a = λ i k at passes. subst (λ q. allows (note q) i ≡ true) (same k passes) (a i k at)

-- ---- a note that is written

module _ (old new : Digest → Option Place) (digest : Digest) (w : Option Place) (s : Notes old new digest w) where
  pub says : (d : Digest) → is_same digest d ≡ true → new d ≡ w
  says d e = s d ∙ ap (λ b. cond b w (old d)) e

  pub says_own : new digest ≡ w
  says_own = says digest (same_itself digest)

  pub keeps : (d : Digest) → is_same digest d ≡ false → new d ≡ old d
  keeps d e = s d ∙ ap (λ b. cond b w (old d)) e

still_allows : (o : Option Place) (i n : ℕ) → allows o i ≡ true → allows (with_key o n) i ≡ true
still_allows None i n h = absurd (true≢false (sym h))
still_allows (Some p) i n h = refl

new_allows : (o : Option Place) (n : ℕ) → allows (with_key o n) n ≡ true
new_allows None n = eq-eqb n n refl
new_allows (Some p) n = refl

both_several : (o : Option Place) (i j : ℕ) → allows o i ≡ true → allows o j ≡ true → (j ≡ i → ⊥) → o ≡ Some Several
both_several None i j h g apart = absurd (true≢false (sym h))
both_several (Some Several) i j h g apart = refl
both_several (Some (Alone at)) i j h g apart = absurd (apart (sym (eqb-true at j g) ∙ eqb-true at i h))

never_alone : (o : Option Place) (j : ℕ) → allows (without_alone o) j ≡ true → without_alone o ≡ Some Several
never_alone None j h = absurd (true≢false (sym h))
never_alone (Some Several) j h = refl
never_alone (Some (Alone at)) j h = absurd (true≢false (sym h))

moved_allows : (o : Option Place) (n i : ℕ) → allows o n ≡ true → allows (moved_to o i) i ≡ true
moved_allows None n i h = absurd (true≢false (sym h))
moved_allows (Some Several) n i h = refl
moved_allows (Some (Alone at)) n i h = eq-eqb i i refl

-- ---- a key that comes

split_push : {X : Type 0} (xs : List X) (y : X) (i : ℕ) (x : X) → slice_get (xs ++ y ∷ []) i ≡ Some x → (slice_get xs i ≡ Some x) ⊎ ((i ≡ length xs) × (x ≡ y))
split_push [] y zero x e = inr (refl, same_some (sym e))
split_push [] y (suc i) x e = absurd (none_is_some e)
split_push (x ∷ xs) y zero z e = inl e
split_push (x ∷ xs) y (suc i) z e =
    elim (split_push xs y i z e) [
      | inl h ↦ inl h
      | inr h ↦ inr (ap suc h.0, h.1)
    ]

module _ {K : Type 0} (f : K → Digest) where
  pub allows_pushed : (old new : Digest → Option Place) (keys : List K) (k : K) (n : ℕ) → n ≡ length keys → Notes old new (f k) (with_key (old (f k)) n)
      → AllowsAll f old keys → AllowsAll f new (keys ++ k ∷ [])
  allows_pushed old new keys k n counted s a = λ i x at.
      elim (split_push keys k i x at) [
        | inl before ↦ kept i x (is_same (f k) (f x)) refl (a i x before)
        | inr last ↦ (λ j. allows (new (f (last.1 j))) ((last.0 ∙ sym counted) j)) ∙ ap (λ o. allows o n) (says_own old new (f k) _ s) ∙ new_allows (old (f k)) n
      ]
    where
      kept : (i : ℕ) (x : K) (b : Bool) → is_same (f k) (f x) ≡ b → allows (old (f x)) i ≡ true → allows (new (f x)) i ≡ true
      kept i x true e h =
          let here : allows (old (f k)) i ≡ true = subst (λ q. allows (old q) i ≡ true) (sym (same_digest (f k) (f x) e)) h in
          ap (λ o. allows o i) (says old new (f k) _ s (f x) e) ∙ still_allows (old (f k)) i n here
      kept i x false e h = ap (λ o. allows o i) (keeps old new (f k) _ s (f x) e) ∙ h

-- ---- a key that goes, and the last one in its place

split_swap : {X : Type 0} (xs : List X) (i : ℕ) (d : X) (j : ℕ) (x : X) → i < length xs → slice_get (swap_remove xs i d) j ≡ Some x
    → ((j ≡ i → ⊥) × (suc j < length xs) × (slice_get xs j ≡ Some x)) ⊎ ((j ≡ i) × (suc j < length xs) × (slice_get xs (length xs - 1) ≡ Some x))
split_swap xs i d j x within at =
    let n = length xs - 1 in
    let last = get_or xs n d in
    let ys = slice_set xs i last in
    let early : suc j < length xs = omega (arith, slice_get_within (swap_remove xs i d) j x at, length-take n ys, length-set xs i last) in
    let found : get_or ys j x ≡ x = sym (get_or-take n ys j x (omega arith)) ∙ get_or_from_slice_get (swap_remove xs i d) j x x at in
    elim (cases_eq j i) [
      | inl e ↦ inr (e, early, slice_get-get_or xs n d (omega arith) ∙ ap Some (sym (get_or-set_same xs i last x within) ∙ ap (λ m. get_or ys m x) (sym e) ∙ found))
      | inr ne ↦ inl (ne, early, slice_get-get_or xs j x (omega arith) ∙ ap Some (sym (get_or-set_other xs i j last x ne) ∙ found))
    ]

module _ {K : Type 0} (f : K → Digest) (a b c : Digest → Option Place) (keys : List K) (i : ℕ) (gone last : K) (at_gone : slice_get keys i ≡ Some gone)
    (at_last : slice_get keys (length keys - 1) ≡ Some last) (allowed : AllowsAll f a keys) (s : Notes a b (f gone) (without_alone (a (f gone))))
    (r : Notes b c (f last) (moved_to (b (f last)) i)) where
  others : (j : ℕ) (x : K) → (j ≡ i → ⊥) → slice_get keys j ≡ Some x → allows (b (f x)) j ≡ true
  others j x apart at = by (is_same (f gone) (f x)) refl
    where
      by : (t : Bool) → is_same (f gone) (f x) ≡ t → allows (b (f x)) j ≡ true
      by true e =
          let here : allows (a (f gone)) j ≡ true = subst (λ q. allows (a q) j ≡ true) (sym (same_digest (f gone) (f x) e)) (allowed j x at) in
          let several = both_several (a (f gone)) i j (allowed i gone at_gone) here apart in
          ap (λ o. allows o j) (says a b (f gone) _ s (f x) e ∙ ap without_alone several)
      by false e = ap (λ o. allows o j) (keeps a b (f gone) _ s (f x) e) ∙ allowed j x at

  last_several : (j : ℕ) → suc j < length keys → allows (b (f last)) j ≡ true → b (f last) ≡ Some Several
  last_several j early here =
      elim (cases_eq (length keys - 1) i) [
        | inl e ↦ own (ap (λ k. b (f k)) (same_some (sym at_last ∙ ap (slice_get keys) e ∙ at_gone)) ∙ says_own a b (f gone) _ s)
        | inr ne ↦ both_several (b (f last)) (length keys - 1) j (others (length keys - 1) last ne at_last) here (λ e. absurd (omega arith))
      ]
    where
      own : b (f last) ≡ without_alone (a (f gone)) → b (f last) ≡ Some Several
      own e = e ∙ never_alone (a (f gone)) j (ap (λ o. allows o j) (sym e) ∙ here)

  stays : (j : ℕ) (x : K) → (j ≡ i → ⊥) → suc j < length keys → slice_get keys j ≡ Some x → allows (c (f x)) j ≡ true
  stays j x apart early at = by (is_same (f last) (f x)) refl
    where
      by : (t : Bool) → is_same (f last) (f x) ≡ t → allows (c (f x)) j ≡ true
      by true e =
          let here : allows (b (f last)) j ≡ true = subst (λ q. allows (b q) j ≡ true) (sym (same_digest (f last) (f x) e)) (others j x apart at) in
          ap (λ o. allows o j) (says b c (f last) _ r (f x) e ∙ ap (λ o. moved_to o i) (last_several j early here))
      by false e = ap (λ o. allows o j) (keeps b c (f last) _ r (f x) e) ∙ others j x apart at

  moves : (j : ℕ) (x : K) → j ≡ i → suc j < length keys → slice_get keys (length keys - 1) ≡ Some x → allows (c (f x)) j ≡ true
  moves j x e early at =
      let end : allows (b (f last)) (length keys - 1) ≡ true = others (length keys - 1) last (λ q. absurd (omega arith)) at_last in
      let is : x ≡ last = same_some (sym at ∙ at_last) in
      (λ k. allows (c (f (is k))) (e k)) ∙ ap (λ o. allows o i) (says_own b c (f last) _ r) ∙ moved_allows (b (f last)) (length keys - 1) i end

  pub allows_swapped : (d : K) → AllowsAll f c (swap_remove keys i d)
  allows_swapped d = λ j x at.
      elim (split_swap keys i d j x (slice_get_within keys i gone at_gone) at) [
        | inl h ↦ stays j x h.0 h.1 h.2
        | inr h ↦ moves j x h.0 h.1 h.2
      ]

-- ---- keys of pairs

module _ {K V : Type 0} (es : List (K × V)) (i : ℕ) where
  pub key_at : (x : K × V) → x ≡ get_or es i x → i < length es → slice_get (keys_of es) i ≡ Some x.0
  key_at x is within = slice_get-map (λ p. p.0) es i ∙ ap (option_map (λ p. p.0)) (slice_get-get_or es i x within ∙ ap Some (sym is))

  pub keys_swapped : (p : K × V) → i < length es → keys_of (swap_remove es i p) ≡ swap_remove (keys_of es) i p.0
  keys_swapped p within =
      let n = length es - 1 in
      let key : K × V → K = λ e. e.0 in
      let len : length es ≡ length (keys_of es) = sym (length-map es key) in
      let end : get_or (keys_of es) n p.0 ≡ (get_or es n p).0 = get_or-map key es n p p.0 (omega arith) in
      sym (take-map key n (slice_set es i (get_or es n p))) ∙ ap (take n) (map-set key es i (get_or es n p) ∙ ap (λ k. slice_set (keys_of es) i k) (sym end))
      ∙ (λ j. take (len j - 1) (slice_set (keys_of es) i (get_or (keys_of es) (len j - 1) p.0)))

module _ {K V : Type 0} (eq : K → K → Bool) (es : List (K × V)) (i : ℕ) where
  -- a write of a value leaves the keys
  pub keys_written : (x : K × V) (w : V) → x ≡ get_or es i x → keys_of (slice_set es i (x.0, w)) ≡ keys_of es
  keys_written x w is = ap keys_of (set-part es i x w is) ∙ keys-set_value_at eq es i w

  -- so does an insert at a key that is there
  pub keys_replaced : (fs : List (K × V)) (k : K) (v : V) → Some i ≡ position (eq k) (keys_of es) → fs ≡ insert_entry eq es k v → keys_of fs ≡ keys_of es
  keys_replaced fs k v index after = ap keys_of (after ∙ insert_present eq es k v i index) ∙ keys-set_value_at eq es i v

-- one key more of them
pub taken_one : {K : Type 0} (keys : List K) (i : ℕ) (x : K) → x ≡ get_or keys i x → i < length keys → take (i + 1) keys ≡ take i keys ++ x ∷ []
taken_one keys i x is within = take_more keys i x within ∙ ap (λ k. take i keys ++ k ∷ []) (sym is)
