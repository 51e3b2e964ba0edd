-- On a tame forest a plain selector holds in CSS at the tags where it holds.
use Rattle.std.proofs.Common.{◌≡◌, ◌≢◌, ◌<◌, ◌≤◌, ◌↔◌, ◌⊎◌, ◌++◌, ◌∷◌, [], ℕ, zero, suc, List, true, false, length, sym, ap, ◌∙◌, arith, inl, inr, subst, refl, Option, None, Some, IfSome, option_map, slice_get, slice_index_or}
use Rattle.std.specs.List.{All, Contains}
use Rattle.std.specs.Map.{lookup}
use Rattle.std.specs.Option.{IsSome, IsSomeAnd, unwrap_or}
use Rattle.std.specs.Prelude.{codes}
use Rattle.std.specs.Str.{bytes_eq, str_to_ascii_lowercase, IsUtf8}
use Rattle.std.specs.Str.Lossy.{utf8_lossy}
use Rattle.std.proofs.lemmas.Bool.{false≢true, cases_Bool}
use Rattle.std.proofs.lemmas.Cmp.{nat_list_eq_equiv}
use Rattle.std.proofs.lemmas.List.Elements.{All-contains, All-from_recursion, Contains-append_left, Contains-append_right, Contains-append_cases}
use Rattle.std.proofs.lemmas.Map.Views.{Contains-from_lookup, lookup-from_Contains}
use Rattle.std.proofs.lemmas.Option.{slice_get_cases}
use Rattle.std.proofs.lemmas.Slice.Eq.{bytes_eq-Decides}
use Rattle.std.proofs.lemmas.Str.{utf8_lossy-IsUtf8}
use Rattle.tl_spec.specs.Lex.Attribute.{Pair}
use Rattle.tl_spec.specs.Lex.AttributeList.{IsOther, is_class, is_id, pair_if_some}
use Rattle.tl_spec.specs.Lookup.Scan.{id_of, is_value}
use Rattle.tl_spec.specs.Print.Clean.{NodeHasOwnKeys}
use Rattle.tl_spec.specs.Select.LossyText.{BeginsWith, EndsWith, HasPart, HasWord, IsSameText}
use Rattle.tl_spec.specs.Select.Meaning.{HasValue, HoldsAlone, IsChain, IsChild}
use Rattle.tl_spec.specs.Select.Meaning as port
use Rattle.tl_spec.specs.Select.Selector.{Selector, Tag, Id, Class, All as Every, And, Or, Descendant, Parent as ChildOf, Attribute, AttributeValue, AttributeValueWhitespacedContains, AttributeValueStartsWith, AttributeValueEndsWith, AttributeValueSubstring}
use Rattle.tl_spec.specs.Tree.Document.{Node, Tag as TagOf, Raw, Comment}
use Rattle.tl_spec.specs.Tree.Element.{attribute_of, children_of, name_of}
use Rattle.tl_css.specs.declared.selector.Op.TheVariants.{Equals, Word, Starts, Ends, Inside}
use Rattle.tl_css.specs.declared.selector.Link.TheVariants.{Parent}
use Rattle.tl_css.specs.Meaning.{AreLinks, HasKey, Holds, IsForest, IsLink, IsTag, Passes, pairs_of}
use Rattle.tl_css_laws.specs.Plain.{IsLower, IsPlain, IsTame, IsTamePair, IsTameText, css_of}
use Rattle.tl_css_laws.proofs.PlainWords.{among_words}

-- Values

module _ (own value : List ℕ) (tame : IsTameText own) (right : IsUtf8 value) where
  same : utf8_lossy own ≡ own
  same = utf8_lossy-IsUtf8 own tame.utf8

  asked : utf8_lossy value ≡ value
  asked = utf8_lossy-IsUtf8 value right

  equal : Passes Equals value own ↔ IsSameText own value
  equal = (λ e. ap utf8_lossy e, λ e. sym same ∙ e ∙ asked)

  word : Passes Word value own ↔ HasWord own value
  word =
      let is = among_words own value tame.utf8 right tame.white in
      (λ h. record { some = h.0; among = is.0 h.1 }, λ h. (h.some, is.1 h.among))

  starts : value ≢ [] → Passes Starts value own ↔ BeginsWith own value
  starts some = (
    λ h. (h.1, same ∙ h.2 ∙ ap (λ (v : List ℕ). v ++ h.1) (sym asked)),
    λ h. (some, h.0, sym same ∙ h.1 ∙ ap (λ (v : List ℕ). v ++ h.0) asked),
  )

  ends : value ≢ [] → Passes Ends value own ↔ EndsWith own value
  ends some = (
    λ h. (h.1, same ∙ h.2 ∙ ap (λ (v : List ℕ). h.1 ++ v) (sym asked)),
    λ h. (some, h.0, sym same ∙ h.1 ∙ ap (λ (v : List ℕ). h.0 ++ v) asked),
  )

  inside : value ≢ [] → Passes Inside value own ↔ HasPart own value
  inside some = (
    λ h. (h.1, h.2, same ∙ h.3 ∙ ap (λ (v : List ℕ). h.1 ++ v ++ h.2) (sym asked)),
    λ h. (some, h.0, h.1, sym same ∙ h.2 ∙ ap (λ (v : List ℕ). h.0 ++ v ++ h.1) asked),
  )

-- Keys

pair_found : (key : List ℕ) (o : Option (List ℕ)) (v : Option (List ℕ)) → option_map Some o ≡ Some v → Contains (pair_if_some key o) (key, v)
pair_found key None v e = cc
pair_found key (Some x) v e = let is : Some x ≡ v = cc in (0, omega arith, ap (λ (w : Option (List ℕ)). (key, w)) is)

pair_is : (key k : List ℕ) (o : Option (List ℕ)) (v : Option (List ℕ)) → Contains (pair_if_some key o) (k, v) → (k ≡ key) × (option_map Some o ≡ Some v)
pair_is key k None v h = absurd (omega (arith, h.1))
pair_is key k (Some x) v h = by h.0 h.1 h.2
  where
    by : (i : ℕ) → i < 1 → ◌≡◌ {A = Pair} (slice_index_or ((key, Some x) ∷ []) i (k, v)) (k, v) → (k ≡ key) × (option_map Some (Some x) ≡ Some v)
    by zero w e =
        let at : key ≡ k = ap (λ (p : Pair). p.0) e in
        let is : option_map Some (Some x) ≡ Some v = ap (λ (p : Pair). Some p.1) e in
        (sym at, is)
    by (suc i) w e = absurd (omega (arith, w))

is_key : (a b : List ℕ) → bytes_eq a b ≡ true → a ≡ b
is_key a b e = (bytes_eq-Decides a b).0 e

own_key : (a : List ℕ) → bytes_eq a a ≡ true
own_key a = (bytes_eq-Decides a a).1 refl

-- what stands at a key is the pair of that key
found : (node : Node) (key : List ℕ) (v : Option (List ℕ)) → attribute_of key node ≡ Some v → Contains (pairs_of node) (key, v)
found (Raw bytes) key v e = cc
found (Comment bytes) key v e = cc
found (TagOf own) key v e =
    let a = own.attributes in
    let ids = pair_if_some (codes "id") a.id in
    let classes = pair_if_some (codes "class") a.class in
    elim (cases_Bool (is_id key)) [
      | inl y ↦
          (let here : option_map Some a.id ≡ Some v = rw y at e in
          let k = pair_found (codes "id") a.id v here in
          let at = Contains-append_left (a.others.entries ++ ids) classes (codes "id", v) (Contains-append_right a.others.entries ids (codes "id", v) k) in
          subst (λ (z : List ℕ). Contains (pairs_of (TagOf own)) (z, v)) (sym (is_key key (codes "id") y)) at)
      | inr n ↦ elim (cases_Bool (is_class key)) [
        | inl y ↦
            (let here : option_map Some a.class ≡ Some v = rw (n, y) at e in
            let k = pair_found (codes "class") a.class v here in
            let at = Contains-append_right (a.others.entries ++ ids) classes (codes "class", v) k in
            subst (λ (z : List ℕ). Contains (pairs_of (TagOf own)) (z, v)) (sym (is_key key (codes "class") y)) at)
        | inr m ↦
            (let here : lookup (bytes_eq key) a.others.entries ≡ Some v = rw (n, m) at e in
            Contains-append_left (a.others.entries ++ ids) classes (key, v)
            (Contains-append_left a.others.entries ids (key, v) (Contains-from_lookup is_key key v a.others.entries here)))
      ]
    ]

stands : (node : Node) → NodeHasOwnKeys node → (key : List ℕ) (v : Option (List ℕ)) → Contains (pairs_of node) (key, v) → attribute_of key node ≡ Some v
stands (Raw bytes) once key v h = absurd (omega (arith, h.1))
stands (Comment bytes) once key v h = absurd (omega (arith, h.1))
stands (TagOf own) once key v h =
    let a = own.attributes in
    let ids = pair_if_some (codes "id") a.id in
    let classes = pair_if_some (codes "class") a.class in
    elim (Contains-append_cases (a.others.entries ++ ids) classes (key, v) h) [
      | inl front ↦ elim (Contains-append_cases a.others.entries ids (key, v) front) [
        | inl in_others ↦
            (let other : IsOther key = All-contains (λ (p : Pair). IsOther p.0) a.others.entries (key, v) (All-from_recursion (λ (p : Pair). IsOther p.0) a.others.entries once.others) in_others in
            rw (other.0, other.1) (lookup-from_Contains nat_list_eq_equiv key v a.others.entries once.distinct in_others))
        | inr in_ids ↦
            (let p = pair_is (codes "id") key a.id v in_ids in
            let y : is_id key ≡ true = ap is_id p.0 ∙ own_key (codes "id") in
            rw y p.1)
      ]
      | inr in_classes ↦
          (let p = pair_is (codes "class") key a.class v in_classes in
          let n : is_id key ≡ false = ap is_id p.0 in
          let y : is_class key ≡ true = ap is_class p.0 ∙ own_key (codes "class") in
          rw (n, y) p.1)
    ]

some_is : {A : Type 0} (o : Option A) (v : A) → o ≡ Some v → IsSome o
some_is o v e = subst (λ (o : Option _). IsSome o) (sym e) refl

some_of : {A : Type 0} (o : Option A) → IsSome o → (v : A) × (o ≡ Some v)
some_of None h = absurd (false≢true h)
some_of (Some v) h = (v, refl)

value_of : (Q : List ℕ → Type 0) (o : Option (Option (List ℕ))) → HasValue Q o → (v : Option (List ℕ)) × (o ≡ Some v) × IsSomeAnd v Q
value_of Q None h = absurd h
value_of Q (Some v) h = (v, refl, h)

module _ (P Q : List ℕ → Type 0) (alike : (own : List ℕ) → IsTameText own → P own ↔ Q own) where
  to_value : (v : Option (List ℕ)) → IsSomeAnd v IsTameText → P (unwrap_or v []) → IsSomeAnd v Q
  to_value None t p = absurd t
  to_value (Some own) t p = (alike own t).0 p

  from_value : (v : Option (List ℕ)) → IsSomeAnd v IsTameText → IsSomeAnd v Q → P (unwrap_or v [])
  from_value None t q = absurd t
  from_value (Some own) t q = (alike own t).1 q

module _ (node : Node) (tame : IsTame node) (key : List ℕ) (lower : IsLower key) where
  tame_pair : (pair : Pair) → Contains (pairs_of node) pair → IsTamePair pair
  tame_pair pair h = All-contains IsTamePair (pairs_of node) pair tame.pairs h

  -- what stands at a pair of which the key is asked for
  at_pair : (pair : Pair) → Contains (pairs_of node) pair → str_to_ascii_lowercase pair.0 ≡ str_to_ascii_lowercase key → attribute_of key node ≡ Some pair.1
  at_pair pair h e =
      let is : pair.0 ≡ key = sym (tame_pair pair h).0 ∙ e ∙ lower in
      subst (λ (k : List ℕ). attribute_of k node ≡ Some pair.1) is (stands node tame.once pair.0 pair.1 h)

  key_alike : HasKey (λ own. Unit {0}) (str_to_ascii_lowercase key) node ↔ IsSome (attribute_of key node)
  key_alike = (
    λ h. some_is _ _ (at_pair h.0 h.1 h.2),
    λ h. let v = some_of (attribute_of key node) h in ((key, v.0), found node key v.0 v.1, refl, tt),
  )

  value_alike : (P Q : List ℕ → Type 0) → ((own : List ℕ) → IsTameText own → P own ↔ Q own)
      → HasKey P (str_to_ascii_lowercase key) node ↔ HasValue Q (attribute_of key node)
  value_alike P Q alike = (
    λ h. subst (HasValue Q) (sym (at_pair h.0 h.1 h.2)) (to_value P Q alike h.0.1 (tame_pair h.0 h.1).1 h.3),
    λ h. let v = value_of Q (attribute_of key node) h in
        let at = found node key v.0 v.1 in
        ((key, v.0), at, refl, from_value P Q alike v.0 (tame_pair (key, v.0) at).1 v.2),
  )

-- Names and ids

name_alike : (o : Option (List ℕ)) (name : List ℕ) → IfSome o IsLower → IsLower name → IsSomeAnd o (λ own. str_to_ascii_lowercase own ≡ str_to_ascii_lowercase name) ↔ (o ≡ Some name)
name_alike None name t l = (λ h. absurd h, λ e. cc)
name_alike (Some own) name t l = (
  λ h. ap Some (sym t ∙ h ∙ l),
  λ e. let is : own ≡ name = cc in ap str_to_ascii_lowercase is,
)

id_alike : (o : Option (List ℕ)) (id : List ℕ) → (is_value id o ≡ true) ↔ (o ≡ Some id)
id_alike None id = (λ h. absurd (false≢true h), λ e. cc)
id_alike (Some own) id = (
  λ h. ap Some (sym (is_key id own h)),
  λ e. let is : id ≡ own = cc in (bytes_eq-Decides id own).1 is,
)

-- Nodes

some_alike : (o : Option Node) (A B : Node → Type 0) → IfSome o (λ node. A node ↔ B node) → IsSomeAnd o A ↔ IsSomeAnd o B
some_alike None A B h = (λ a. absurd a, λ b. absurd b)
some_alike (Some node) A B h = h

if_some : (o : Option Node) (P Q : Node → Type 0) → ((node : Node) → o ≡ Some node → P node → Q node) → ((node : Node) → o ≡ Some node → P node) → IfSome o Q
if_some None P Q f h = tt
if_some (Some node) P Q f h = f node refl (h node refl)

module _ (nodes : List Node) (forest : IsForest nodes) (tame : All IsTame nodes) where
  tame_at : (n : ℕ) (node : Node) → slice_get nodes n ≡ Some node → IsTame node
  tame_at n node e = All-contains IsTame nodes node tame (contained (slice_get_cases nodes n).1)
    where
      contained : ((x : Node) × (n < length nodes) × (slice_get nodes n ≡ Some x) × (slice_index_or nodes n x ≡ x)) ⊎ ((length nodes ≤ n) × (slice_get nodes n ≡ None)) → Contains nodes node
      contained (inl h) = let is : h.0 ≡ node = (let s : Some h.0 ≡ Some node = sym h.2 ∙ e in cc) in subst (λ (x : Node). Contains nodes x) is (n, h.1, h.3)
      contained (inr h) = (let s : None ≡ Some node = sym h.1 ∙ e in cc)

  abbrev Alike : Selector → Type 0
  Alike e = (n : ℕ) → Holds nodes (css_of e) n ↔ IsTag nodes n × port.Holds nodes e n

  -- what is asked of a node alone
  alone : (A B : Node → Type 0) → ((node : Node) → IsTame node → A node ↔ B node) → (n : ℕ)
      → (IsTag nodes n × IsSomeAnd (slice_get nodes n) A) ↔ (IsTag nodes n × IsSomeAnd (slice_get nodes n) B)
  alone A B f n =
      let is = some_alike (slice_get nodes n) A B (if_some (slice_get nodes n) IsTame (λ node. A node ↔ B node) (λ node e t. f node t) (tame_at n)) in
      (λ h. (h.0, is.0 h.1), λ h. (h.0, is.1 h.1))

  chain_of : (k m n : ℕ) → AreLinks nodes Parent k m n → IsChain nodes k m n
  chain_of zero m n h = h.0
  chain_of (suc k) m n h = (h.0, chain_of k m h.0 h.2, h.1.0)

  last_parent : (m n : ℕ) → IsChild nodes m n → IsLink nodes Parent m n
  last_parent m n h = (h, λ k other. let same : k ≡ m = forest.once k m n other h in omega (arith, same))

  links_of : (k m n : ℕ) → IsChain nodes k m n → AreLinks nodes Parent k m n
  links_of zero m n h = last_parent m n h
  links_of (suc k) m n h = (h.0, last_parent h.0 n h.2, links_of k m h.0 h.1)

  tag_with_child : (o : Option Node) (n : ℕ) → IsSomeAnd o (λ node. Contains (children_of node) n) → IsSomeAnd o (λ node. IsSome (name_of node))
  tag_with_child None n h = absurd h
  tag_with_child (Some (TagOf own)) n h = refl
  tag_with_child (Some (Raw bytes)) n h = absurd (omega (arith, h.1))
  tag_with_child (Some (Comment bytes)) n h = absurd (omega (arith, h.1))

  chain_tag : (k m n : ℕ) → IsChain nodes k m n → IsTag nodes m
  chain_tag zero m n h = tag_with_child (slice_get nodes m) n h.listed
  chain_tag (suc k) m n h = chain_tag k m h.0 h.1

  and_alike : (a b : Selector) → Alike a → Alike b → Alike (And a b)
  and_alike a b x y n = (
    λ h. let l = (x n).0 h.0 in (l.0, (l.1, ((y n).0 h.1).1)),
    λ h. ((x n).1 (h.0, h.1.0), (y n).1 (h.0, h.1.1)),
  )

  or_alike : (a b : Selector) → Alike a → Alike b → Alike (Or a b)
  or_alike a b x y n = (
    λ h. elim h [ inl l ↦ (let k = (x n).0 l in (k.0, inl k.1)) | inr r ↦ (let k = (y n).0 r in (k.0, inr k.1)) ],
    λ h. elim h.1 [ inl l ↦ inl ((x n).1 (h.0, l)) | inr r ↦ inr ((y n).1 (h.0, r)) ],
  )

  descendant_alike : (a b : Selector) → Alike a → Alike b → Alike (Descendant a b)
  descendant_alike a b x y n = (
    λ h.
        let k = (y n).0 h.1 in
        let m = h.0.1 in
        let way = h.0.2 in
        (k.0, (k.1, m, ((x m).0 h.0.3).1, (way.0, chain_of way.0 m n way.1))),
    λ h.
        let m = h.1.1 in
        let way = h.1.3 in
        ((h.0, m, (way.0, links_of way.0 m n way.1), (x m).1 (chain_tag way.0 m n way.1, h.1.2)), (y n).1 (h.0, h.1.0)),
  )

  child_alike : (a b : Selector) → Alike a → Alike b → Alike (ChildOf a b)
  child_alike a b x y n = (
    λ h.
        let k = (y n).0 h.1 in
        let m = h.0.1 in
        (k.0, (k.1, m, ((x m).0 h.0.3).1, h.0.2.0)),
    λ h.
        let m = h.1.1 in
        let child = h.1.3 in
        ((h.0, m, last_parent m n child, (x m).1 (chain_tag 0 m n child, h.1.2)), (y n).1 (h.0, h.1.0)),
  )

  pub plain_alike : (e : Selector) → IsPlain e → Alike e
  plain_alike (Tag name) p = alone _ _ (λ node t. name_alike (name_of node) name t.name p)
  plain_alike (Id id) p = alone _ _ (λ node t. id_alike (id_of node) id)
  plain_alike (Class member) p = alone _ _ (λ node t. (λ h. h, λ h. h))
  plain_alike Every p = alone _ _ (λ node t. (λ h. h, λ h. h))
  plain_alike (And a b) p = and_alike a b (plain_alike a p.0) (plain_alike b p.1)
  plain_alike (Or a b) p = or_alike a b (plain_alike a p.0) (plain_alike b p.1)
  plain_alike (Descendant a b) p = descendant_alike a b (plain_alike a p.0) (plain_alike b p.1)
  plain_alike (ChildOf a b) p = child_alike a b (plain_alike a p.0) (plain_alike b p.1)
  plain_alike (Attribute key) p = alone _ _ (λ node t. key_alike node t key p)
  plain_alike (AttributeValue key value) p =
      alone _ _ (λ node t. value_alike node t key p.0 (λ own. Passes Equals value own) (λ own. IsSameText own value) (λ own u. equal own value u p.1))
  plain_alike (AttributeValueWhitespacedContains key value) p =
      alone _ _ (λ node t. value_alike node t key p.0 (λ own. Passes Word value own) (λ own. HasWord own value) (λ own u. word own value u p.1))
  plain_alike (AttributeValueStartsWith key value) p =
      alone _ _ (λ node t. value_alike node t key p.0 (λ own. Passes Starts value own) (λ own. BeginsWith own value) (λ own u. starts own value u p.1 p.2))
  plain_alike (AttributeValueEndsWith key value) p =
      alone _ _ (λ node t. value_alike node t key p.0 (λ own. Passes Ends value own) (λ own. EndsWith own value) (λ own u. ends own value u p.1 p.2))
  plain_alike (AttributeValueSubstring key value) p =
      alone _ _ (λ node t. value_alike node t key p.0 (λ own. Passes Inside value own) (λ own. HasPart own value) (λ own u. inside own value u p.1 p.2))
