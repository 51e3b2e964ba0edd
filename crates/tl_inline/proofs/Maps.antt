-- Facts of a list of pairs with distinct keys.
use Rattle.std.proofs.Common.{◌≡◌, ℕ, zero, suc, ◌<◌, Bool, true, false, not, cond, List, [], ◌∷◌, ◌++◌, length, get_or, slice_set, position, Option, Some, None, is_some, refl, sym, ap, subst, ◌∙◌, arith, append_assoc, ◌||◌, ◌&&◌, ◌==◌, ◌⊎◌, ◌≤◌, inl, slice_get, true≢false, map, IsPermutation}
use Rattle.std.specs.List.{All, IsDistinct, AllZip, Contains, swap_remove, refill}
use Rattle.std.specs.Cmp.{IsEquivalence}
use Rattle.std.specs.HashMap.{HashMap, IsUnique, PutsEntry, get}
use Rattle.std.proofs.lemmas.List.Sorted.{IsPermutation-push_more}
use Rattle.std.specs.Option.{IfSome, IfNone, option_map}
use Rattle.std.specs.Map.{keys_of, values_of, lookup, set_value}
use Rattle.std.proofs.lemmas.List.{get_or-map, length-map}
use Rattle.std.proofs.lemmas.List.Elements.{Contains-get_or, Contains-append_right}
use Rattle.std.proofs.lemmas.Option.{slice_get-get_or, slice_get-map, slice_get_past}
use Rattle.indexmap.specs.Layout.{length-set_value_at}
use Rattle.indexmap.specs.IndexMap.{insert_entry, swap_remove_entry, set_value_at}
use Rattle.indexmap.proofs.MapLemmas.{Found-position, Missing-position, swap_remove_entry-found, swap_remove_entry-missing, absent_before, some_index, lookup_permutation}
use Rattle.indexmap.proofs.RemoveLemmas.{swap_out}
use Rattle.tl_inline.specs.InlineVec.{ClonesAreEqual}
use Rattle.tl_spec.specs.Tree.Inline.{InlineMap, with_entry}
use Rattle.tl_spec.proofs.Tree.Pairs.{insert_new, insert_present, distinct_insert, position-map}
use Rattle.arrayvec.proofs.ArrayVecLemmas.{items-with_items}

-- an item of a list that has some
pub first_of_list : {X : Type 0} (xs : List X) → 0 < length xs → X
first_of_list [] h = absurd (omega arith)
first_of_list (x ∷ xs) h = x

module _ {K V : Type 0} (t : K → Bool) where
  -- a search of the pairs is one of the keys
  pub position-keys : (es : List (K × V)) → position (λ e. t e.0) es ≡ position t (keys_of es)
  position-keys es = sym (position-map t (λ e. e.0) es)

  -- what a search says of a look-up
  pub record Finds (es : List (K × V)) (r : Option ℕ) : Type 0 where
    pub index : r ≡ position t (keys_of es)
    pub within : IfSome r (λ i. i < length es)
    pub value : IfSome r (λ i. (d : K × V) → lookup t es ≡ Some (get_or es i d).1)
    pub absent : IfNone r (lookup t es ≡ None)

  pub finds : (es : List (K × V)) (r : Option ℕ) → r ≡ position t (keys_of es) → Finds es r
  finds es None e = record { index = e; within = tt; value = tt; absent = (Missing-position t es (sym e)).value }
  finds es (Some i) e =
      let f = Found-position t es i (sym e) in
      let within_values : i < length (values_of es) = subst (λ n. i < n) (sym (length-map es (λ e. e.1))) f.within in
      record {
        index = e;
        within = f.within;
        value = λ d. f.value ∙ slice_get-get_or (values_of es) i d.1 within_values ∙ ap Some (get_or-map (λ p. p.1) es i d d.1 f.within);
        absent = tt;
      }

  -- the value at the place of a key is the value at the key
  pub value-at_place : (es : List (K × V)) (i : ℕ) (r : Option V) → Some i ≡ position t (keys_of es) → r ≡ slice_get (values_of es) i → r ≡ lookup t es
  value-at_place es i r index shown = shown ∙ sym (Found-position t es i (sym index)).value

  -- a key without a place has no value
  pub no_value-at_place : (es : List (K × V)) → None ≡ position t (keys_of es) → None ≡ lookup t es
  no_value-at_place es index = sym (Missing-position t es (sym index)).value

  -- what a search and a `swap_remove` at its place leave
  pub swap_removed : (es fs : List (K × V)) (i : ℕ) (p : K × V) → Some i ≡ position t (keys_of es) → fs ≡ swap_remove es i p → fs ≡ swap_remove_entry t es
  swap_removed es fs i p index after = after ∙ sym (swap_remove_entry-found t es i p (sym index))

  pub not_removed : (es : List (K × V)) → None ≡ position t (keys_of es) → es ≡ swap_remove_entry t es
  not_removed es index = sym (swap_remove_entry-missing t es (sym index))

-- a write of the value at i
pub set-set_value_at : {K V : Type 0} (es : List (K × V)) (i : ℕ) (d : K × V) (w : V) → slice_set es i ((get_or es i d).0, w) ≡ set_value_at es i w
set-set_value_at [] i d w = refl
set-set_value_at (e ∷ es) zero d w = refl
set-set_value_at (e ∷ es) (suc i) d w = ap (λ l. e ∷ l) (set-set_value_at es i d w)

module _ {K V : Type 0} (eq : K → K → Bool) (o : IsEquivalence eq) where
  -- a removal keeps the keys distinct
  pub distinct_removed : (es fs : List (K × V)) (k : K) → fs ≡ swap_remove_entry (eq k) es → IsDistinct eq (keys_of es) → IsDistinct eq (keys_of fs)
  distinct_removed es fs k after s = subst (λ l. IsDistinct eq (keys_of l)) (sym after) (by (position (eq k) (keys_of es)) refl)
    where
      by : (r : Option ℕ) → position (eq k) (keys_of es) ≡ r → IsDistinct eq (keys_of (swap_remove_entry (eq k) es))
      by None e = subst (λ l. IsDistinct eq (keys_of l)) (sym (swap_remove_entry-missing (eq k) es e)) s
      by (Some i) e =
          let f = Found-position (eq k) es i e in
          let d = first_of_list es (omega (arith, f.within)) in
          let p = get_or es i d in
          let at = slice_get-get_or es i d f.within in
          (swap_out eq o (eq k) (o.congr k) es i p e at s (swap_remove_entry (eq k) es) (swap_remove_entry-found (eq k) es i p e)).unique

  -- so does an insert
  pub distinct_inserted : (es fs : List (K × V)) (k : K) (v : V) → fs ≡ insert_entry eq es k v → IsDistinct eq (keys_of es) → IsDistinct eq (keys_of fs)
  distinct_inserted es fs k v after s = subst (λ l. IsDistinct eq (keys_of l)) (sym after) (distinct_insert eq o es k v s)

  -- a key that comes later is not among those before it
  pub new_before : (items es ds rest : List (K × V)) (k : K) (v : V) → IsDistinct eq (keys_of items) → es ++ ds ≡ items → ds ≡ (k, v) ∷ rest → lookup (eq k) es ≡ None
  new_before items es ds rest k v s whole next =
      absent_before o es rest (k, v) (subst (λ l. IsDistinct eq (keys_of l)) (sym whole ∙ ap (λ l. es ++ l) next) s)

  -- one turn of a move
  pub moved_one : (items es fs ds rest : List (K × V)) (k : K) (v : V) → IsDistinct eq (keys_of items) → es ++ ds ≡ items → ds ≡ (k, v) ∷ rest
      → fs ≡ insert_entry eq es k v → fs ++ rest ≡ items
  moved_one items es fs ds rest k v s whole next put =
      ap (λ l. l ++ rest) (put ∙ insert_new eq es k v (new_before items es ds rest k v s whole next)) ∙ append_assoc es ((k, v) ∷ []) rest
      ∙ ap (λ l. es ++ l) (sym next) ∙ whole

-- clones of the pairs are the pairs
pub pairs_same : {K V : Type 0} (C : K → K → Type 0) (D : V → V → Type 0) (es fs : List (K × V)) → ClonesAreEqual C (keys_of es) → ClonesAreEqual D (values_of es)
    → AllZip (λ p q. C p.0 q.0 × D p.1 q.1) es fs → fs ≡ es
pairs_same C D [] [] ks vs h = refl
pairs_same C D [] (f ∷ fs) ks vs h = absurd h
pairs_same C D (e ∷ es) [] ks vs h = absurd h
pairs_same C D (e ∷ es) (f ∷ fs) ks vs h =
    let key = ks e.0 f.0 (Contains-get_or (e.0 ∷ keys_of es) 0 e.0 (omega arith)) h.0.0 in
    let value = vs e.1 f.1 (Contains-get_or (e.1 ∷ values_of es) 0 e.1 (omega arith)) h.0.1 in
    let rest = pairs_same C D es fs (λ a b k. ks a b (Contains-append_right (e.0 ∷ []) (keys_of es) a k)) (λ a b k. vs a b (Contains-append_right (e.1 ∷ []) (values_of es) a k)) h.1 in
    λ i. (key i, value i) ∷ rest i

-- clones of the pairs, where the pairs are those of a list
pub list_clone_is : {K V : Type 0} (C : K → K → Type 0) (D : V → V → Type 0) (items es fs : List (K × V)) → es ≡ items
    → ClonesAreEqual C (keys_of items) → ClonesAreEqual D (values_of items) → AllZip (λ p q. C p.0 q.0 × D p.1 q.1) es fs → fs ≡ items
list_clone_is C D items es fs was ks vs h =
    pairs_same C D es fs (subst (λ l. ClonesAreEqual C (keys_of l)) (sym was) ks) (subst (λ l. ClonesAreEqual D (values_of l)) (sym was) vs) h ∙ was

-- the map with these fields
abbrev pub same_map : {K V : Type 0} → List (K × V) → Bool → InlineMap K V
same_map es b = record { entries = es; on_heap = b }

-- a map that lies where m does and has clones of its pairs is m
pub clone_is : {K V : Type 0} (C : K → K → Type 0) (D : V → V → Type 0) (m : InlineMap K V) (es fs : List (K × V)) (b : Bool) → same_map es b ≡ m
    → ClonesAreEqual C (keys_of m.entries) → ClonesAreEqual D (values_of m.entries) → AllZip (λ p q. C p.0 q.0 × D p.1 q.1) es fs
    → (fs ≡ es) × (same_map fs b ≡ m)
clone_is C D m es fs b was ks vs h =
    let back = sym (ap (λ w. w.entries) was) in
    let e = pairs_same C D es fs (subst (λ l. ClonesAreEqual C (keys_of l)) back ks) (subst (λ l. ClonesAreEqual D (values_of l)) back vs) h in
    (e, ap (λ l. same_map l b) e ∙ was)

-- what holds of the keys and of the values holds of the pairs
pub all_pairs : {K V : Type 0} (P : K → Type 0) (Q : V → Type 0) (es : List (K × V)) → All P (keys_of es) → All Q (values_of es)
    → All (λ e. P e.0 × Q e.1) es
all_pairs {K} {V} P Q es ks vs i d h =
    let key : K × V → K = λ e. e.0 in
    let value : K × V → V = λ e. e.1 in
    let keys = length-map es key in
    let values = length-map es value in (
      subst P (get_or-map key es i d d.0 h) (ks i d.0 (omega (arith, keys))),
      subst Q (get_or-map value es i d d.1 h) (vs i d.1 (omega (arith, values))),
    )

module _ {K V : Type 0} (eq : K → K → Bool) where
  -- a write of the value at a key that is there, through the slice
  pub replaced : (es ys : List (K × V)) (k : K) (v : V) (i : ℕ) → Some i ≡ position (eq k) (keys_of es) → ys ≡ set_value_at es i v
      → refill (length es) es ys ≡ insert_entry eq es k v
  replaced es ys k v i index put =
      let same : length ys ≡ length es = ap length put ∙ length-set_value_at es i v in
      items-with_items (record { items = es }) ys same ∙ put ∙ sym (insert_present eq es k v i index)

  -- the same, where n is how many there are
  pub replaced_of : (n : ℕ) (es ys : List (K × V)) (k : K) (v : V) (i : ℕ) → n ≡ length es → Some i ≡ position (eq k) (keys_of es) → ys ≡ set_value_at es i v
      → refill n es ys ≡ insert_entry eq es k v
  replaced_of n es ys k v i counted index put = ap (λ m. refill m es ys) counted ∙ replaced es ys k v i index put

  -- a new key, once the pairs lie on the heap
  pub moved_in : (n : ℕ) (m : InlineMap K V) (es fs : List (K × V)) (k : K) (v : V) → same_map es false ≡ m → is_some (lookup (eq k) es) ≡ false
      → (length es == n) ≡ true → fs ≡ insert_entry eq es k v → same_map fs true ≡ with_entry eq n m k v
  moved_in n m es fs k v was new full put =
      let flag : (false || (not (is_some (lookup (eq k) es)) && (length es == n))) ≡ true = λ i. false || (not (new i) && full i) in
      (λ i. same_map (put i) (sym flag i)) ∙ ap (λ w. with_entry eq n w k v) was

-- a loan under the name n, which ends as f of the last value
abbrev lent : {G A B C : Type 0} → G → (A → B) → (G × (A → B)) ⊎ C
lent n f = inl (n, f)

-- the same loan, under two functions that agree
pub lent_same : {G A B C : Type 0} (n : G) (f h : A → B) → ((x : A) → f x ≡ h x) → lent {C = C} n f ≡ lent {C = C} n h
lent_same n f h same = λ t. inl (n, λ x. same x t)

module _ {K V : Type 0} (es : List (K × V)) (i : ℕ) where
  -- a write of the second part of the pair at i
  pub set-part : (x : K × V) (w : V) → x ≡ get_or es i x → slice_set es i (x.0, w) ≡ set_value_at es i w
  set-part x w is = ap (λ y. slice_set es i (y.0, w)) is ∙ set-set_value_at es i x w

  -- the value at i
  pub value_at : (x : K × V) → x ≡ get_or es i x → i < length es → Some x.1 ≡ slice_get (values_of es) i
  value_at x is lt =
      ap (λ y. Some y.1) is ∙ sym (slice_get-map (λ p. p.1) es i ∙ ap (option_map (λ p. p.1)) (slice_get-get_or es i x lt))

  pub no_value_at : length es ≤ i → None ≡ slice_get (values_of es) i
  no_value_at le = sym (slice_get-map (λ p. p.1) es i ∙ ap (option_map (λ p. p.1)) (slice_get_past es i le))

module _ {K V : Type 0} (eq : K → K → Bool) (k : K) (w : V) where
  -- at a key that is there an insert only changes the value
  pub set_value-is : (es : List (K × V)) → is_some (lookup (eq k) es) ≡ true → insert_entry eq es k w ≡ set_value (eq k) es w
  set_value-is [] h = absurd (true≢false (sym h))
  set_value-is (e ∷ es) h = by (eq k e.0) refl (λ g. set_value-is es g)
    where
      by : (b : Bool) → eq k e.0 ≡ b → (is_some (lookup (eq k) es) ≡ true → insert_entry eq es k w ≡ set_value (eq k) es w)
          → insert_entry eq (e ∷ es) k w ≡ set_value (eq k) (e ∷ es) w
      by true p later = ap (λ b. cond b ((e.0, w) ∷ es) (e ∷ insert_entry eq es k w)) p ∙ sym (ap (λ b. cond b ((e.0, w) ∷ es) (e ∷ set_value (eq k) es w)) p)
      by false p later =
          let there = sym (ap (λ b. is_some (cond b (Some e.1) (lookup (eq k) es))) p) ∙ h in
          ap (λ b. cond b ((e.0, w) ∷ es) (e ∷ insert_entry eq es k w)) p ∙ ap (λ l. e ∷ l) (later there)
          ∙ sym (ap (λ b. cond b ((e.0, w) ∷ es) (e ∷ set_value (eq k) es w)) p)

  pub set_value-at : (es : List (K × V)) (i : ℕ) → Some i ≡ position (eq k) (keys_of es) → set_value_at es i w ≡ set_value (eq k) es w
  set_value-at es i index =
      sym (insert_present eq es k w i index) ∙ set_value-is es (sym (some_index (eq k) es) ∙ ap is_some (sym index))

module _ {K V S : Type 0} (eq : K → K → Bool) (o : IsEquivalence eq) where
  -- one turn of a copy into a map: the pair is new to it
  pub copied_one : (items done it rest : List (K × V)) (k : K) (v : V) (x : K) (y : V) (m n : HashMap K V S) (old : Option V)
      → IsDistinct eq (keys_of items) → done ++ it ≡ items → it ≡ (k, v) ∷ rest → IsPermutation done m.entries → IsUnique eq m
      → x ≡ k → y ≡ v → old ≡ get eq m x → PutsEntry eq m n x y old
      → ((done ++ (k, v) ∷ []) ++ rest ≡ items) × IsPermutation (done ++ (k, v) ∷ []) n.entries
  copied_one items done it rest k v x y m n old s whole next moves unique key value was put =
      let none = lookup_permutation o done m.entries moves unique (eq k) (o.congr k) ∙ new_before eq o items done it rest k v s whole next in
      let fresh : old ≡ None = was ∙ ap (λ q. lookup (eq q) m.entries) key ∙ none in
      let more : IsPermutation ((k, v) ∷ m.entries) n.entries =
      subst (λ q. IsPermutation (q ∷ m.entries) n.entries) (λ i. (key i, value i)) (subst (λ r. PutsEntry eq m n x y r) fresh put) in (
        append_assoc done ((k, v) ∷ []) rest ∙ ap (λ l. done ++ l) (sym next) ∙ whole,
        IsPermutation-push_more done m.entries n.entries (k, v) moves more,
      )

-- a pair of the list has its key among the keys, and its value among the values
module _ {K V : Type 0} (items done it rest : List (K × V)) (k : K) (v : V) (whole : done ++ it ≡ items) (next : it ≡ (k, v) ∷ rest) where
  map_mid : {Y : Type 0} (f : K × V → Y) (es : List (K × V)) → Contains (map f (es ++ (k, v) ∷ rest)) (f (k, v))
  map_mid f [] = Contains-get_or (f (k, v) ∷ map f rest) 0 (f (k, v)) (omega arith)
  map_mid f (e ∷ es) = Contains-append_right (f e ∷ []) (map f (es ++ (k, v) ∷ rest)) (f (k, v)) (map_mid f es)

  pub has_key : Contains (keys_of items) k
  has_key = subst (λ l. Contains (keys_of l) k) (ap (λ l. done ++ l) (sym next) ∙ whole) (map_mid (λ e. e.0) done)

  pub has_value : Contains (values_of items) v
  has_value = subst (λ l. Contains (values_of l) v) (ap (λ l. done ++ l) (sym next) ∙ whole) (map_mid (λ e. e.1) done)

-- a write at a key that is not there changes nothing
pub set_value-absent : {K V : Type 0} (t : K → Bool) (es : List (K × V)) (w : V) → lookup t es ≡ None → set_value t es w ≡ es
set_value-absent t [] w h = refl
set_value-absent t (e ∷ es) w h = by (t e.0) refl (λ g. set_value-absent t es w g)
  where
    by : (b : Bool) → t e.0 ≡ b → (lookup t es ≡ None → set_value t es w ≡ es) → set_value t (e ∷ es) w ≡ e ∷ es
    by true p later = absurd (true≢false (ap is_some (sym (ap (λ b. cond b (Some e.1) (lookup t es)) p) ∙ h)))
    by false p later =
        ap (λ b. cond b ((e.0, w) ∷ es) (e ∷ set_value t es w)) p
        ∙ ap (λ l. e ∷ l) (later (sym (ap (λ b. cond b (Some e.1) (lookup t es)) p) ∙ h))
