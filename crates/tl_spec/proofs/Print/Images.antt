-- An edit of pairs, of a map and of attributes is that edit of their image, where keys are compared by their images.
use Rattle.std.proofs.Common.{◌≡◌, ℕ, ◌-◌, Bool, true, false, cond, not, if◌then◌else◌, ◌||◌, ◌&&◌, ◌==◌, List, [], ◌∷◌, length, map, take, slice_set, slice_index_or, position, Option, Some, None, is_some, option_map, codes, ◌++◌, refl, sym, ap, ap₂, ◌∙◌}
use Rattle.std.specs.List.{AllByRecursion, IsDistinct, swap_remove}
use Rattle.std.specs.Option.{option_map_or}
use Rattle.std.specs.Map.{keys_of, lookup, set_value}
use Rattle.std.proofs.lemmas.List.{length-map, take-map, map-set, map-append}
use Rattle.std.proofs.Math.ListN.{get_or-map}
use Rattle.indexmap.specs.IndexMap.{insert_entry, swap_remove_entry}
use Rattle.indexmap.proofs.MapLemmas.{some_index}
use Rattle.tl_spec.specs.Tree.Inline.{InlineMap, room, with_entry, with_value, without_key, pair_image, map_image}
use Rattle.tl_spec.specs.Lex.AttributeList.{AreOthers, Attributes, AttributesOf, is_id, is_class, choose_by_key, set_at, pair_if_some, pairs_in_order, attributes_image}
use Rattle.tl_spec.specs.Edit.Attribute.{with_attribute, without_attribute, without_value}
use Rattle.tl_spec.proofs.Tree.Pairs.{position-map}

-- `swap_remove` of images
map-swap_remove : {X Y : Type 0} (f : X → Y) (xs : List X) (i : ℕ) (d : X) → map f (swap_remove xs i d) ≡ swap_remove (map f xs) i (f d)
map-swap_remove f xs i d =
    sym (take-map f (length xs - 1) (slice_set xs i (slice_index_or xs (length xs - 1) d)))
    ∙ ap (take (length xs - 1)) (map-set f xs i (slice_index_or xs (length xs - 1) d) ∙ ap (slice_set (map f xs) i) (sym (get_or-map f xs (length xs - 1) d)))
    ∙ ap (λ n. take (n - 1) (slice_set (map f xs) i (slice_index_or (map f xs) (n - 1) (f d)))) (sym (length-map xs f))

module _ {K L V W : Type 0} (f : K → L) (g : V → W) (eq : L → L → Bool) where
  abbrev same : K → K → Bool
  same x y = eq (f x) (f y)

  abbrev image : List (K × V) → List (L × W)
  image es = map (pair_image f g) es

  image-cond : (b : Bool) (es fs : List (K × V)) → image (cond b es fs) ≡ cond b (image es) (image fs)
  image-cond true es fs = refl
  image-cond false es fs = refl

  pub image-insert_entry : (es : List (K × V)) (k : K) (v : V) → image (insert_entry same es k v) ≡ insert_entry eq (image es) (f k) (g v)
  image-insert_entry [] k v = refl
  image-insert_entry (e ∷ es) k v =
      image-cond (same k e.0) ((e.0, v) ∷ es) (e ∷ insert_entry same es k v)
      ∙ ap (λ ps. cond (same k e.0) ((f e.0, g v) ∷ image es) (pair_image f g e ∷ ps)) (image-insert_entry es k v)

  image-set_value : (es : List (K × V)) (k : K) (v : V) → image (set_value (same k) es v) ≡ set_value (eq (f k)) (image es) (g v)
  image-set_value [] k v = refl
  image-set_value (e ∷ es) k v =
      image-cond (same k e.0) ((e.0, v) ∷ es) (e ∷ set_value (same k) es v)
      ∙ ap (λ ps. cond (same k e.0) ((f e.0, g v) ∷ image es) (pair_image f g e ∷ ps)) (image-set_value es k v)

  -- a key stands at the same place
  position-image : (es : List (K × V)) (k : K) → position (eq (f k)) (keys_of (image es)) ≡ position (same k) (keys_of es)
  position-image es k =
      position-map (eq (f k)) (λ e. e.0) (image es) ∙ position-map (λ e. eq (f k) e.0) (pair_image f g) es ∙ sym (position-map (same k) (λ e. e.0) es)

  image-swap_remove_entry : (es : List (K × V)) (k : K) → image (swap_remove_entry (same k) es) ≡ swap_remove_entry (eq (f k)) (image es)
  image-swap_remove_entry [] k = refl
  image-swap_remove_entry (e ∷ es) k = by (position (same k) (keys_of (e ∷ es))) ∙ ap left (sym (position-image (e ∷ es) k))
    where
      left : Option ℕ → List (L × W)
      left r = option_map_or (λ i. swap_remove (image (e ∷ es)) i (pair_image f g e)) r (image (e ∷ es))

      by : (r : Option ℕ) → image (option_map_or (λ i. swap_remove (e ∷ es) i e) r (e ∷ es)) ≡ option_map_or (λ i. swap_remove (image (e ∷ es)) i (pair_image f g e)) r (image (e ∷ es))
      by None = refl
      by (Some i) = map-swap_remove (pair_image f g) (e ∷ es) i e

  -- a key is there, or is not
  is_some-lookup-image : (es : List (K × V)) (k : K) → is_some (lookup (eq (f k)) (image es)) ≡ is_some (lookup (same k) es)
  is_some-lookup-image es k = sym (some_index (eq (f k)) (image es)) ∙ ap is_some (position-image es k) ∙ some_index (same k) es

  all-keys-image : (P : L → Type 0) (es : List (K × V)) → AllByRecursion (λ k. P (f k)) (keys_of es) → AllByRecursion P (keys_of (image es))
  all-keys-image P [] h = tt
  all-keys-image P (e ∷ es) h = (h.0, all-keys-image P es h.1)

  -- distinct keys have distinct images
  pub distinct-image : (es : List (K × V)) → IsDistinct same (keys_of es) → IsDistinct eq (keys_of (image es))
  unfolding IsDistinct
  distinct-image [] h = tt
  distinct-image (e ∷ es) h = (all-keys-image (λ l. eq (f e.0) l ≡ false) es h.0, distinct-image es h.1)

  -- the same of a map

  pub image-with_entry : (n : ℕ) (m : InlineMap K V) (k : K) (v : V) → map_image f g (with_entry same n m k v) ≡ with_entry eq n (map_image f g m) (f k) (g v)
  image-with_entry n m k v =
      let there = is_some-lookup-image m.entries k in
      let count = length-map m.entries (pair_image f g) in
      λ t. record {
        entries = image-insert_entry m.entries k v t;
        on_heap = m.on_heap || (not (sym there t) && (sym count t == n));
      }

  pub image-with_value : (m : InlineMap K V) (k : K) (v : V) → map_image f g (with_value same m k v) ≡ with_value eq (map_image f g m) (f k) (g v)
  image-with_value m k v = λ t. record { entries = image-set_value m.entries k v t; on_heap = m.on_heap }

  pub image-without_key : (m : InlineMap K V) (k : K) → map_image f g (without_key same m k) ≡ without_key eq (map_image f g m) (f k)
  image-without_key m k = λ t. record { entries = image-swap_remove_entry m.entries k t; on_heap = m.on_heap }

-- what a function makes of a choice by a key
pub choose_by_key-image : {A C : Type 0} (f : A → C) (key : List ℕ) (x y z : A) → f (choose_by_key key x y z) ≡ choose_by_key key (f x) (f y) (f z)
choose_by_key-image f key x y z = by (is_id key) (is_class key)
  where
    by : (b c : Bool) → f (if b then x else if c then y else z) ≡ (if b then f x else if c then f y else f z)
    by true c = refl
    by false true = refl
    by false false = refl

pub image-set_at : {B C L M : Type 0} (f : B → C) (g : L → M) (key : List ℕ) (v : Option B) (others : L) (a : AttributesOf B L)
    → attributes_image f g (set_at key v others a) ≡ set_at key (option_map f v) (g others) (attributes_image f g a)
image-set_at f g key v others a = choose_by_key-image (attributes_image f g) key _ _ _

-- keys that are neither `id` nor `class` have such images
pub others-image : {K L V W : Type 0} (f : K → L) (g : V → W) (list : L → List ℕ) (es : List (K × V)) → AreOthers (λ k. list (f k)) es → AreOthers list (map (pair_image f g) es)
others-image f g list [] h = tt
others-image f g list (e ∷ es) h = (h.0, others-image f g list es h.1)

-- pairs in the order of the print
module _ {K L V W : Type 0} (f : K → L) (g : V → W) where
  abbrev images : List (K × Option V) → List (L × Option W)
  images es = map (pair_image f (option_map g)) es

  image-named : (key : K) (v : Option V) → images (pair_if_some key v) ≡ pair_if_some (f key) (option_map g v)
  image-named key None = refl
  image-named key (Some v) = refl

  pub image-pairs_in_order : (key : List ℕ → K) (others : List (K × Option V)) (id class : Option V)
      → images (pairs_in_order key others id class) ≡ pairs_in_order (λ bytes. f (key bytes)) (images others) (option_map g id) (option_map g class)
  image-pairs_in_order key others id class =
      map-append (pair_image f (option_map g)) (others ++ pair_if_some (key (codes "id")) id) (pair_if_some (key (codes "class")) class)
      ∙ ap₂ (λ s t. s ++ t)
      (map-append (pair_image f (option_map g)) others (pair_if_some (key (codes "id")) id) ∙ ap (λ s. images others ++ s) (image-named (key (codes "id")) id))
      (image-named (key (codes "class")) class)

-- the same of attributes
module _ {B C : Type 0} (f : B → C) (list : C → List ℕ) (eq : C → C → Bool) where
  abbrev listed : B → List ℕ
  listed b = list (f b)

  abbrev alike : B → B → Bool
  alike x y = eq (f x) (f y)

  abbrev shown : Attributes B → Attributes C
  shown a = attributes_image f (map_image f (option_map f)) a

  pub image-with_attribute : (a : Attributes B) (k : B) (v : Option B) → shown (with_attribute listed alike a k v) ≡ with_attribute list eq (shown a) (f k) (option_map f v)
  image-with_attribute a k v =
      image-set_at f (map_image f (option_map f)) (listed k) v (with_entry alike room a.others k v) a
      ∙ ap (λ m. set_at (listed k) (option_map f v) m (shown a)) (image-with_entry f (option_map f) eq room a.others k v)

  pub image-without_attribute : (a : Attributes B) (k : B) → shown (without_attribute listed alike a k) ≡ without_attribute list eq (shown a) (f k)
  image-without_attribute a k =
      image-set_at f (map_image f (option_map f)) (listed k) None (without_key alike a.others k) a
      ∙ ap (λ m. set_at (listed k) None m (shown a)) (image-without_key f (option_map f) eq a.others k)

  pub image-without_value : (a : Attributes B) (k : B) → shown (without_value listed alike a k) ≡ without_value list eq (shown a) (f k)
  image-without_value a k =
      image-set_at f (map_image f (option_map f)) (listed k) None (with_value alike a.others k None) a
      ∙ ap (λ m. set_at (listed k) None m (shown a)) (image-with_value f (option_map f) eq a.others k None)
