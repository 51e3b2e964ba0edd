-- Pairs that are put again, with other values, are in the places of the old ones.
use Rattle.std.proofs.Common.{◌≡◌, Bool, true, false, cond, not, ◌&&◌, ◌||◌, ◌==◌, if◌then◌else◌, List, [], ◌∷◌, ◌++◌, length, map, Option, Some, None, is_some, option_map, codes, refl, sym, ap, ap₂, ◌∙◌, subst, append_assoc}
use Rattle.std.specs.Prelude.{fold}
use Rattle.std.specs.List.{AllByRecursion, IsDistinct}
use Rattle.std.specs.Map.{keys_of, lookup}
use Rattle.std.proofs.lemmas.Cmp.{nat_list_eq_equiv}
use Rattle.tl_bytes.specs.Held.{Kept, as_owned}
use Rattle.tl_bytes.specs.Keys.{same_list}
use Rattle.tl_spec.specs.Lex.AttributeList.{AreOthers, Attributes, pair_if_some}
use Rattle.tl_spec.specs.Tree.Inline.{pair_image, room, with_entry}
use Rattle.tl_spec.proofs.Lex.ByKey.{choose_by_key-other}
use Rattle.tl_spec.proofs.Print.Images.{image-pairs_in_order}
use Rattle.tl_attributes.specs.Inner.Listing.{as_borrowed, listed}
use Rattle.tl_attributes.specs.AttributesView.{attributes_view, bytes_view, value_view}
use Rattle.uses.specs.Fields.{Fields, attributes_with, text_with}
use Rattle.uses.specs.Filling.{pair_with, insert_pair}

abbrev Entry : Type 0
Entry = Kept × Option Kept

-- attributes of these parts
abbrev holding : Bool → Option Kept → Option Kept → List Entry → Attributes Kept
holding heap id class entries = record { others = record { entries = entries; on_heap = heap }; id = id; class = class }

-- entries with a value at a key
abbrev inserted : List Entry → Kept → Option Kept → List Entry
inserted entries k w = (with_entry same_list room (record { entries = entries; on_heap = false }) k w).entries

same : (k : Kept) → same_list (as_owned k.list) k ≡ true
same k = nat_list_eq_equiv.refl k.list

-- a key is apart from one that stands after it
apart : (x e : Entry) (done rest : List Entry) → AllByRecursion (λ y. same_list x.0 y ≡ false) (keys_of (done ++ e ∷ rest)) → same_list (as_owned e.0.list) x.0 ≡ false
apart x e [] rest h = nat_list_eq_equiv.symm e.0.list x.0.list ∙ h.0
apart x e (y ∷ done) rest h = apart x e done rest h.1

there : (done : List Entry) (e : Entry) (rest : List Entry) → IsDistinct same_list (keys_of (done ++ e ∷ rest)) → is_some (lookup (same_list (as_owned e.0.list)) (done ++ e ∷ rest)) ≡ true
unfolding IsDistinct
there [] e rest d = ap (λ b. is_some (cond b (Some e.1) (lookup (same_list (as_owned e.0.list)) rest))) (same e.0)
there (x ∷ done) e rest d =
    ap (λ b. is_some (cond b (Some x.1) (lookup (same_list (as_owned e.0.list)) (done ++ e ∷ rest)))) (apart x e done rest d.0) ∙ there done e rest d.1

in_place : (done : List Entry) (e : Entry) (rest : List Entry) (w : Option Kept) → IsDistinct same_list (keys_of (done ++ e ∷ rest)) →
    inserted (done ++ e ∷ rest) (as_owned e.0.list) w ≡ done ++ (e.0, w) ∷ rest
unfolding IsDistinct
in_place [] e rest w d = ap (λ b. if b then (e.0, w) ∷ rest else e ∷ inserted rest (as_owned e.0.list) w) (same e.0)
in_place (x ∷ done) e rest w d =
    ap (λ b. if b then (x.0, w) ∷ (done ++ e ∷ rest) else x ∷ inserted (done ++ e ∷ rest) (as_owned e.0.list) w) (apart x e done rest d.0)
    ∙ ap (λ es. x ∷ es) (in_place done e rest w d.1)

-- keys are those of before
keys-same : (done : List Entry) (e : Entry) (rest : List Entry) (w : Option Kept) → keys_of ((done ++ (e.0, w) ∷ []) ++ rest) ≡ keys_of (done ++ e ∷ rest)
keys-same [] e rest w = refl
keys-same (x ∷ done) e rest w = ap (λ ks. x.0 ∷ ks) (keys-same done e rest w)

stays_on : (heap : Bool) (found : Bool) (full : Bool) → found ≡ true → (heap || (not found && full)) ≡ heap
stays_on true found full e = refl
stays_on false found full e = ap (λ b. not b && full) e

module _ (fields : Fields) where
  -- a value with fields, as it is held
  abbrev held_with : Kept → Kept
  held_with value = as_owned (text_with fields value.list)

  -- an entry with another value
  abbrev entry_with : Entry → Entry
  entry_with e = (e.0, option_map held_with e.1)

  abbrev owned_key : Kept → Kept
  owned_key k = as_owned k.list

  abbrev again : Entry → Entry
  again e = (as_owned e.0.list, option_map held_with e.1)

  insert_pair-one : (heap : Bool) (id class : Option Kept) (done : List Entry) (e : Entry) (rest : List Entry) → IsDistinct same_list (keys_of (done ++ e ∷ rest)) →
      AreOthers bytes_view (e ∷ rest) → insert_pair (holding heap id class (done ++ e ∷ rest)) (again e) ≡ holding heap id class (done ++ entry_with e ∷ rest)
  insert_pair-one heap id class done e rest d o =
      choose_by_key-other e.0.list _ _ _ o.0
      ∙ ap₂ (λ b es. holding b id class es)
      (stays_on heap (is_some (lookup (same_list (as_owned e.0.list)) (done ++ e ∷ rest))) (length (done ++ e ∷ rest) == room) (there done e rest d))
      (in_place done e rest (option_map held_with e.1) d)

  insert_pair-others : (heap : Bool) (id class : Option Kept) (done rest later : List Entry) → IsDistinct same_list (keys_of (done ++ rest)) → AreOthers bytes_view rest →
      fold insert_pair (holding heap id class (done ++ rest)) (map again rest ++ later) ≡ fold insert_pair (holding heap id class (done ++ map entry_with rest)) later
  insert_pair-others heap id class done [] later d o = refl
  insert_pair-others heap id class done (e ∷ rest) later d o =
      let one = insert_pair-one heap id class done e rest d o in
      let before : List Entry = done ++ entry_with e ∷ [] in
      ap (λ a. fold insert_pair a (map again rest ++ later)) (one ∙ ap (holding heap id class) (sym (append_assoc done (entry_with e ∷ []) rest)))
      ∙ insert_pair-others heap id class before rest later (subst (IsDistinct same_list) (sym (keys-same done e rest (option_map held_with e.1))) d) o.1
      ∙ ap (λ es. fold insert_pair (holding heap id class es) later) (append_assoc done (entry_with e ∷ []) (map entry_with rest))

  insert_pair-named : (heap : Bool) (es : List Entry) (id class : Option Kept) →
      fold insert_pair (holding heap id class es) (pair_if_some (as_owned (codes "id")) (option_map held_with id) ++ pair_if_some (as_owned (codes "class")) (option_map held_with class))
      ≡ holding heap (option_map held_with id) (option_map held_with class) es
  insert_pair-named heap es None None = refl
  insert_pair-named heap es None (Some c) = refl
  insert_pair-named heap es (Some i) None = refl
  insert_pair-named heap es (Some i) (Some c) = refl

  -- of the entries as they are read
  read-again : (es : List Entry) → map (pair_image owned_key (option_map held_with)) (map (λ e. (as_borrowed e.0.list, e.1)) es) ≡ map again es
  read-again [] = refl
  read-again (e ∷ es) = ap (λ l. again e ∷ l) (read-again es)

  shown-entries : (es : List Entry) → map (pair_image bytes_view value_view) (map entry_with es)
      ≡ map (pair_image (λ key. key) (option_map (text_with fields))) (map (pair_image bytes_view value_view) es)
  shown-entries [] = refl
  shown-entries ((k, None) ∷ es) = ap (λ l. (k.list, None) ∷ l) (shown-entries es)
  shown-entries ((k, Some v) ∷ es) = ap (λ l. (k.list, Some (text_with fields v.list)) ∷ l) (shown-entries es)

  shown-one : (v : Option Kept) → value_view (option_map held_with v) ≡ option_map (text_with fields) (value_view v)
  shown-one None = refl
  shown-one (Some v) = refl

  shown-all : (heap : Bool) (id class : Option Kept) (es : List Entry) →
      attributes_view (holding heap (option_map held_with id) (option_map held_with class) (map entry_with es)) ≡ attributes_with fields (attributes_view (holding heap id class es))
  shown-all heap id class es =
      λ i. record {
        others = record { entries = shown-entries es i; on_heap = heap };
        id = shown-one id i;
        class = shown-one class i;
      }

  -- all pairs of a tag put again, with fields in their values
  pub insert_pair-all : (a : Attributes Kept) → IsDistinct same_list (keys_of a.others.entries) → AreOthers bytes_view a.others.entries →
      attributes_view (fold insert_pair a (map (pair_with fields) (listed bytes_view a))) ≡ attributes_with fields (attributes_view a)
  insert_pair-all a d o =
      let es = a.others.entries in
      let ids = pair_if_some (as_owned (codes "id")) (option_map held_with a.id) in
      let classes = pair_if_some (as_owned (codes "class")) (option_map held_with a.class) in
      let listed_again : map (pair_with fields) (listed bytes_view a) ≡ map again es ++ (ids ++ classes) =
      image-pairs_in_order owned_key held_with as_borrowed (map (λ e. (as_borrowed e.0.list, e.1)) es) a.id a.class
      ∙ ap (λ l. (l ++ ids) ++ classes) (read-again es)
      ∙ append_assoc (map again es) ids classes in
      ap attributes_view (ap (fold insert_pair a) listed_again
      ∙ insert_pair-others a.others.on_heap a.id a.class [] es (ids ++ classes) d o
      ∙ insert_pair-named a.others.on_heap (map entry_with es) a.id a.class)
      ∙ shown-all a.others.on_heap a.id a.class es
