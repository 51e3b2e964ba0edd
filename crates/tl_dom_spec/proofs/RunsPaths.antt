-- Texts that are put in one after the other at a place: as one text, and what a path is asked stays as it is.
use Rattle.std.proofs.Common.{◌≡◌, ℕ, ◌==◌, Bool, true, false, List, [], ◌∷◌, ◌++◌, map, refl, ap, sym, inl, inr, ◌∙◌, if◌then◌else◌, append_assoc}
use Rattle.std.specs.Prelude.{Option, Some, None, codes}
use Rattle.std.proofs.lemmas.Bool.{cases_Bool}
use Rattle.tl_dom_spec.specs.Tags.{Tag, is_any}
use Rattle.tl_dom_spec.specs.Marks.{marked}
use Rattle.tl_dom_spec.specs.Path.{Frame, Nodes, Path, Place, and_comment, and_doctype, and_element, and_text, at_head, behind, caught_up, elements, foster_place, has_number, here, into, into_head, is_open_number, joined, no_frame, no_nodes, on_top, place_in, place_of, put, top, with_nodes, with_text, with_waiting, within}
use Rattle.tl_dom_spec.specs.Builder.{adjusted_tag, is_only}

-- Two texts at a place

with_texts : (nodes : Nodes) (n : ℕ) (xs ys : List ℕ) → with_text (with_text nodes (marked n xs)) (marked n ys) ≡ with_text nodes (marked n (xs ++ ys))
with_texts no_nodes n xs ys = refl
with_texts (and_text nodes own) n xs ys = ap (λ zs. and_text nodes (record own { said = zs })) (append_assoc own.said xs ys)
with_texts (and_comment nodes bytes) n xs ys = refl
with_texts (and_doctype nodes own) n xs ys = refl
with_texts (and_element nodes tag children) n xs ys = refl

at_heads : (nodes : Nodes) (k : ℕ) (xs ys : List ℕ) →
    at_head (at_head nodes (and_text no_nodes (marked k xs))) (and_text no_nodes (marked k ys)) ≡ at_head nodes (and_text no_nodes (marked k (xs ++ ys)))
at_heads no_nodes k xs ys = refl
at_heads (and_text nodes bytes) k xs ys = ap (λ n. and_text n bytes) (at_heads nodes k xs ys)
at_heads (and_comment nodes bytes) k xs ys = ap (λ n. and_comment n bytes) (at_heads nodes k xs ys)
at_heads (and_doctype nodes own) k xs ys = ap (λ n. and_doctype n own) (at_heads nodes k xs ys)
at_heads (and_element nodes tag children) k xs ys = elim (cases_Bool (is_any (codes "head") tag)) [
  | inl y ↦ rw y (rw y (ap (λ n. and_element nodes tag n) (with_texts children k xs ys)))
  | inr n ↦ rw n (rw n (ap (λ m. and_element m tag children) (at_heads nodes k xs ys)))
]

map_twice : (f g h : Frame → Frame) → ((x : Frame) → g (f x) ≡ h x) → (path : Path) → map g (map f path) ≡ map h path
map_twice f g h e [] = refl
map_twice f g h e (x ∷ path) = rw (e x, map_twice f g h e path) refl

abbrev at : ℕ → (Frame → Frame) → Frame → Frame
at k change f = if f.number == k then change f else f

at_twice : (k : ℕ) (c d e : Frame → Frame) (f : Frame) → (c f).number ≡ f.number → d (c f) ≡ e f → at k d (at k c f) ≡ at k e f
at_twice k c d e f n s = elim (cases_Bool (f.number == k)) [
  | inl y ↦ (let z : ((c f).number == k) ≡ true = ap (λ m. m == k) n ∙ y in rw (y, z) s)
  | inr z ↦ rw (z, z) refl
]

pub put_texts : (place : Place) (n : ℕ) (xs ys : List ℕ) (path : Path) →
    put place (and_text no_nodes (marked n ys)) (put place (and_text no_nodes (marked n xs)) path) ≡ put place (and_text no_nodes (marked n (xs ++ ys))) path
put_texts here n xs ys [] = refl
put_texts here n xs ys (f ∷ path) =
    ap (λ (x : Nodes). record f { children = x; waiting = no_nodes } ∷ path) (with_texts (joined f.children f.waiting) n xs ys)
put_texts (into k) n xs ys path =
    map_twice _ _ _ (λ f. at_twice k (with_nodes (and_text no_nodes (marked n xs))) (with_nodes (and_text no_nodes (marked n ys))) (with_nodes (and_text no_nodes (marked n (xs ++ ys)))) f refl
    (ap (λ (x : Nodes). record f { children = x }) (with_texts f.children n xs ys))) path
put_texts (behind k) n xs ys path =
    map_twice _ _ _ (λ f. at_twice k (with_waiting (and_text no_nodes (marked n xs))) (with_waiting (and_text no_nodes (marked n ys))) (with_waiting (and_text no_nodes (marked n (xs ++ ys)))) f refl
    (ap (λ (x : Nodes). record f { waiting = x }) (with_texts f.waiting n xs ys))) path
put_texts into_head n xs ys [] = refl
put_texts into_head n xs ys (f ∷ path) =
    ap (λ (x : Nodes). record f { children = x } ∷ path) (at_heads f.children n xs ys)

-- What is in frames is no matter

abbrev pub shape : Frame → Frame
shape f = record f { children = no_nodes; waiting = no_nodes }

map_shape : (change : Frame → Frame) → ((f : Frame) → shape (change f) ≡ shape f) → (path : Path) → map shape (map change path) ≡ map shape path
map_shape change e [] = refl
map_shape change e (f ∷ path) = rw (e f, map_shape change e path) refl

at_shape : (k : ℕ) (change : Frame → Frame) (f : Frame) → shape (change f) ≡ shape f → shape (at k change f) ≡ shape f
at_shape k change f e = elim (cases_Bool (f.number == k)) [
  | inl y ↦ rw y e
  | inr n ↦ rw n refl
]

top_shape : (change : Frame → Frame) → ((f : Frame) → shape (change f) ≡ shape f) → (path : Path) → map shape (on_top change path) ≡ map shape path
top_shape change e [] = refl
top_shape change e (f ∷ path) = ap (λ x. x ∷ map shape path) (e f)

pub put_shape : (place : Place) (nodes : Nodes) (path : Path) → map shape (put place nodes path) ≡ map shape path
put_shape here nodes path = top_shape (λ (f : Frame). with_nodes nodes (caught_up f)) (λ f. refl) path
put_shape (into k) nodes path = map_shape (at k (with_nodes nodes)) (λ f. at_shape k (with_nodes nodes) f refl) path
put_shape (behind k) nodes path = map_shape (at k (with_waiting nodes)) (λ f. at_shape k (with_waiting nodes) f refl) path
put_shape into_head nodes path = top_shape (λ (f : Frame). record f { children = at_head f.children nodes }) (λ f. refl) path

-- what a path is asked

kept_shape : (v : Bool) (f : Frame) (fs gs : List Frame) → fs ≡ map shape gs →
    (if v then shape f ∷ fs else fs) ≡ map shape (if v then f ∷ gs else gs)
kept_shape true f fs gs e = ap (λ hs. shape f ∷ hs) e
kept_shape false f fs gs e = e

elements_shape : (path : Path) → elements (map shape path) ≡ map shape (elements path)
elements_shape [] = refl
elements_shape (f ∷ path) = kept_shape f.is_open f (elements (map shape path)) (elements path) (elements_shape path)

only_shape : (fs : List Frame) → is_only (map shape fs) ≡ is_only fs
only_shape [] = refl
only_shape (f ∷ []) = refl
only_shape (f ∷ g ∷ fs) = refl

within_shape : (k : ℕ) (fs : List Frame) → within (has_number k) no_frame (map shape fs) ≡ within (has_number k) no_frame fs
within_shape k [] = refl
within_shape k (f ∷ fs) = rw (within_shape k fs) refl

tag_shape : (path : Path) → (top (map shape path)).tag ≡ (top path).tag
tag_shape [] = refl
tag_shape (f ∷ path) = refl

number_shape : (place : Place) (path : Path) → place_of place (map shape path) ≡ place_of place path
number_shape here [] = refl
number_shape here (f ∷ path) = refl
number_shape (into k) path = refl
number_shape (behind k) path = refl
number_shape into_head path = refl

foster_shape : (path : Path) → foster_place (map shape path) ≡ foster_place path
foster_shape [] = refl
foster_shape (f ∷ path) = rw (number_shape f.place path, foster_shape path) refl

pub top_tag_same : (place : Place) (nodes : Nodes) (path : Path) → (top (put place nodes path)).tag ≡ (top path).tag
top_tag_same place nodes path = sym (tag_shape (put place nodes path)) ∙ ap (λ p. (top p).tag) (put_shape place nodes path) ∙ tag_shape path

pub open_same : (k : ℕ) (place : Place) (nodes : Nodes) (path : Path) → is_open_number k (put place nodes path) ≡ is_open_number k path
open_same k place nodes path = sym (asked (put place nodes path)) ∙ ap (is_open_number k) (put_shape place nodes path) ∙ asked path
  where
    asked : (p : Path) → is_open_number k (map shape p) ≡ is_open_number k p
    asked p = ap (within (has_number k) no_frame) (elements_shape p) ∙ within_shape k (elements p)

pub place_same : (v : Bool) (place : Place) (nodes : Nodes) (path : Path) → place_in v (put place nodes path) ≡ place_in v path
place_same v place nodes path = sym (asked (put place nodes path)) ∙ ap (place_in v) (put_shape place nodes path) ∙ asked path
  where
    asked : (p : Path) → place_in v (map shape p) ≡ place_in v p
    asked p = rw (tag_shape p, foster_shape p) refl

pub adjusted_same : (context : Option Tag) (place : Place) (nodes : Nodes) (path : Path) → adjusted_tag context (put place nodes path) ≡ adjusted_tag context path
adjusted_same context place nodes path = sym (asked context (put place nodes path)) ∙ ap (adjusted_tag context) (put_shape place nodes path) ∙ asked context path
  where
    asked : (c : Option Tag) (p : Path) → adjusted_tag c (map shape p) ≡ adjusted_tag c p
    asked None p = tag_shape p
    asked (Some tag) p = rw (elements_shape p, only_shape (elements p), tag_shape p) refl
