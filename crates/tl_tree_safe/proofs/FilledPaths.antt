-- What is done to a path whose nodes are changed all alike: it is done to the path, and then they are changed.
use Rattle.std.proofs.Common.{Bool, List, None, Option, Some, [], ap, ap₂, false, if◌then◌else◌, map, not, refl, suc, true, ℕ, ◌&&◌, ◌++◌, ◌==◌, ◌||◌, ◌∙◌, ◌∷◌, ◌≡◌}
use Rattle.std.specs.Prelude.{nat_lt, option_map}
use Rattle.tl_html_spec.specs.Doctypes.{Doctype}
use Rattle.tl_dom_spec.specs.Adoption as A
use Rattle.tl_dom_spec.specs.Body as D
use Rattle.tl_dom_spec.specs.Builder as B
use Rattle.tl_dom_spec.specs.Marks.{Marked}
use Rattle.tl_dom_spec.specs.Path as W
use Rattle.tl_dom_spec.specs.Reset as E
use Rattle.tl_dom_spec.specs.Formatting.{is_listed, relisted, unlisted}
use Rattle.tl_dom_spec.specs.Tags.{Tag, is_foster_target, is_table, is_template}

-- a change of nodes that goes along with what rules do to them
pub record Fills (h : W.Nodes → W.Nodes) : Type 0 where
  pub none : h W.no_nodes ≡ W.no_nodes
  pub joins : (x y : W.Nodes) → h (W.joined x y) ≡ W.joined (h x) (h y)
  pub element : (t : Tag) (x : W.Nodes) → h (W.and_element W.no_nodes t x) ≡ W.and_element W.no_nodes t (h x)
  pub text : (own : Marked (List ℕ)) → h (W.and_text W.no_nodes own) ≡ W.and_text W.no_nodes own
  pub doctype : (own : Marked Doctype) → h (W.and_doctype W.no_nodes own) ≡ W.and_doctype W.no_nodes own
  pub head : (x y : W.Nodes) → h (W.at_head x y) ≡ W.at_head (h x) (h y)

module _ (h : W.Nodes → W.Nodes) (F : Fills h) where
  abbrev pub mf : W.Frame → W.Frame
  mf f = record f { children = h f.children; waiting = h f.waiting }

  abbrev pub mp : W.Path → W.Path
  mp path = map mf path

  with_nodes-m : (nodes : W.Nodes) (f : W.Frame) → mf (W.with_nodes nodes f) ≡ W.with_nodes (h nodes) (mf f)
  with_nodes-m nodes f = ap (λ x. record (mf f) { children = x }) (F.joins f.children nodes)

  with_waiting-m : (nodes : W.Nodes) (f : W.Frame) → mf (W.with_waiting nodes f) ≡ W.with_waiting (h nodes) (mf f)
  with_waiting-m nodes f = ap (λ x. record (mf f) { waiting = x }) (F.joins f.waiting nodes)

  pub caught_up-m : (f : W.Frame) → mf (W.caught_up f) ≡ W.caught_up (mf f)
  caught_up-m f = ap₂ (λ x y. record f { children = x; waiting = y }) (F.joins f.children f.waiting) F.none

  pub on_top-m : (change changed : W.Frame → W.Frame) → ((f : W.Frame) → mf (change f) ≡ changed (mf f)) → (path : W.Path) → mp (W.on_top change path) ≡ W.on_top changed (mp path)
  on_top-m change changed e [] = refl
  on_top-m change changed e (f ∷ path) = ap (λ x. x ∷ mp path) (e f)

  either-frame : (v : Bool) (x y : W.Frame) → mf (if v then x else y) ≡ (if v then mf x else mf y)
  either-frame true x y = refl
  either-frame false x y = refl

  pub at_number-m : (k : ℕ) (change changed : W.Frame → W.Frame) → ((f : W.Frame) → mf (change f) ≡ changed (mf f)) → (path : W.Path) → mp (W.at_number k change path) ≡ W.at_number k changed (mp path)
  at_number-m k change changed e [] = refl
  at_number-m k change changed e (f ∷ path) =
      ap₂ (λ x fs. x ∷ fs)
      (either-frame (f.number == k) (change f) f ∙ ap (λ (x : W.Frame). if f.number == k then x else mf f) (e f))
      (at_number-m k change changed e path)

  pub put-m : (place : W.Place) (nodes : W.Nodes) (path : W.Path) → mp (W.put place nodes path) ≡ W.put place (h nodes) (mp path)
  put-m W.here nodes path =
      on_top-m (λ (f : W.Frame). W.with_nodes nodes (W.caught_up f)) (λ (f : W.Frame). W.with_nodes (h nodes) (W.caught_up f))
      (λ f. with_nodes-m nodes (W.caught_up f) ∙ ap (W.with_nodes (h nodes)) (caught_up-m f)) path
  put-m (W.into k) nodes path = at_number-m k (W.with_nodes nodes) (W.with_nodes (h nodes)) (with_nodes-m nodes) path
  put-m (W.behind k) nodes path = at_number-m k (W.with_waiting nodes) (W.with_waiting (h nodes)) (with_waiting-m nodes) path
  put-m W.into_head nodes path =
      on_top-m (λ (f : W.Frame). record f { children = W.at_head f.children nodes }) (λ (f : W.Frame). record f { children = W.at_head f.children (h nodes) })
      (λ f. ap (λ x. record (mf f) { children = x }) (F.head f.children nodes)) path

  settled_at-m : (place : W.Place) (nodes : W.Nodes) (path : W.Path) → mp (W.settled_at place nodes path) ≡ W.settled_at place (h nodes) (mp path)
  settled_at-m W.here nodes path =
      on_top-m (λ (f : W.Frame). W.caught_up (W.with_nodes nodes f)) (λ (f : W.Frame). W.caught_up (W.with_nodes (h nodes) f))
      (λ f. caught_up-m (W.with_nodes nodes f) ∙ ap W.caught_up (with_nodes-m nodes f)) path
  settled_at-m (W.into k) nodes path = put-m (W.into k) nodes path
  settled_at-m (W.behind k) nodes path = put-m (W.behind k) nodes path
  settled_at-m W.into_head nodes path = put-m W.into_head nodes path

  pub node_of-m : (f : W.Frame) → h (W.node_of f) ≡ W.node_of (mf f)
  node_of-m f = F.element f.tag (W.joined f.children f.waiting) ∙ ap (W.and_element W.no_nodes f.tag) (F.joins f.children f.waiting)

  top_settled-m : (path : W.Path) → mp (W.top_settled path) ≡ W.top_settled (mp path)
  top_settled-m [] = refl
  top_settled-m (f ∷ []) = refl
  top_settled-m (f ∷ g ∷ path) = settled_at-m f.place (W.node_of f) (g ∷ path) ∙ ap (λ x. W.settled_at f.place x (mp (g ∷ path))) (node_of-m f)

  -- a test that doesn't look at nodes
  abbrev pub Blind : (W.Frame → Bool) → Type 0
  Blind test = (f : W.Frame) → test f ≡ test (mf f)

  module _ (test : W.Frame → Bool) (same : Blind test) where
    abbrev next : Bool → W.Path → W.Frame → W.Path → W.Path
    next v count top path = elim v as (λ _. W.Path) [
      | true ↦ W.settled_while test count (W.top_settled (top ∷ path))
      | false ↦ top ∷ path
    ]

    either-next : (v : Bool) (count : W.Path) (top : W.Frame) (path : W.Path) →
        mp (W.settled_while test count (W.top_settled (top ∷ path))) ≡ W.settled_while test (mp count) (mp (W.top_settled (top ∷ path))) →
        mp (next v count top path) ≡ next v (mp count) (mf top) (mp path)
    either-next true count top path e = e ∙ ap (W.settled_while test (mp count)) (top_settled-m (top ∷ path))
    either-next false count top path e = refl

    pub settled_while-m : (count path : W.Path) → mp (W.settled_while test count path) ≡ W.settled_while test (mp count) (mp path)
    settled_while-m [] path = refl
    settled_while-m (f ∷ count) [] = refl
    settled_while-m (f ∷ count) (top ∷ path) =
        either-next (not top.is_open || test top) count top path (settled_while-m count (W.top_settled (top ∷ path)))
        ∙ ap (λ v. next (not top.is_open || v) (mp count) (mf top) (mp path)) (same top)

    pub popped_while-m : (path : W.Path) → mp (W.popped_while test path) ≡ W.popped_while test (mp path)
    popped_while-m path = settled_while-m path path

  pub settled-m : (path : W.Path) → mp (W.settled path) ≡ W.settled (mp path)
  settled-m path = popped_while-m W.no_frame (λ _. refl) path

  pub popped-m : (path : W.Path) → mp (W.popped path) ≡ W.popped (mp path)
  popped-m path = settled-m (W.top_settled path) ∙ ap W.settled (top_settled-m path)

  pub popped_to-m : (test : W.Frame → Bool) → Blind test → (path : W.Path) → mp (W.popped_to test path) ≡ W.popped_to test (mp path)
  popped_to-m test same path = popped_while-m (λ (f : W.Frame). not (test f)) (λ f. ap not (same f)) path

  pub popped_through-m : (test : W.Frame → Bool) → Blind test → (path : W.Path) → mp (W.popped_through test path) ≡ W.popped_through test (mp path)
  popped_through-m test same path = popped-m (W.popped_to test path) ∙ ap W.popped (popped_to-m test same path)

  pub taken_out-m : (k : ℕ) (path : W.Path) → mp (W.taken_out k path) ≡ W.taken_out k (mp path)
  taken_out-m k path =
      let shut : W.Frame → W.Frame = λ (f : W.Frame). record f { is_open = false } in
      settled-m (W.at_number k shut path) ∙ ap W.settled (at_number-m k shut shut (λ _. refl) path)

  -- What is asked

  pub elements-m : (path : W.Path) → mp (W.elements path) ≡ W.elements (mp path)
  elements-m [] = refl
  elements-m (f ∷ path) = by_open f.is_open (elements-m path)
    where
      by_open : (v : Bool) → mp (W.elements path) ≡ W.elements (mp path) → mp (if v then f ∷ W.elements path else W.elements path) ≡ (if v then mf f ∷ W.elements (mp path) else W.elements (mp path))
      by_open true e = ap (λ fs. mf f ∷ fs) e
      by_open false e = e

  within-m : (test stops : W.Frame → Bool) → Blind test → Blind stops → (fs : List W.Frame) → W.within test stops fs ≡ W.within test stops (mp fs)
  within-m test stops e g [] = refl
  within-m test stops e g (f ∷ fs) =
      ap₂ (λ (x y : Bool). x || (not y && W.within test stops fs)) (e f) (g f)
      ∙ ap (λ v. test (mf f) || (not (stops (mf f)) && v)) (within-m test stops e g fs)

  pub open-m : (test stops : W.Frame → Bool) → Blind test → Blind stops → (path : W.Path) → W.within test stops (W.elements path) ≡ W.within test stops (W.elements (mp path))
  open-m test stops e g path = within-m test stops e g (W.elements path) ∙ ap (W.within test stops) (elements-m path)

  pub has_within-m : (test stops : Tag → Bool) (path : W.Path) → W.has_within test stops path ≡ W.has_within test stops (mp path)
  has_within-m test stops path = open-m (W.has_tag test) (W.has_tag stops) (λ _. refl) (λ _. refl) path

  pub has_open-m : (test : Tag → Bool) (path : W.Path) → W.has_open test path ≡ W.has_open test (mp path)
  has_open-m test path = open-m (W.has_tag test) W.no_frame (λ _. refl) (λ _. refl) path

  pub is_open_number-m : (k : ℕ) (path : W.Path) → W.is_open_number k path ≡ W.is_open_number k (mp path)
  is_open_number-m k path = open-m (W.has_number k) W.no_frame (λ _. refl) (λ _. refl) path

  -- the tag and the number on top
  pub top_tag-m : (path : W.Path) → (W.top path).tag ≡ (W.top (mp path)).tag
  top_tag-m [] = refl
  top_tag-m (f ∷ path) = refl

  pub top_number-m : (path : W.Path) → (W.top path).number ≡ (W.top (mp path)).number
  top_number-m [] = refl
  top_number-m (f ∷ path) = refl

  pub is_only-m : (fs : List W.Frame) → B.is_only fs ≡ B.is_only (mp fs)
  is_only-m [] = refl
  is_only-m (f ∷ []) = refl
  is_only-m (f ∷ g ∷ fs) = refl

  pub adjusted_tag-m : (context : Option Tag) (path : W.Path) → B.adjusted_tag context path ≡ B.adjusted_tag context (mp path)
  adjusted_tag-m None path = top_tag-m path
  adjusted_tag-m (Some tag) path =
      ap₂ (λ (v : Bool) (t : Tag). if v then tag else t) (is_only-m (W.elements path) ∙ ap B.is_only (elements-m path)) (top_tag-m path)

  pub earlier-m : (test bounds : Tag → Bool) (fs : List W.Frame) → D.earlier_item test bounds fs ≡ D.earlier_item test bounds (mp fs)
  earlier-m test bounds [] = refl
  earlier-m test bounds (f ∷ fs) = ap (λ o. if test f.tag then Some f.tag else if bounds f.tag then None else o) (earlier-m test bounds fs)

  pub mode_of-m : (b : B.Builder) (fs : List W.Frame) → E.mode_of b fs ≡ E.mode_of b (mp fs)
  mode_of-m b [] = refl
  mode_of-m b (f ∷ []) = refl
  mode_of-m b (f ∷ g ∷ fs) = ap (E.or_mode (E.tag_mode b false f.tag)) (mode_of-m b (g ∷ fs))

  place_of-m : (place : W.Place) (path : W.Path) → W.place_of place path ≡ W.place_of place (mp path)
  place_of-m W.here path = ap W.into (top_number-m path)
  place_of-m (W.into k) path = refl
  place_of-m (W.behind k) path = refl
  place_of-m W.into_head path = refl

  foster_place-m : (path : W.Path) → W.foster_place path ≡ W.foster_place (mp path)
  foster_place-m [] = refl
  foster_place-m (f ∷ path) =
      ap₂ (λ (x y : W.Place). if f.is_open && is_template f.tag then W.behind f.number else if f.is_open && is_table f.tag then x else y)
      (place_of-m f.place path) (foster_place-m path)

  pub place_in-m : (v : Bool) (path : W.Path) → W.place_in v path ≡ W.place_in v (mp path)
  place_in-m v path =
      ap₂ (λ (t : Tag) (x : W.Place). if v && is_foster_target t then x else W.here) (top_tag-m path) (foster_place-m path)

  pub pushed_at-m : (place : W.Place) (f : W.Frame) (path : W.Path) → mp (B.pushed_at place f path) ≡ B.pushed_at place (mf f) (mp path)
  pushed_at-m W.here f path = ap (λ fs. mf f ∷ fs) (on_top-m W.caught_up W.caught_up caught_up-m path)
  pushed_at-m (W.into k) f path = refl
  pushed_at-m (W.behind k) f path = refl
  pushed_at-m W.into_head f path = refl

  pub new_frame-m : (n : ℕ) (t : Tag) (place : W.Place) → mf (W.new_frame n t place) ≡ W.new_frame n t place
  new_frame-m n t place = ap (λ x. record (W.new_frame n t place) { children = x; waiting = x }) F.none

  pub from_html-m : (path : W.Path) → mp (D.from_html path) ≡ D.from_html (mp path)
  from_html-m [] = refl
  from_html-m (f ∷ []) = refl
  from_html-m (f ∷ g ∷ path) = either (f.number == 1) ∙ ap (λ fs. if f.number == 1 then mp (f ∷ g ∷ path) else fs) (from_html-m (g ∷ path))
    where
      either : (v : Bool) → mp (if v then f ∷ g ∷ path else D.from_html (g ∷ path)) ≡ (if v then mp (f ∷ g ∷ path) else mp (D.from_html (g ∷ path)))
      either true = refl
      either false = refl

  pub body_number-m : (fs : List W.Frame) → D.body_number fs ≡ D.body_number (mp fs)
  body_number-m [] = refl
  body_number-m (f ∷ []) = refl
  body_number-m (f ∷ g ∷ []) = refl
  body_number-m (f ∷ g ∷ i ∷ fs) = body_number-m (g ∷ i ∷ fs)

  -- The adoption agency

  pub append-m : (xs ys : W.Path) → mp (xs ++ ys) ≡ mp xs ++ mp ys
  append-m [] ys = refl
  append-m (x ∷ xs) ys = ap (λ fs. mf x ∷ fs) (append-m xs ys)

  pub inside_of-m : (k : ℕ) (path : W.Path) → mp (A.inside_of k path) ≡ A.inside_of k (mp path)
  inside_of-m k [] = refl
  inside_of-m k (f ∷ path) = either (f.number == k) ∙ ap (λ fs. if f.number == k then [] else mf f ∷ fs) (inside_of-m k path)
    where
      either : (v : Bool) → mp (if v then [] else f ∷ A.inside_of k path) ≡ (if v then [] else mf f ∷ mp (A.inside_of k path))
      either true = refl
      either false = refl

  pub outside_of-m : (k : ℕ) (path : W.Path) → mp (A.outside_of k path) ≡ A.outside_of k (mp path)
  outside_of-m k [] = refl
  outside_of-m k (f ∷ path) = either (f.number == k) ∙ ap (λ fs. if f.number == k then mp path else fs) (outside_of-m k path)
    where
      either : (v : Bool) → mp (if v then path else A.outside_of k path) ≡ (if v then mp path else mp (A.outside_of k path))
      either true = refl
      either false = refl

  pub outermost-m : (test : Tag → Bool) (k : ℕ) (found : Option W.Frame) (fs : List W.Frame) → option_map mf (A.outermost test k found fs) ≡ A.outermost test k (option_map mf found) (mp fs)
  outermost-m test k found [] = refl
  outermost-m test k found (f ∷ fs) =
      by_number (f.number == k)
      ∙ ap (λ o. if f.number == k then option_map mf found else o)
      (outermost-m test k (if test f.tag then Some f else found) fs ∙ ap (λ (o : Option W.Frame). A.outermost test k o (mp fs)) (chosen (test f.tag)))
    where
      chosen : (v : Bool) → option_map mf (if v then Some f else found) ≡ (if v then Some (mf f) else option_map mf found)
      chosen true = refl
      chosen false = refl

      by_number : (v : Bool) → option_map mf (if v then found else A.outermost test k (if test f.tag then Some f else found) fs) ≡ (if v then option_map mf found else option_map mf (A.outermost test k (if test f.tag then Some f else found) fs))
      by_number true = refl
      by_number false = refl

  pub moved_into-m : (block new : ℕ) (path : W.Path) → mp (A.moved_into block new path) ≡ A.moved_into block new (mp path)
  moved_into-m block new [] = refl
  moved_into-m block new (f ∷ path) = ap (λ fs. record (mf f) { place = A.moved_place block new f.place } ∷ fs) (moved_into-m block new path)

  pub outermost_at-m : (place : W.Place) (path : W.Path) → mp (A.outermost_at place path) ≡ A.outermost_at place (mp path)
  outermost_at-m place [] = refl
  outermost_at-m place (f ∷ []) = refl
  outermost_at-m place (f ∷ g ∷ path) = ap (λ fs. mf f ∷ fs) (outermost_at-m place (g ∷ path))

  -- clones have nothing in them
  pub cloned-m : (count : ℕ) (fs : List W.Frame) (entries : List B.Entry) (next : ℕ) → A.cloned count fs entries next ≡ A.cloned count (mp fs) entries next
  cloned-m count [] entries next = refl
  cloned-m count (f ∷ fs) entries next = by_listed (λ es n. cloned-m (suc count) fs es n) (is_listed f.number entries) (nat_lt 2 count)
    where
      by_listed : ((es : List B.Entry) (n : ℕ) → A.cloned (suc count) fs es n ≡ A.cloned (suc count) (mp fs) es n) → (v w : Bool) →
          elim v as (λ _. A.Clones) [
            | false ↦ A.cloned (suc count) fs entries next
            | true ↦ elim w as (λ _. A.Clones) [
              | true ↦ A.cloned (suc count) fs (unlisted f.number entries) next
              | false ↦ (let r = A.cloned (suc count) fs (relisted f.number next entries) (suc next) in
                  record r { frames = W.new_frame next f.tag W.here ∷ r.frames })
            ]
          ]
          ≡ elim v as (λ _. A.Clones) [
            | false ↦ A.cloned (suc count) (mp fs) entries next
            | true ↦ elim w as (λ _. A.Clones) [
              | true ↦ A.cloned (suc count) (mp fs) (unlisted f.number entries) next
              | false ↦ (let r = A.cloned (suc count) (mp fs) (relisted f.number next entries) (suc next) in
                  record r { frames = W.new_frame next f.tag W.here ∷ r.frames })
            ]
          ]
      by_listed rec false w = rec entries next
      by_listed rec true true = rec (unlisted f.number entries) next
      by_listed rec true false =
          ap (λ (r : A.Clones). record r { frames = W.new_frame next f.tag W.here ∷ r.frames }) (rec (relisted f.number next entries) (suc next))

  -- the frames of clones as they are
  pub clones-m : (count : ℕ) (fs : List W.Frame) (entries : List B.Entry) (next : ℕ) → mp (A.cloned count fs entries next).frames ≡ (A.cloned count fs entries next).frames
  clones-m count [] entries next = refl
  clones-m count (f ∷ fs) entries next = by_listed (λ es n. clones-m (suc count) fs es n) (is_listed f.number entries) (nat_lt 2 count)
    where
      by_listed : ((es : List B.Entry) (n : ℕ) → mp (A.cloned (suc count) fs es n).frames ≡ (A.cloned (suc count) fs es n).frames) → (v w : Bool) →
          let r : A.Clones = elim v as (λ _. A.Clones) [
            | false ↦ A.cloned (suc count) fs entries next
            | true ↦ elim w as (λ _. A.Clones) [
              | true ↦ A.cloned (suc count) fs (unlisted f.number entries) next
              | false ↦ (let r = A.cloned (suc count) fs (relisted f.number next entries) (suc next) in
                  record r { frames = W.new_frame next f.tag W.here ∷ r.frames })
            ]
          ] in mp r.frames ≡ r.frames
      by_listed rec false w = rec entries next
      by_listed rec true true = rec (unlisted f.number entries) next
      by_listed rec true false =
          ap₂ (λ (x : W.Frame) (fs : W.Path). x ∷ fs) (new_frame-m next f.tag W.here) (rec (relisted f.number next entries) (suc next))
