-- What a builder holds, without the numbers of marks: no rule asks for them.
use Rattle.std.proofs.Common.{◌≡◌, ℕ, suc, Bool, true, false, not, ◌||◌, ◌&&◌, ◌==◌, List, [], ◌∷◌, map, Option, Some, None, codes, refl, ap, ap₂, sym, ◌∙◌, if◌then◌else◌}
use Rattle.std.specs.Prelude.{nat_lt, option_map}
use Rattle.std.specs.Str.{bytes_eq}
use Rattle.tl_dom_spec.specs.Tags.{Tag, is_any}
use Rattle.tl_dom_spec.specs.Marks.{Marked}
use Rattle.tl_dom_spec.specs.Path as W
use Rattle.tl_dom_spec.specs.Path.{Nodes, and_comment, and_doctype, and_element, and_text, no_nodes}
use Rattle.tl_dom_spec.specs.Builder as B
use Rattle.tl_dom_spec.specs.Formatting as F
use Rattle.tl_dom_spec.specs.Adoption as A
use Rattle.tl_dom_spec.specs.Body as D
use Rattle.tl_dom_spec.specs.Reset as E
use Rattle.tl_dom_spec.specs.Dispatcher as M
use Rattle.tl_dom_spec.specs.HtmlForest as T
use Rattle.tl_dom_spec.specs.HtmlTree as H
use Rattle.tl_dom_spec.specs.Partial.{unnumbered, without_number, without_numbers}

abbrev pub bare_nodes : Nodes → Nodes
bare_nodes no_nodes = no_nodes
bare_nodes (and_text nodes own) = and_text (bare_nodes nodes) (without_number own)
bare_nodes (and_comment nodes own) = and_comment (bare_nodes nodes) (without_number own)
bare_nodes (and_doctype nodes own) = and_doctype (bare_nodes nodes) (without_number own)
bare_nodes (and_element nodes tag children) = and_element (bare_nodes nodes) (unnumbered tag) (bare_nodes children)

abbrev pub bare_frame : W.Frame → W.Frame
bare_frame f = record {
  number = f.number;
  tag = unnumbered f.tag;
  children = bare_nodes f.children;
  waiting = bare_nodes f.waiting;
  place = f.place;
  is_open = f.is_open;
}

abbrev pub bare_path : W.Path → W.Path
bare_path path = map bare_frame path

abbrev pub bare_entry : B.Entry → B.Entry
bare_entry B.marker = B.marker
bare_entry (B.formatting k tag) = B.formatting k (unnumbered tag)

abbrev pub bare_entries : List B.Entry → List B.Entry
bare_entries entries = map bare_entry entries

-- a test, of what it can see
abbrev pub seen : (Tag → Bool) → Tag → Bool
seen test t = test (unnumbered t)

-- Nodes

with_text-bare : (nodes : Nodes) (bytes : Marked (List ℕ)) → bare_nodes (W.with_text nodes bytes) ≡ W.with_text (bare_nodes nodes) (without_number bytes)
with_text-bare no_nodes bytes = refl
with_text-bare (and_text nodes more) bytes = refl
with_text-bare (and_comment nodes more) bytes = refl
with_text-bare (and_doctype nodes own) bytes = refl
with_text-bare (and_element nodes tag children) bytes = refl

pub joined-bare : (nodes more : Nodes) → bare_nodes (W.joined nodes more) ≡ W.joined (bare_nodes nodes) (bare_nodes more)
joined-bare nodes no_nodes = refl
joined-bare nodes (and_text more bytes) = with_text-bare (W.joined nodes more) bytes ∙ ap (λ x. W.with_text x (without_number bytes)) (joined-bare nodes more)
joined-bare nodes (and_comment more bytes) = ap (λ x. and_comment x (without_number bytes)) (joined-bare nodes more)
joined-bare nodes (and_doctype more own) = ap (λ x. and_doctype x (without_number own)) (joined-bare nodes more)
joined-bare nodes (and_element more tag children) = ap (λ x. and_element x (unnumbered tag) (bare_nodes children)) (joined-bare nodes more)

either-nodes : (v : Bool) (x y : Nodes) → bare_nodes (if v then x else y) ≡ (if v then bare_nodes x else bare_nodes y)
either-nodes true x y = refl
either-nodes false x y = refl

at_head-bare : (nodes new : Nodes) → bare_nodes (W.at_head nodes new) ≡ W.at_head (bare_nodes nodes) (bare_nodes new)
at_head-bare no_nodes new = refl
at_head-bare (and_text nodes bytes) new = ap (λ x. and_text x (without_number bytes)) (at_head-bare nodes new)
at_head-bare (and_comment nodes bytes) new = ap (λ x. and_comment x (without_number bytes)) (at_head-bare nodes new)
at_head-bare (and_doctype nodes own) new = ap (λ x. and_doctype x (without_number own)) (at_head-bare nodes new)
at_head-bare (and_element nodes tag children) new =
    either-nodes (is_any (codes "head") tag) (and_element nodes tag (W.joined children new)) (and_element (W.at_head nodes new) tag children)
    ∙ ap₂ (λ (x y : Nodes). if is_any (codes "head") tag then and_element (bare_nodes nodes) (unnumbered tag) x else and_element y (unnumbered tag) (bare_nodes children))
    (joined-bare children new) (at_head-bare nodes new)

-- Places

with_nodes-bare : (nodes : Nodes) (f : W.Frame) → bare_frame (W.with_nodes nodes f) ≡ W.with_nodes (bare_nodes nodes) (bare_frame f)
with_nodes-bare nodes f = ap (λ x. record (bare_frame f) { children = x }) (joined-bare f.children nodes)

with_waiting-bare : (nodes : Nodes) (f : W.Frame) → bare_frame (W.with_waiting nodes f) ≡ W.with_waiting (bare_nodes nodes) (bare_frame f)
with_waiting-bare nodes f = ap (λ x. record (bare_frame f) { waiting = x }) (joined-bare f.waiting nodes)

pub caught_up-bare : (f : W.Frame) → bare_frame (W.caught_up f) ≡ W.caught_up (bare_frame f)
caught_up-bare f = ap (λ x. record (bare_frame f) { children = x; waiting = no_nodes }) (joined-bare f.children f.waiting)

pub on_top-bare : (change changed : W.Frame → W.Frame) → ((f : W.Frame) → bare_frame (change f) ≡ changed (bare_frame f)) → (path : W.Path) →
    bare_path (W.on_top change path) ≡ W.on_top changed (bare_path path)
on_top-bare change changed e [] = refl
on_top-bare change changed e (f ∷ path) = ap (λ x. x ∷ bare_path path) (e f)

either-frame : (v : Bool) (x y : W.Frame) → bare_frame (if v then x else y) ≡ (if v then bare_frame x else bare_frame y)
either-frame true x y = refl
either-frame false x y = refl

at_number-bare : (k : ℕ) (change changed : W.Frame → W.Frame) → ((f : W.Frame) → bare_frame (change f) ≡ changed (bare_frame f)) → (path : W.Path) →
    bare_path (W.at_number k change path) ≡ W.at_number k changed (bare_path path)
at_number-bare k change changed e [] = refl
at_number-bare k change changed e (f ∷ path) =
    ap₂ (λ x fs. x ∷ fs)
    (either-frame (f.number == k) (change f) f ∙ ap (λ (x : W.Frame). if f.number == k then x else bare_frame f) (e f))
    (at_number-bare k change changed e path)

pub put-bare : (place : W.Place) (nodes : Nodes) (path : W.Path) → bare_path (W.put place nodes path) ≡ W.put place (bare_nodes nodes) (bare_path path)
put-bare W.here nodes path =
    on_top-bare (λ (f : W.Frame). W.with_nodes nodes (W.caught_up f)) (λ (f : W.Frame). W.with_nodes (bare_nodes nodes) (W.caught_up f))
    (λ f. with_nodes-bare nodes (W.caught_up f) ∙ ap (W.with_nodes (bare_nodes nodes)) (caught_up-bare f)) path
put-bare (W.into k) nodes path = at_number-bare k (W.with_nodes nodes) (W.with_nodes (bare_nodes nodes)) (with_nodes-bare nodes) path
put-bare (W.behind k) nodes path = at_number-bare k (W.with_waiting nodes) (W.with_waiting (bare_nodes nodes)) (with_waiting-bare nodes) path
put-bare W.into_head nodes path =
    on_top-bare (λ (f : W.Frame). record f { children = W.at_head f.children nodes }) (λ (f : W.Frame). record f { children = W.at_head f.children (bare_nodes nodes) })
    (λ f. ap (λ x. record (bare_frame f) { children = x }) (at_head-bare f.children nodes)) path

settled_at-bare : (place : W.Place) (nodes : Nodes) (path : W.Path) → bare_path (W.settled_at place nodes path) ≡ W.settled_at place (bare_nodes nodes) (bare_path path)
settled_at-bare W.here nodes path =
    on_top-bare (λ (f : W.Frame). W.caught_up (W.with_nodes nodes f)) (λ (f : W.Frame). W.caught_up (W.with_nodes (bare_nodes nodes) f))
    (λ f. caught_up-bare (W.with_nodes nodes f) ∙ ap W.caught_up (with_nodes-bare nodes f)) path
settled_at-bare (W.into k) nodes path = put-bare (W.into k) nodes path
settled_at-bare (W.behind k) nodes path = put-bare (W.behind k) nodes path
settled_at-bare W.into_head nodes path = put-bare W.into_head nodes path

-- What is settled

top_settled-bare : (path : W.Path) → bare_path (W.top_settled path) ≡ W.top_settled (bare_path path)
top_settled-bare [] = refl
top_settled-bare (f ∷ []) = refl
top_settled-bare (f ∷ g ∷ path) =
    settled_at-bare f.place (W.node_of f) (g ∷ path)
    ∙ ap (λ x. W.settled_at f.place (and_element no_nodes (unnumbered f.tag) x) (bare_path (g ∷ path))) (joined-bare f.children f.waiting)

module _ (test tested : W.Frame → Bool) (same : (f : W.Frame) → test f ≡ tested (bare_frame f)) where
  abbrev next : (W.Frame → Bool) → Bool → W.Path → W.Frame → W.Path → W.Path
  next own v count top path = elim v as (λ _. W.Path) [
    | true ↦ W.settled_while own count (W.top_settled (top ∷ path))
    | false ↦ top ∷ path
  ]

  either-next : (v : Bool) (count : W.Path) (top : W.Frame) (path : W.Path) →
      bare_path (W.settled_while test count (W.top_settled (top ∷ path))) ≡ W.settled_while tested (bare_path count) (bare_path (W.top_settled (top ∷ path))) →
      bare_path (next test v count top path) ≡ next tested v (bare_path count) (bare_frame top) (bare_path path)
  either-next true count top path e = e ∙ ap (W.settled_while tested (bare_path count)) (top_settled-bare (top ∷ path))
  either-next false count top path e = refl

  pub settled_while-bare : (count path : W.Path) → bare_path (W.settled_while test count path) ≡ W.settled_while tested (bare_path count) (bare_path path)
  settled_while-bare [] path = refl
  settled_while-bare (f ∷ count) [] = refl
  settled_while-bare (f ∷ count) (top ∷ path) =
      either-next (not top.is_open || test top) count top path (settled_while-bare count (W.top_settled (top ∷ path)))
      ∙ ap (λ v. next tested (not top.is_open || v) (bare_path count) (bare_frame top) (bare_path path)) (same top)

  pub popped_while-bare : (path : W.Path) → bare_path (W.popped_while test path) ≡ W.popped_while tested (bare_path path)
  popped_while-bare path = settled_while-bare path path

pub popped-bare : (path : W.Path) → bare_path (W.popped path) ≡ W.popped (bare_path path)
popped-bare path = popped_while-bare W.no_frame W.no_frame (λ _. refl) (W.top_settled path) ∙ ap W.settled (top_settled-bare path)

pub popped_to-bare : (test tested : W.Frame → Bool) → ((f : W.Frame) → test f ≡ tested (bare_frame f)) → (path : W.Path) → bare_path (W.popped_to test path) ≡ W.popped_to tested (bare_path path)
popped_to-bare test tested same path = popped_while-bare (λ (f : W.Frame). not (test f)) (λ (f : W.Frame). not (tested f)) (λ f. ap not (same f)) path

pub popped_through-bare : (test tested : W.Frame → Bool) → ((f : W.Frame) → test f ≡ tested (bare_frame f)) → (path : W.Path) →
    bare_path (W.popped_through test path) ≡ W.popped_through tested (bare_path path)
popped_through-bare test tested same path = popped-bare (W.popped_to test path) ∙ ap W.popped (popped_to-bare test tested same path)

pub implied_closed-bare : (but : Tag → Bool) (path : W.Path) → bare_path (W.implied_closed (seen but) path) ≡ W.implied_closed but (bare_path path)
implied_closed-bare but path = popped_while-bare _ _ (λ _. refl) path

-- What is asked

pub elements-bare : (path : W.Path) → bare_path (W.elements path) ≡ W.elements (bare_path path)
elements-bare [] = refl
elements-bare (f ∷ path) = by_open f.is_open (elements-bare path)
  where
    by_open : (v : Bool) → bare_path (W.elements path) ≡ W.elements (bare_path path) →
        bare_path (if v then f ∷ W.elements path else W.elements path) ≡ (if v then bare_frame f ∷ W.elements (bare_path path) else W.elements (bare_path path))
    by_open true e = ap (λ fs. bare_frame f ∷ fs) e
    by_open false e = e

pub within-bare : (test stops tested stopped : W.Frame → Bool) → ((f : W.Frame) → test f ≡ tested (bare_frame f)) → ((f : W.Frame) → stops f ≡ stopped (bare_frame f)) →
    (fs : List W.Frame) → W.within test stops fs ≡ W.within tested stopped (bare_path fs)
within-bare test stops tested stopped e h [] = refl
within-bare test stops tested stopped e h (f ∷ fs) =
    ap₂ (λ (x y : Bool). x || (not y && W.within test stops fs)) (e f) (h f)
    ∙ ap (λ v. tested (bare_frame f) || (not (stopped (bare_frame f)) && v)) (within-bare test stops tested stopped e h fs)

pub open-bare : (test stops tested stopped : W.Frame → Bool) → ((f : W.Frame) → test f ≡ tested (bare_frame f)) → ((f : W.Frame) → stops f ≡ stopped (bare_frame f)) →
    (path : W.Path) → W.within test stops (W.elements path) ≡ W.within tested stopped (W.elements (bare_path path))
open-bare test stops tested stopped e h path = within-bare test stops tested stopped e h (W.elements path) ∙ ap (W.within tested stopped) (elements-bare path)

pub has_within-bare : (tested stopped : Tag → Bool) (path : W.Path) → W.has_within (seen tested) (seen stopped) path ≡ W.has_within tested stopped (bare_path path)
has_within-bare tested stopped path =
    open-bare (W.has_tag (seen tested)) (W.has_tag (seen stopped)) (W.has_tag tested) (W.has_tag stopped) (λ _. refl) (λ _. refl) path

pub is_open_number-bare : (k : ℕ) (path : W.Path) → W.is_open_number k path ≡ W.is_open_number k (bare_path path)
is_open_number-bare k path = open-bare (W.has_number k) W.no_frame (W.has_number k) W.no_frame (λ _. refl) (λ _. refl) path

pub top-bare : (path : W.Path) → bare_frame (W.top path) ≡ W.top (bare_path path)
top-bare [] = refl
top-bare (f ∷ path) = refl

only-bare : (fs : List W.Frame) → B.is_only fs ≡ B.is_only (bare_path fs)
only-bare [] = refl
only-bare (f ∷ []) = refl
only-bare (f ∷ g ∷ fs) = refl

content-bare : (t : Tag) (token : B.Token) → M.is_html_content t token ≡ M.is_html_content (unnumbered t) token
content-bare t (B.a_character c) = refl
content-bare t (B.a_start g own closes) = refl
content-bare t (B.an_end g name) = refl
content-bare t (B.a_comment bytes) = refl
content-bare t (B.a_doctype own) = refl
content-bare t B.end_of_file = refl

-- whether a token is one of HTML content
pub html_content-bare : (context : Option Tag) (path : W.Path) (token : B.Token) →
    M.is_html_content (B.adjusted_tag context path) token ≡ M.is_html_content (B.adjusted_tag context (bare_path path)) token
html_content-bare None path token =
    content-bare (W.top path).tag token ∙ ap (λ (f : W.Frame). M.is_html_content f.tag token) (top-bare path)
html_content-bare (Some tag) path token =
    either (B.is_only (W.elements path))
    ∙ ap (λ v. M.is_html_content (if v then tag else (W.top (bare_path path)).tag) token) (only-bare (W.elements path) ∙ ap B.is_only (elements-bare path))
  where
    either : (v : Bool) → M.is_html_content (if v then tag else (W.top path).tag) token ≡ M.is_html_content (if v then tag else (W.top (bare_path path)).tag) token
    either true = refl
    either false = content-bare (W.top path).tag token ∙ ap (λ (f : W.Frame). M.is_html_content f.tag token) (top-bare path)

pub earlier-bare : (tested bounded : Tag → Bool) (fs : List W.Frame) → option_map unnumbered (D.earlier_item (seen tested) (seen bounded) fs) ≡ D.earlier_item tested bounded (bare_path fs)
earlier-bare tested bounded [] = refl
earlier-bare tested bounded (f ∷ fs) = by_tests (earlier-bare tested bounded fs) (tested (unnumbered f.tag)) (bounded (unnumbered f.tag))
  where
    by_tests : option_map unnumbered (D.earlier_item (seen tested) (seen bounded) fs) ≡ D.earlier_item tested bounded (bare_path fs) → (v w : Bool) → option_map unnumbered (if v then Some f.tag else if w then None else D.earlier_item (seen tested) (seen bounded) fs)
        ≡ (if v then Some (unnumbered f.tag) else if w then None else D.earlier_item tested bounded (bare_path fs))
    by_tests e true w = refl
    by_tests e false true = refl
    by_tests e false false = e

pub outermost-bare : (tested : Tag → Bool) (k : ℕ) (found : Option W.Frame) (fs : List W.Frame) →
    option_map bare_frame (A.outermost (seen tested) k found fs) ≡ A.outermost tested k (option_map bare_frame found) (bare_path fs)
outermost-bare tested k found [] = refl
outermost-bare tested k found (f ∷ fs) = by_number (f.number == k) (outermost-bare tested k (if tested (unnumbered f.tag) then Some f else found) fs)
  where
    chosen : (v : Bool) → option_map bare_frame (if v then Some f else found) ≡ (if v then Some (bare_frame f) else option_map bare_frame found)
    chosen true = refl
    chosen false = refl

    by_number : (v : Bool) →
        option_map bare_frame (A.outermost (seen tested) k (if tested (unnumbered f.tag) then Some f else found) fs) ≡ A.outermost tested k (option_map bare_frame (if tested (unnumbered f.tag) then Some f else found)) (bare_path fs) →
        option_map bare_frame (if v then found else A.outermost (seen tested) k (if tested (unnumbered f.tag) then Some f else found) fs)
        ≡ (if v then option_map bare_frame found else A.outermost tested k (if tested (unnumbered f.tag) then Some (bare_frame f) else option_map bare_frame found) (bare_path fs))
    by_number true e = refl
    by_number false e =
        e
        ∙ ap (λ (o : Option W.Frame). A.outermost tested k o (bare_path fs)) (chosen (tested (unnumbered f.tag)))

pub mode_of-bare : (b : B.Builder) (fs : List W.Frame) → E.mode_of b fs ≡ E.mode_of b (bare_path fs)
mode_of-bare b [] = refl
mode_of-bare b (f ∷ []) = last b.context
  where
    last : (context : Option Tag) → E.or_mode (E.tag_mode b true (E.last_tag context f.tag)) B.in_body ≡ E.or_mode (E.tag_mode b true (E.last_tag context (unnumbered f.tag))) B.in_body
    last None = refl
    last (Some tag) = refl
mode_of-bare b (f ∷ g ∷ fs) = ap (E.or_mode (E.tag_mode b false f.tag)) (mode_of-bare b (g ∷ fs))

-- The list of active formatting elements

pub is_listed-bare : (k : ℕ) (es : List B.Entry) → F.is_listed k es ≡ F.is_listed k (bare_entries es)
is_listed-bare k [] = refl
is_listed-bare k (B.marker ∷ es) = is_listed-bare k es
is_listed-bare k (B.formatting n tag ∷ es) = ap (λ v. (n == k) || v) (is_listed-bare k es)

abbrev pub bare_listed : F.Listed → F.Listed
bare_listed own = record { number = own.number; tag = unnumbered own.tag }

pub listed-bare : (name : List ℕ) (es : List B.Entry) → option_map bare_listed (F.listed name es) ≡ F.listed name (bare_entries es)
listed-bare name [] = refl
listed-bare name (B.marker ∷ es) = refl
listed-bare name (B.formatting k tag ∷ es) = by_name (listed-bare name es) (bytes_eq name tag.name)
  where
    by_name : option_map bare_listed (F.listed name es) ≡ F.listed name (bare_entries es) → (v : Bool) → option_map bare_listed (if v then Some (record { number = k; tag = tag }) else F.listed name es)
        ≡ (if v then Some (record { number = k; tag = unnumbered tag }) else F.listed name (bare_entries es))
    by_name e true = refl
    by_name e false = e

either-entries : (v : Bool) (x y : List B.Entry) → bare_entries (if v then x else y) ≡ (if v then bare_entries x else bare_entries y)
either-entries true x y = refl
either-entries false x y = refl

pub unlisted-bare : (k : ℕ) (es : List B.Entry) → bare_entries (F.unlisted k es) ≡ F.unlisted k (bare_entries es)
unlisted-bare k [] = refl
unlisted-bare k (B.marker ∷ es) = ap (λ fs. B.marker ∷ fs) (unlisted-bare k es)
unlisted-bare k (B.formatting n tag ∷ es) =
    either-entries (n == k) (F.unlisted k es) (B.formatting n tag ∷ F.unlisted k es)
    ∙ ap (λ (fs : List B.Entry). if n == k then fs else B.formatting n (unnumbered tag) ∷ fs) (unlisted-bare k es)

pub without_last_marker-bare : (es : List B.Entry) → bare_entries (B.without_last_marker es) ≡ B.without_last_marker (bare_entries es)
without_last_marker-bare [] = refl
without_last_marker-bare (B.marker ∷ es) = refl
without_last_marker-bare (B.formatting n tag ∷ es) = without_last_marker-bare es

alike_count-bare : (own : Tag) (es : List B.Entry) → F.alike_count own es ≡ F.alike_count (unnumbered own) (bare_entries es)
alike_count-bare own [] = refl
alike_count-bare own (B.marker ∷ es) = refl
alike_count-bare own (B.formatting n tag ∷ es) = ap (λ (m : ℕ). if F.is_alike own tag then suc m else m) (alike_count-bare own es)

without_earliest-bare : (own : Tag) (es : List B.Entry) → bare_entries (F.without_earliest own es) ≡ F.without_earliest (unnumbered own) (bare_entries es)
without_earliest-bare own [] = refl
without_earliest-bare own (B.marker ∷ es) = refl
without_earliest-bare own (B.formatting n tag ∷ es) =
    either-entries (F.is_alike own tag && (F.alike_count own es == 0)) es (B.formatting n tag ∷ F.without_earliest own es)
    ∙ ap₂ (λ (m : ℕ) (fs : List B.Entry). if F.is_alike own tag && (m == 0) then bare_entries es else B.formatting n (unnumbered tag) ∷ fs)
    (alike_count-bare own es) (without_earliest-bare own es)

pub with_room-bare : (own : Tag) (es : List B.Entry) → bare_entries (F.with_room own es) ≡ F.with_room (unnumbered own) (bare_entries es)
with_room-bare own es =
    either-entries (nat_lt 2 (F.alike_count own es)) (F.without_earliest own es) es
    ∙ ap₂ (λ (m : ℕ) (fs : List B.Entry). if nat_lt 2 m then fs else bare_entries es) (alike_count-bare own es) (without_earliest-bare own es)

no_some : {X : Type 0} {x : X} → None ≡ Some x → ⊥
no_some e = cc

pub nothing-bare : {X : Type 0} (f : X → X) (o : Option X) → option_map f o ≡ None → o ≡ None
nothing-bare f None e = refl
nothing-bare f (Some x) e = absurd (no_some (sym e))

-- what is found is another one but for the number of its start tag
pub record Found (o : Option F.Listed) (k : ℕ) (tag : Tag) : Type 0 where
  pub own : Tag
  pub is : o ≡ Some (record { number = k; tag = own })
  pub same : unnumbered own ≡ tag

abbrev number_or : Option F.Listed → ℕ
number_or None = 0
number_or (Some own) = own.number

abbrev tag_or : Tag → Option F.Listed → Tag
tag_or t None = t
tag_or t (Some own) = own.tag

pub found-bare : (o : Option F.Listed) (k : ℕ) (tag : Tag) → option_map bare_listed o ≡ Some (record { number = k; tag = tag }) → Found o k tag
found-bare None k tag e = absurd (no_some e)
found-bare (Some own) k tag e = record {
  own = own.tag;
  is = ap (λ (n : ℕ). Some (record { number = n; tag = own.tag })) (ap number_or e);
  same = ap (tag_or tag) e;
}

-- Trees

pub before-bare : (nodes : Nodes) (later : T.HtmlForest) → without_numbers (T.before nodes later) ≡ T.before (bare_nodes nodes) (without_numbers later)
before-bare no_nodes later = refl
before-bare (and_text nodes bytes) later = before-bare nodes (T.text bytes later)
before-bare (and_comment nodes bytes) later = before-bare nodes (T.comment bytes later)
before-bare (and_doctype nodes own) later = before-bare nodes (T.doctype own later)
before-bare (and_element nodes tag children) later =
    before-bare nodes (T.element tag (T.before children T.no_trees) later)
    ∙ ap (λ below. T.before (bare_nodes nodes) (T.element (unnumbered tag) below (without_numbers later))) (before-bare children T.no_trees)

pub trees-bare : (f : W.Frame) → without_numbers (H.trees_in f) ≡ H.trees_in (bare_frame f)
trees-bare f = before-bare (W.joined f.children f.waiting) T.no_trees ∙ ap (λ nodes. T.before nodes T.no_trees) (joined-bare f.children f.waiting)

pub closed_item-bare : (o : Option Tag) (c : B.Builder) → D.item_closed_at o c ≡ D.item_closed_at (option_map unnumbered o) c
closed_item-bare None c = refl
closed_item-bare (Some t) c = refl
