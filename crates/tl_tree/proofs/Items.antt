-- Which item a start tag of `li`, `dd` or `dt` closes.
use Rattle.std.proofs.Common.{Bool, List, None, Option, Some, [], ap, codes, false, if◌then◌else◌, not, refl, true, ℕ, ◌&&◌, ◌||◌, ◌∙◌, ◌∷◌, ◌≡◌}
use Rattle.std.proofs.lemmas.Bool.{false≢true}
use Rattle.std.proofs.lemmas.Slice.Eq.{bytes_eq-Decides}
use Rattle.std.specs.Str.{bytes_eq}
use Rattle.tl_dom_spec.specs.Body.{earlier_item, item_closed_at}
use Rattle.tl_dom_spec.specs.Builder.{Builder, close_except_for}
use Rattle.tl_dom_spec.specs.Path.{Frame, has_tag, within}
use Rattle.tl_dom_spec.specs.Tags.{Attribute, Namespace, Tag, by_space, html_space, is_any, is_html, is_item_bound, is_named, math_space, svg_space}

-- an item of a name is closed
abbrev closed_item : List ℕ → Builder → Builder
closed_item name b = close_except_for (is_named name) (is_named name) b

item-named : (t : Tag) (name : List ℕ) (b : Builder) → bytes_eq t.name name ≡ true → item_closed_at (Some t) b ≡ closed_item name b
item-named t name b h =
    ap (λ (own : List ℕ). close_except_for (is_named own) (is_named own) b) ((bytes_eq-Decides t.name name).0 h)

-- a `dt` bounds the search itself
dt-bound : (counts : Bool) (space : Namespace) (attributes : List Attribute) (source : Option ℕ) → by_space space true false false ≡ true → is_item_bound counts (record { space = space; name = codes "dt"; attributes = attributes; source = source }) ≡ true
dt-bound true html_space attributes source h = refl
dt-bound false html_space attributes source h = refl
dt-bound counts math_space attributes source h = absurd (false≢true h)
dt-bound counts svg_space attributes source h = absurd (false≢true h)

dt-bounds : (counts : Bool) (t : Tag) → is_html t ≡ true → bytes_eq t.name (codes "dt") ≡ true → is_item_bound counts t ≡ true
dt-bounds counts t html h =
    ap (λ (own : List ℕ). is_item_bound counts (record { space = t.space; name = own; attributes = t.attributes; source = t.source })) ((bytes_eq-Decides t.name (codes "dt")).0 h)
    ∙ dt-bound counts t.space t.attributes t.source html

one : (h x bound more : Bool) (t : Tag) (rest : Option Tag) (b own : Builder) → (x ≡ true → item_closed_at (Some t) b ≡ own) → item_closed_at rest b ≡ (if more then own else b) → item_closed_at (if h && (x || false) then Some t else if bound then None else rest) b ≡ (if h && (x || false) || (not bound && more) then own else b)
one false x true more t rest b own is next = refl
one false x false more t rest b own is next = next
one true true bound more t rest b own is next = is refl
one true false true more t rest b own is next = refl
one true false false more t rest b own is next = next

-- an `li`
list-item : (counts : Bool) (frames : List Frame) (b : Builder) → item_closed_at (earlier_item (is_any (codes "li")) (is_item_bound counts) frames) b ≡ (if within (has_tag (is_any (codes "li"))) (has_tag (is_item_bound counts)) frames then closed_item (codes "li") b else b)
list-item counts [] b = refl
list-item counts (f ∷ frames) b =
    one (is_html f.tag) (bytes_eq f.tag.name (codes "li")) (is_item_bound counts f.tag) (within (has_tag (is_any (codes "li"))) (has_tag (is_item_bound counts)) frames) f.tag (earlier_item (is_any (codes "li")) (is_item_bound counts) frames) b (closed_item (codes "li") b)
    (item-named f.tag (codes "li") b) (list-item counts frames b)

two : (h x y bound more others : Bool) (t : Tag) (rest : Option Tag) (b own other : Builder) → (x ≡ true → item_closed_at (Some t) b ≡ own) → (y ≡ true → item_closed_at (Some t) b ≡ other) → (h ≡ true → y ≡ true → bound ≡ true) → item_closed_at rest b ≡ (if more then own else if others then other else b) → item_closed_at (if h && (x || (y || false)) then Some t else if bound then None else rest) b ≡ (if h && (x || false) || (not bound && more) then own else if h && (y || false) || (not bound && others) then other else b)
two false x y true more others t rest b own other is-own is-other bounds next = refl
two false x y false more others t rest b own other is-own is-other bounds next = next
two true true y bound more others t rest b own other is-own is-other bounds next = is-own refl
two true false true true more others t rest b own other is-own is-other bounds next = is-other refl
two true false true false more others t rest b own other is-own is-other bounds next =
    absurd (false≢true (bounds refl refl))
two true false false true more others t rest b own other is-own is-other bounds next = refl
two true false false false more others t rest b own other is-own is-other bounds next = next

-- a `dd`, or a `dt`
description : (counts : Bool) (frames : List Frame) (b : Builder) → item_closed_at (earlier_item (is_any (codes "dd dt")) (is_item_bound counts) frames) b ≡ (if within (has_tag (is_any (codes "dd"))) (has_tag (is_item_bound counts)) frames then closed_item (codes "dd") b else if within (has_tag (is_any (codes "dt"))) (has_tag (is_item_bound counts)) frames then closed_item (codes "dt") b else b)
description counts [] b = refl
description counts (f ∷ frames) b =
    two (is_html f.tag) (bytes_eq f.tag.name (codes "dd")) (bytes_eq f.tag.name (codes "dt")) (is_item_bound counts f.tag)
    (within (has_tag (is_any (codes "dd"))) (has_tag (is_item_bound counts)) frames) (within (has_tag (is_any (codes "dt"))) (has_tag (is_item_bound counts)) frames)
    f.tag (earlier_item (is_any (codes "dd dt")) (is_item_bound counts) frames) b (closed_item (codes "dd") b) (closed_item (codes "dt") b)
    (item-named f.tag (codes "dd") b) (item-named f.tag (codes "dt") b) (dt-bounds counts f.tag) (description counts frames b)

-- What is closed

abbrev searched : List ℕ → Bool → List Frame → Bool
searched name counts frames = within (has_tag (is_any name)) (has_tag (is_item_bound counts)) frames

pub list-item-found : (counts : Bool) (frames : List Frame) (b : Builder) → searched (codes "li") counts frames ≡ true → item_closed_at (earlier_item (is_any (codes "li")) (is_item_bound counts) frames) b ≡ closed_item (codes "li") b
list-item-found counts frames b h =
    list-item counts frames b ∙ ap (λ (found : Bool). if found then closed_item (codes "li") b else b) h

pub list-item-none : (counts : Bool) (frames : List Frame) (b : Builder) → searched (codes "li") counts frames ≡ false → item_closed_at (earlier_item (is_any (codes "li")) (is_item_bound counts) frames) b ≡ b
list-item-none counts frames b h =
    list-item counts frames b ∙ ap (λ (found : Bool). if found then closed_item (codes "li") b else b) h

-- after a search for a `dd`
abbrev other : Bool → Bool → List Frame → Builder → Builder
other found counts frames b =
    if found then closed_item (codes "dd") b
    else if searched (codes "dt") counts frames then closed_item (codes "dt") b
    else b

pub dd-found : (counts : Bool) (frames : List Frame) (b : Builder) → searched (codes "dd") counts frames ≡ true → item_closed_at (earlier_item (is_any (codes "dd dt")) (is_item_bound counts) frames) b ≡ closed_item (codes "dd") b
dd-found counts frames b h =
    description counts frames b ∙ ap (λ (found : Bool). other found counts frames b) h

pub dt-found : (counts : Bool) (frames : List Frame) (b : Builder) → searched (codes "dd") counts frames ≡ false → searched (codes "dt") counts frames ≡ true → item_closed_at (earlier_item (is_any (codes "dd dt")) (is_item_bound counts) frames) b ≡ closed_item (codes "dt") b
dt-found counts frames b before h =
    description counts frames b
    ∙ (ap (λ (found : Bool). other found counts frames b) before
    ∙ ap (λ (found : Bool). if found then closed_item (codes "dt") b else b) h)

pub description-none : (counts : Bool) (frames : List Frame) (b : Builder) → searched (codes "dd") counts frames ≡ false → searched (codes "dt") counts frames ≡ false → item_closed_at (earlier_item (is_any (codes "dd dt")) (is_item_bound counts) frames) b ≡ b
description-none counts frames b before none =
    description counts frames b
    ∙ (ap (λ (found : Bool). other found counts frames b) before
    ∙ ap (λ (found : Bool). if found then closed_item (codes "dt") b else b) none)
