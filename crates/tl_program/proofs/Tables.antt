-- Edits of a table are edits of its document.
use Rattle.std.proofs.Common.{◌≡◌, ℕ, zero, suc, Bool, true, false, nat_lt, if◌then◌else◌, List, [], ◌∷◌, length, map, take, slice_set, Option, Some, None, option_map, Result, Ok, Err, refl, sym, ap, ◌∙◌}
use Rattle.std.specs.List.{slice_get}
use Rattle.std.specs.Str.{bytes_eq}
use Rattle.std.proofs.lemmas.Option.{get_or_from_slice_get, slice_get-map}
use Rattle.std.proofs.lemmas.List.{map-set, set-get_or}
use Rattle.tl_bytes.specs.Held.{Kept, as_owned}
use Rattle.tl_spec.specs.Tree.Document.{Handles, TagNode, Node, Document}
use Rattle.tl_spec.specs.Tree.Document as shown_node
use Rattle.tl_spec.specs.Tree.Inline.{room, with_last}
use Rattle.tl_spec.specs.Lex.AttributeList.{Attributes}
use Rattle.tl_spec.specs.Edit as shown_edit
use Rattle.tl_spec.specs.Edit.{Change, Names, Texts, Comments, Sets, Flags, Unsets, Bares, Pushes, Pulls, Roots, Refusal, no_place, map_ok, without_handle, apply_change, apply_changes, none_refused, shift_place}
use Rattle.tl_spec.proofs.Print.Images.{image-with_attribute, image-without_attribute, image-without_value}
use Rattle.tl_attributes.specs.AttributesView.{bytes_view, attributes_view}
use Rattle.tl.specs.Inner.TableLends.{with_node}
use Rattle.tl.specs.View.{HTMLTag, HTMLNode, tag_view, node_view, document_of, HTMLTable}
use Rattle.tl.specs.declared.parser.tag.node.NodeOf.TheVariants.{Tag, Raw, Comment}
use Rattle.tl_program.specs.TableEdit.{with_attribute, without_attribute, without_value, of_tag, of_node, at_node, at_tag, edited_table, next, table_after}

-- an item that is written as it is
pub set_same : {X : Type 0} (xs : List X) (i : ℕ) (x : X) → Some x ≡ slice_get xs i → slice_set xs i x ≡ xs
set_same xs i x is = ap (slice_set xs i) (sym (get_or_from_slice_get xs i x x (sym is))) ∙ set-get_or xs i x

-- what is refused makes nothing
pub apart : {A : Type 0} {x : A} (refusal : Refusal) → Err refusal ≡ Ok x → ⊥
apart refusal is = cc

-- an edit of a tag is that edit of what is shown of it
image-of_tag : (change : TagNode → Result TagNode Refusal) (made : HTMLTag → Result HTMLTag Refusal) → ((own : HTMLTag) → change (tag_view own) ≡ map_ok tag_view (made own))
    → (node : HTMLNode) → shown_edit.edit_if_tag change (node_view node) ≡ map_ok node_view (of_tag made node)
image-of_tag change made alike (Tag own) = ap (map_ok shown_node.Tag) (alike own) ∙ by (made own)
  where
    by : (r : Result HTMLTag Refusal) → map_ok shown_node.Tag (map_ok tag_view r) ≡ map_ok node_view (map_ok Tag r)
    by (Ok new) = refl
    by (Err refusal) = refl
image-of_tag change made alike (Raw bytes) = refl
image-of_tag change made alike (Comment bytes) = refl

-- an edit of a node of a table is one of its document
module _ (t : HTMLTable) (n : ℕ) (change : Node → Result Node Refusal) (made : HTMLNode → Result HTMLNode Refusal) (alike : (node : HTMLNode) → change (node_view node) ≡ map_ok node_view (made node)) where
  abbrev with_shown : Node → Document
  with_shown m = record (document_of t) { nodes = slice_set (map node_view t.nodes) n m }

  put : (r : Result HTMLNode Refusal) → map_ok with_shown (map_ok node_view r) ≡ map_ok document_of (map_ok (with_node t n) r)
  put (Ok m) = ap (λ (ns : List Node). Ok (record (document_of t) { nodes = ns })) (sym (map-set node_view t.nodes n m))
  put (Err refusal) = refl

  image-of_node : (o : Option HTMLNode) → shown_edit.edit_if_found (document_of t) n change (option_map node_view o) ≡ map_ok document_of (of_node t n made o)
  image-of_node None = refl
  image-of_node (Some node) = ap (map_ok with_shown) (alike node) ∙ put (made node)

  image-at_node : shown_edit.edit_node n change (document_of t) ≡ map_ok document_of (at_node n made t)
  image-at_node = ap (shown_edit.edit_if_found (document_of t) n change) (slice_get-map node_view t.nodes n) ∙ image-of_node (slice_get t.nodes n)

-- so is one of a tag, which is never refused
image-at_tag : (t : HTMLTable) (n : ℕ) (change : TagNode → TagNode) (made : HTMLTag → HTMLTag) → ((own : HTMLTag) → change (tag_view own) ≡ tag_view (made own))
    → shown_edit.edit_tag n change (document_of t) ≡ map_ok document_of (at_tag n made t)
image-at_tag t n change made alike =
    let ok : TagNode → Result TagNode Refusal = λ own. Ok own in
    image-at_node t n _ _ (image-of_tag (λ own. Ok (change own)) (λ own. Ok (made own)) (λ own. ap ok (alike own)))

-- one of the attributes of a tag
image-at_attributes : (t : HTMLTable) (n : ℕ) (change : Attributes (List ℕ) → Attributes (List ℕ)) (made : Attributes Kept → Attributes Kept)
    → ((a : Attributes Kept) → attributes_view (made a) ≡ change (attributes_view a))
    → shown_edit.edit_tag n (λ own. record own { attributes = change own.attributes }) (document_of t) ≡ map_ok document_of (at_tag n (λ own. record own { attributes = made own.attributes }) t)
image-at_attributes t n change made alike =
    image-at_tag t n _ _ (λ own. ap (λ (a : Attributes (List ℕ)). record (tag_view own) { attributes = a }) (sym (alike own.attributes)))

-- and one of its children
image-at_children : (t : HTMLTable) (n : ℕ) (change : Handles → Result Handles Refusal)
    → shown_edit.edit_node n (shown_edit.edit_if_tag (λ own. map_ok (λ handles. record own { children = handles }) (change own.children))) (document_of t)
    ≡ map_ok document_of (at_node n (of_tag (λ own. map_ok (λ handles. record own { children = handles }) (change own.children))) t)
image-at_children t n change = image-at_node t n _ _ (image-of_tag _ (λ own. map_ok (λ handles. record own { children = handles }) (change own.children)) (λ own. by own (change own.children)))
  where
    by : (own : HTMLTag) (r : Result Handles Refusal) → map_ok (λ handles. record (tag_view own) { children = handles }) r ≡ map_ok tag_view (map_ok (λ handles. record own { children = handles }) r)
    by own (Ok handles) = refl
    by own (Err refusal) = refl

-- an edit of a table is that edit of its document
pub image-edited_table : (c : Change) (t : HTMLTable) → apply_change c (document_of t) ≡ map_ok document_of (edited_table c t)
image-edited_table (Names n name) t = image-at_tag t n (λ own. record own { name = name }) (λ own. record own { name = as_owned name }) (λ own. refl)
image-edited_table (Texts n text) t = image-at_node t n (λ _. Ok (shown_node.Raw text)) (λ _. Ok (Raw (as_owned text))) (λ node. refl)
image-edited_table (Comments n text) t = image-at_node t n (λ _. Ok (shown_node.Comment text)) (λ _. Ok (Comment (as_owned text))) (λ node. refl)
image-edited_table (Sets n key value) t =
    image-at_attributes t n (λ a. shown_edit.with_attribute a key (Some value)) (λ a. with_attribute a key (Some (as_owned value)))
    (λ a. image-with_attribute bytes_view (λ k. k) bytes_eq a (as_owned key) (Some (as_owned value)))
image-edited_table (Flags n key) t =
    image-at_attributes t n (λ a. shown_edit.with_attribute a key None) (λ a. with_attribute a key None) (λ a. image-with_attribute bytes_view (λ k. k) bytes_eq a (as_owned key) None)
image-edited_table (Unsets n key) t =
    image-at_attributes t n (λ a. shown_edit.without_attribute a key) (λ a. without_attribute a key) (λ a. image-without_attribute bytes_view (λ k. k) bytes_eq a (as_owned key))
image-edited_table (Bares n key) t =
    image-at_attributes t n (λ a. shown_edit.without_value a key) (λ a. without_value a key) (λ a. image-without_value bytes_view (λ k. k) bytes_eq a (as_owned key))
image-edited_table (Pushes n h) t = image-at_tag t n (λ own. record own { children = with_last room own.children h }) (λ own. record own { children = with_last room own.children h }) (λ own. refl)
image-edited_table (Pulls n i) t = image-at_children t n (λ handles. without_handle handles i)
image-edited_table (Roots i h) t = by (nat_lt i (length t.top))
  where
    by : (b : Bool) → (if b then Ok (record (document_of t) { top = slice_set t.top i h }) else Err no_place) ≡ map_ok document_of (if b then Ok (record t { top = slice_set t.top i h }) else Err no_place)
    by true = refl
    by false = refl

-- later edits make something where the first does, and then the others
pub next-ok : (later : HTMLTable → Result HTMLTable Refusal) (r : Result HTMLTable Refusal) (u : HTMLTable) → next later r ≡ Ok u → (t : HTMLTable) × (r ≡ Ok t) × (later t ≡ Ok u)
next-ok later (Ok t) u h = (t, refl, h)
next-ok later (Err refusal) u h = absurd (apart refusal h)

-- edits of a table are those edits of its document
pub image-table_after : (cs : List Change) (t u : HTMLTable) → table_after cs t ≡ Ok u → apply_changes cs (document_of t) ≡ none_refused (document_of u)
image-table_after [] t u h = let same : t ≡ u = cc in ap (λ v. none_refused (document_of v)) same
image-table_after (c ∷ cs) t u h =
    let first = next-ok (table_after cs) (edited_table c t) u h in
    ap (shown_edit.next (apply_changes cs) (document_of t)) (image-edited_table c t ∙ ap (map_ok document_of) first.1) ∙ ap shift_place (image-table_after cs first.0 u first.2)

-- one more edit
pub table_after-more : (c : Change) (cs : List Change) (old now new : HTMLTable) (i : ℕ) → table_after (take i cs) old ≡ Ok now → slice_get cs i ≡ Some c → edited_table c now ≡ Ok new
    → table_after (take (suc i) cs) old ≡ Ok new
table_after-more c [] old now new i before here ok = cc
table_after-more c (b ∷ cs) old now new zero before here ok =
    let first : b ≡ c = cc in
    let start : old ≡ now = cc in
    (λ t. next (λ u. Ok u) (edited_table (first t) (start t))) ∙ ap (next (λ u. Ok u)) ok
table_after-more c (b ∷ cs) old now new (suc i) before here ok =
    let first = next-ok (table_after (take i cs)) (edited_table b old) now before in
    ap (next (table_after (take (suc i) cs))) first.1 ∙ table_after-more c cs first.0 now new i first.2 here ok

-- no edit changes the version
of_node-version : (t u : HTMLTable) (n : ℕ) (change : HTMLNode → Result HTMLNode Refusal) (o : Option HTMLNode) → of_node t n change o ≡ Ok u → u.version ≡ t.version
of_node-version t u n change None h = absurd (apart _ h)
of_node-version t u n change (Some node) h = by (change node) h
  where
    by : (r : Result HTMLNode Refusal) → map_ok (with_node t n) r ≡ Ok u → u.version ≡ t.version
    by (Ok m) is = let same : u ≡ with_node t n m = cc in ap (λ (v : HTMLTable). v.version) same
    by (Err refusal) is = absurd (apart refusal is)

edited_table-version : (c : Change) (t u : HTMLTable) → edited_table c t ≡ Ok u → u.version ≡ t.version
edited_table-version (Names n name) t u h = of_node-version t u n _ (slice_get t.nodes n) h
edited_table-version (Texts n text) t u h = of_node-version t u n (λ _. Ok (Raw (as_owned text))) (slice_get t.nodes n) h
edited_table-version (Comments n text) t u h = of_node-version t u n (λ _. Ok (Comment (as_owned text))) (slice_get t.nodes n) h
edited_table-version (Sets n key value) t u h = of_node-version t u n _ (slice_get t.nodes n) h
edited_table-version (Flags n key) t u h = of_node-version t u n _ (slice_get t.nodes n) h
edited_table-version (Unsets n key) t u h = of_node-version t u n _ (slice_get t.nodes n) h
edited_table-version (Bares n key) t u h = of_node-version t u n _ (slice_get t.nodes n) h
edited_table-version (Pushes n h) t u is = of_node-version t u n _ (slice_get t.nodes n) is
edited_table-version (Pulls n i) t u h = of_node-version t u n _ (slice_get t.nodes n) h
edited_table-version (Roots i h) t u is = by (nat_lt i (length t.top)) is
  where
    by : (b : Bool) → (if b then Ok (record t { top = slice_set t.top i h }) else Err no_place) ≡ Ok u → u.version ≡ t.version
    by true same = let made : u ≡ record t { top = slice_set t.top i h } = cc in ap (λ (v : HTMLTable). v.version) made
    by false same = absurd (apart no_place same)

pub table_after-version : (cs : List Change) (t u : HTMLTable) → table_after cs t ≡ Ok u → u.version ≡ t.version
table_after-version [] t u h = let same : u ≡ t = cc in ap (λ (v : HTMLTable). v.version) same
table_after-version (c ∷ cs) t u h =
    let first = next-ok (table_after cs) (edited_table c t) u h in
    table_after-version cs first.0 u first.2 ∙ edited_table-version c t first.0 first.1
