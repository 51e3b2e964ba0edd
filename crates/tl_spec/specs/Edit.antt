-- Edits of a document.
pub mod Attribute
pub mod Shape
pub mod StepLine
pub mod StepGrammar
use Rattle.std.specs.Prelude.{ℕ, suc, nat_lt, List, [], ◌∷◌, length, Option, Some, None, Result, Ok, Err, if◌then◌else◌, slice_set, option_map}
use Rattle.std.specs.List.{slice_get}
use Rattle.std.specs.Str.{bytes_eq}
use Rattle.tl_spec.specs.Tree.Inline.{room, with_last, without_item}
use Rattle.tl_spec.specs.Lex.AttributeList.{Attributes}
use Rattle.tl_spec.specs.Edit.Attribute as any
use Rattle.tl_spec.specs.Tree.Document.{Handles, TagNode, Node, Tag, Raw, Comment, Document}

-- one edit: of the node or the place of a number
pub data Change : Type 0 where
  Names : (node : ℕ) (name : List ℕ) → Change
  Texts : (node : ℕ) (text : List ℕ) → Change
  Comments : (node : ℕ) (text : List ℕ) → Change
  Sets : (node : ℕ) (key value : List ℕ) → Change
  Flags : (node : ℕ) (key : List ℕ) → Change
  Unsets : (node : ℕ) (key : List ℕ) → Change
  Bares : (node : ℕ) (key : List ℕ) → Change
  Pushes : (node child : ℕ) → Change
  Pulls : (node place : ℕ) → Change
  Roots : (place child : ℕ) → Change

-- why an edit is refused
pub data Refusal : Type 0 where
  no_node : Refusal
  not_tag : Refusal
  no_place : Refusal

-- attributes of bytes with v at a key; at `id` and `class` no value is no key
abbrev pub with_attribute : Attributes (List ℕ) → List ℕ → Option (List ℕ) → Attributes (List ℕ)
with_attribute = any.with_attribute (λ key. key) bytes_eq

-- attributes of bytes without a key
abbrev pub without_attribute : Attributes (List ℕ) → List ℕ → Attributes (List ℕ)
without_attribute = any.without_attribute (λ key. key) bytes_eq

-- attributes of bytes without the value at a key
abbrev pub without_value : Attributes (List ℕ) → List ℕ → Attributes (List ℕ)
without_value = any.without_value (λ key. key) bytes_eq

-- what an edit makes, unless it is refused
abbrev pub map_ok : {A B : Type 0} → (A → B) → Result A Refusal → Result B Refusal
map_ok f (Ok x) = Ok (f x)
map_ok f (Err refusal) = Err refusal

-- handles without the one at a place
abbrev pub without_handle : Handles → ℕ → Result Handles Refusal
without_handle handles i =
    if nat_lt i (length handles.items) then Ok (without_item handles i) else Err no_place

-- an edit of a node, if it is a tag
abbrev pub edit_if_tag : (TagNode → Result TagNode Refusal) → Node → Result Node Refusal
edit_if_tag change (Tag own) = map_ok Tag (change own)
edit_if_tag change (Raw bytes) = Err not_tag
edit_if_tag change (Comment bytes) = Err not_tag

-- an edit of a node that is there
abbrev pub edit_if_found : Document → ℕ → (Node → Result Node Refusal) → Option Node →
    Result Document Refusal
edit_if_found d n change None = Err no_node
edit_if_found d n change (Some node) =
    map_ok (λ m. record d { nodes = slice_set d.nodes n m }) (change node)

-- an edit of the node of a number
abbrev pub edit_node : ℕ → (Node → Result Node Refusal) → Document → Result Document Refusal
edit_node n change d = edit_if_found d n change (slice_get d.nodes n)

-- an edit of the tag of a number
abbrev pub edit_tag : ℕ → (TagNode → TagNode) → Document → Result Document Refusal
edit_tag n change d = edit_node n (edit_if_tag (λ own. Ok (change own))) d

-- the document after an edit, or why it is refused
abbrev pub apply_change : Change → Document → Result Document Refusal
apply_change (Names n name) d = edit_tag n (λ own. record own { name = name }) d
apply_change (Texts n text) d = edit_node n (λ _. Ok (Raw text)) d
apply_change (Comments n text) d = edit_node n (λ _. Ok (Comment text)) d
apply_change (Sets n key value) d =
    edit_tag n (λ own. record own { attributes = with_attribute own.attributes key (Some value) }) d
apply_change (Flags n key) d =
    edit_tag n (λ own. record own { attributes = with_attribute own.attributes key None }) d
apply_change (Unsets n key) d =
    edit_tag n (λ own. record own { attributes = without_attribute own.attributes key }) d
apply_change (Bares n key) d =
    edit_tag n (λ own. record own { attributes = without_value own.attributes key }) d
apply_change (Pushes n h) d =
    edit_tag n (λ own. record own { children = with_last room own.children h }) d
apply_change (Pulls n i) d = edit_node n
    (edit_if_tag (λ own. map_ok (λ handles. record own { children = handles })
    (without_handle own.children i))) d
apply_change (Roots i h) d =
    if nat_lt i (length d.top) then Ok (record d { top = slice_set d.top i h }) else Err no_place

-- a document after edits, and which of them was refused, if any, and why: those after it are left
-- out
pub record Edited : Type 0 where
  pub document : Document
  pub refused : Option (ℕ × Refusal)

-- no edit was refused
abbrev pub none_refused : Document → Edited
none_refused d = record { document = d; refused = None }

-- the edit at a place was refused
abbrev pub refusal_at : ℕ → Refusal → Document → Edited
refusal_at i refusal d = record { document = d; refused = Some (i, refusal) }

-- the place counted from one edit earlier
abbrev pub shift_place : Edited → Edited
shift_place e = record e { refused = option_map (λ r. (suc r.0, r.1)) e.refused }

-- what the later edits make of the document after an edit, if it is not refused
abbrev pub next : (Document → Edited) → Document → Result Document Refusal → Edited
next later d (Ok new) = shift_place (later new)
next later d (Err refusal) = refusal_at 0 refusal d

-- edits one after the other, up to the first that is refused
abbrev pub apply_changes : List Change → Document → Edited
apply_changes [] d = none_refused d
apply_changes (c ∷ cs) d = next (apply_changes cs) d (apply_change c d)
