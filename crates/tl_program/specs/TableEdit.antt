-- Edits of a table, each piece of which is held in its own way: what an edit puts is owned, and
-- what it leaves is held as it was.
use Rattle.std.specs.Prelude.{◌≡◌, ℕ, nat_lt, List, [], ◌∷◌, length, take, slice_set, Bool, true, false, Option, Some, None, Result, Ok, Err, IsTrue, IsSomeAnd, if◌then◌else◌}
use Rattle.std.specs.List.{slice_get, AllByRecursion}
use Rattle.tl_bytes.specs.Held.{Kept, as_owned}
use Rattle.tl_bytes.specs.Keys.{same_list}
use Rattle.tl_spec.specs.Tree.Inline.{room, with_last}
use Rattle.tl_spec.specs.Lex.AttributeList.{Attributes}
use Rattle.tl_spec.specs.Edit.Attribute as any
use Rattle.tl_spec.specs.Edit.{Change, Names, Texts, Comments, Sets, Flags, Unsets, Bares, Pushes, Pulls, Roots, Refusal, no_node, not_tag, no_place, map_ok, without_handle}
use Rattle.tl_attributes.specs.AttributesView.{bytes_view}
use Rattle.tl.specs.Inner.TableLends.{with_node}
use Rattle.tl.specs.View.{HTMLTag, HTMLNode, HTMLTable}
use Rattle.tl.specs.declared.parser.tag.node.NodeOf.TheVariants.{Tag, Raw, Comment}

-- attributes with v at a key; a key that is there stays, held as it was
abbrev pub with_attribute : Attributes Kept → List ℕ → Option Kept → Attributes Kept
with_attribute a key v = any.with_attribute bytes_view same_list a (as_owned key) v

-- attributes without a key
abbrev pub without_attribute : Attributes Kept → List ℕ → Attributes Kept
without_attribute a key = any.without_attribute bytes_view same_list a (as_owned key)

-- attributes without the value at a key
abbrev pub without_value : Attributes Kept → List ℕ → Attributes Kept
without_value a key = any.without_value bytes_view same_list a (as_owned key)

-- an edit of a node, if it is a tag
abbrev pub of_tag : (HTMLTag → Result HTMLTag Refusal) → HTMLNode → Result HTMLNode Refusal
of_tag change (Tag own) = map_ok Tag (change own)
of_tag change (Raw bytes) = Err not_tag
of_tag change (Comment bytes) = Err not_tag

-- an edit of a node that is there
abbrev pub of_node : HTMLTable → ℕ → (HTMLNode → Result HTMLNode Refusal) → Option HTMLNode →
    Result HTMLTable Refusal
of_node t n change None = Err no_node
of_node t n change (Some node) = map_ok (with_node t n) (change node)

-- an edit of the node of a number
abbrev pub at_node : ℕ → (HTMLNode → Result HTMLNode Refusal) → HTMLTable → Result HTMLTable Refusal
at_node n change t = of_node t n change (slice_get t.nodes n)

-- an edit of the tag of a number
abbrev pub at_tag : ℕ → (HTMLTag → HTMLTag) → HTMLTable → Result HTMLTable Refusal
at_tag n change t = at_node n (of_tag (λ own. Ok (change own))) t

-- the table after an edit, or why it is refused
abbrev pub edited_table : Change → HTMLTable → Result HTMLTable Refusal
edited_table (Names n name) t = at_tag n (λ own. record own { name = as_owned name }) t
edited_table (Texts n text) t = at_node n (λ _. Ok (Raw (as_owned text))) t
edited_table (Comments n text) t = at_node n (λ _. Ok (Comment (as_owned text))) t
edited_table (Sets n key value) t = at_tag n
    (λ own. record own { attributes = with_attribute own.attributes key (Some (as_owned value)) }) t
edited_table (Flags n key) t =
    at_tag n (λ own. record own { attributes = with_attribute own.attributes key None }) t
edited_table (Unsets n key) t =
    at_tag n (λ own. record own { attributes = without_attribute own.attributes key }) t
edited_table (Bares n key) t =
    at_tag n (λ own. record own { attributes = without_value own.attributes key }) t
edited_table (Pushes n h) t =
    at_tag n (λ own. record own { children = with_last room own.children h }) t
edited_table (Pulls n i) t = at_node n
    (of_tag (λ own. map_ok (λ handles. record own { children = handles })
    (without_handle own.children i))) t
edited_table (Roots i h) t =
    if nat_lt i (length t.top) then Ok (record t { top = slice_set t.top i h }) else Err no_place

-- what later edits make of the table after an edit, unless it is refused
abbrev pub next : (HTMLTable → Result HTMLTable Refusal) → Result HTMLTable Refusal →
    Result HTMLTable Refusal
next later (Ok t) = later t
next later (Err refusal) = Err refusal

-- the table after edits, or why the first of them that is refused is
abbrev pub table_after : List Change → HTMLTable → Result HTMLTable Refusal
table_after [] t = Ok t
table_after (c ∷ cs) t = next (table_after cs) (edited_table c t)

-- the edits that were done: all, or those before the place that an error names
abbrev pub done_edits : {A E : Type 0} → List Change → Result A (ℕ × E) → List Change
done_edits cs (Ok x) = cs
done_edits cs (Err e) = take e.0 cs

-- whether an edit copies bytes or makes a list longer
abbrev pub takes_memory : Change → Bool
takes_memory (Names n name) = true
takes_memory (Texts n text) = true
takes_memory (Comments n text) = true
takes_memory (Sets n key value) = true
takes_memory (Flags n key) = true
takes_memory (Unsets n key) = true
takes_memory (Bares n key) = true
takes_memory (Pushes n h) = true
takes_memory (Pulls n i) = false
takes_memory (Roots i h) = false

-- the edit at a place takes memory
abbrev pub TakesMemoryAt : List Change → ℕ → Type 0
TakesMemoryAt cs i = IsSomeAnd (slice_get cs i) (λ c. IsTrue (takes_memory c))

-- no edit of these takes memory
abbrev pub TakeNoMemory : List Change → Type 0
TakeNoMemory cs = AllByRecursion (λ c. takes_memory c ≡ false) cs
