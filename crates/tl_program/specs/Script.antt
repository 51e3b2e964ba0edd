-- What steps make of a table.
use Rattle.std.specs.Prelude.{◌≡◌, ℕ, Bool, true, List, take, slice_get, Some, None, Result, Ok, Err, IsOk, IsTrue, IsSomeAnd}
use Rattle.std.specs.Borrow.{MutBor}
use Rattle.tl_bytes.specs.Held.{Kept, as_owned}
use Rattle.tl_spec.specs.Tree.Document.{Document}
use Rattle.tl_spec.specs.Edit.{Change, Refusal, no_node, not_tag, no_place, apply_change, apply_changes, none_refused, refusal_at}
use Rattle.tl.specs.Inner.Node.{tag_of}
use Rattle.tl.specs.Tag.{Tag}
use Rattle.tl.specs.Table.{Table}
use Rattle.tl.specs.View.{HTMLTag, HTMLNode, HTMLTable}
use Rattle.tl.specs.declared.parser.tag.node.NodeOf.TheVariants.{Tag as ATag}
use Rattle.tl_program.specs.TableEdit.{at_node, of_tag}
use Rattle.tl_program.specs.declared.script.step.StepError.{StepError}
use Rattle.tl_program.specs.declared.script.step.StepError.TheVariants.{NoNode, NotTag, NoPlace, OutOfMemory}

-- an edit is refused for this cause; want of memory is looked at last, so the edit itself, which
-- takes memory, is not refused there
abbrev pub IsRefused : {A : Type 0} → Bool → Result A Refusal → StepError → Type 0
IsRefused takes r NoNode = r ≡ Err no_node
IsRefused takes r NotTag = r ≡ Err not_tag
IsRefused takes r NoPlace = r ≡ Err no_place
IsRefused takes r OutOfMemory = IsTrue takes × IsOk r

-- a reference shows the tag at a number of a table, or there is none for this cause
abbrev pub IsTagAt : {A B O M : Type 0} → Table A B O M → ℕ → Result (MutBor (Tag A B)) StepError →
    Type 0
IsTagAt d n (Ok tag) = slice_get d.nodes n ≡ Some (ATag tag.now)
IsTagAt d n (Err NoNode) = slice_get d.nodes n ≡ None
IsTagAt d n (Err NotTag) = IsSomeAnd (slice_get d.nodes n) (λ node. tag_of node ≡ None)
IsTagAt d n (Err NoPlace) = ⊥
IsTagAt d n (Err OutOfMemory) = ⊥

-- the new tag or table is the edited one, or the old one where the edit, which may take memory, is
-- refused
abbrev pub Changes : {A S : Type 0} → Bool → (S → Result S Refusal) → S → S → Result A StepError →
    Type 0
Changes takes edit old new (Ok x) = edit old ≡ Ok new
Changes takes edit old new (Err e) = (new ≡ old) × IsRefused takes (edit old) e

-- wherever the change makes an edit of a tag, the new table has the tag at a number edited so, or
-- is the old one
abbrev pub ChangesTagAt : {A : Type 0} → ℕ → (HTMLTag → Result A StepError → HTMLTag → Type 0) →
    HTMLTable → HTMLTable → Result A StepError → Type 0
ChangesTagAt {A} number Made old new r =
    (takes : Bool) (edit : HTMLTag → Result HTMLTag Refusal) →
    ((tag made : HTMLTag) (told : Result A StepError) → Made tag told made →
    Changes takes edit tag made told)
    → Changes takes (at_node number (of_tag edit)) old new r

-- the new table has what is made of the text at a number, or is the old one
abbrev pub ReplacesNode : {A : Type 0} → ℕ → List ℕ → (Kept → HTMLNode → Type 0) → HTMLTable →
    HTMLTable → Result A StepError → Type 0
ReplacesNode number text Makes old new r =
    (node : HTMLNode) → ((made : HTMLNode) → Makes (as_owned text) made → made ≡ node) →
    Changes true (at_node number (λ _. Ok node)) old new r

-- the edits of d at the places before i make e, and the edit at i is refused for this cause
abbrev pub StopsAt : List Change → Document → Document → ℕ → StepError → Type 0
StopsAt cs d e i NoNode = apply_changes cs d ≡ refusal_at i no_node e
StopsAt cs d e i NotTag = apply_changes cs d ≡ refusal_at i not_tag e
StopsAt cs d e i NoPlace = apply_changes cs d ≡ refusal_at i no_place e
StopsAt cs d e i OutOfMemory = (apply_changes (take i cs) d ≡ none_refused e)
    × IsSomeAnd (slice_get cs i) (λ c. IsOk (apply_change c e))
