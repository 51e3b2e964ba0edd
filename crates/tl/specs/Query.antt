-- What a query gives.
use Rattle.std.specs.Prelude.{◌≡◌, ℕ, ◌+◌, ◌-◌, List, length, map, Option, Some, None, Result, Ok, Err, slice_get, unwrap_or}
use Rattle.std.specs.Borrow.{Bor}
use Rattle.std.specs.Option.{option_map}
use Rattle.tl_spec.specs.Tree.Document.{Document, Node}
use Rattle.tl_spec.specs.Select.Selector.{Selector}
use Rattle.tl_spec.specs.Select.Meaning.{AreMatches}
use Rattle.tl_spec.specs.Select.Search.{matches_between}
use Rattle.tl_spec.specs.Select.Text.{IsSelectorText}
use Rattle.tl_spec.specs.Walk.{TreeFault}
use Rattle.tl_spec.specs.Walk.Range.{range_of}
use Rattle.tl.specs.View.{HTMLTable, node_view}
use Rattle.std.specs.List.{between}
use Rattle.std.specs.Result.{result_err}
use Rattle.tl_table.specs.TreeFault.{IsRefusal}
use Rattle.tl_table.specs.declared.errors.TreeError.{TreeError}

-- a node and its handle
abbrev pub item_of : {N : Type 0} → Bor N × ℕ → N × ℕ
item_of p = (p.0.now, p.1)

-- the node of a table at a place counted from a first number, and its handle
abbrev pub item_at : {N : Type 0} → Option ℕ → List N → ℕ → Option (N × ℕ)
item_at None nodes index = None
item_at (Some first) nodes index =
    option_map (λ node. (node, first + index)) (slice_get nodes (first + index))

-- how many numbers a range has
abbrev pub count_in : Result (ℕ × ℕ) TreeFault → Result ℕ TreeFault
count_in (Ok range) = Ok (range.1 - range.0)
count_in (Err fault) = Err fault

-- the numbers at which a selector holds, among so many from the first one on
abbrev pub AreAmong : List Node → Selector → Option ℕ → Result ℕ TreeFault → List ℕ → Type 0
AreAmong nodes e first count ns =
    (n : ℕ) × (count ≡ Ok n) × AreMatches nodes e (unwrap_or first 0) (unwrap_or first 0 + n) ns

-- the numbers at which a selector holds, in a range
abbrev pub AreIn : List Node → Result (ℕ × ℕ) TreeFault → Selector → List ℕ → Type 0
AreIn nodes is e ns = (range : ℕ × ℕ) × (is ≡ Ok range) × AreMatches nodes e range.0 range.1 ns

-- nothing where a text stands for no selector, and else what the selector finds that it stands for
abbrev pub FindsMatches : List ℕ → (Selector → List ℕ → Type 0) → Option (List ℕ) → Type 0
FindsMatches text AreFound None = (e : Selector) → IsSelectorText text e → ⊥
FindsMatches text AreFound (Some ns) = (e : Selector) × IsSelectorText text e × AreFound e ns

-- what is found of a document by the text of a selector
abbrev pub FindsIn : HTMLTable → List ℕ → Option (List ℕ) → Type 0
FindsIn d text found =
    FindsMatches text (λ e. AreMatches (map node_view d.nodes) e 0 (length d.nodes)) found

-- the numbers of all nodes of a document where a selector holds
abbrev pub matches_in : Document → Selector → List ℕ
matches_in d e = matches_between d.nodes e 0 (length d.nodes)

-- the nodes of a range, or the fault; or memory ran out
abbrev pub ReadsNodes : {N : Type 0} → Result (ℕ × ℕ) TreeFault → List N →
    Result (Bor (List N)) TreeError → Type 0
ReadsNodes is nodes (Ok part) =
    (range : ℕ × ℕ) × (is ≡ Ok range) × (part.now ≡ between range.0 range.1 nodes)
ReadsNodes is nodes (Err error) = IsRefusal (result_err is) error

-- what is found below a tag of these children by the text of a selector
abbrev pub FindsBelow : List Node → List ℕ → List ℕ → Option (List ℕ) → Type 0
FindsBelow nodes children text found =
    FindsMatches text (AreIn nodes (range_of nodes children)) found
