-- What edits leave as it was, and how lists of edits compose.
use Rattle.std.specs.Prelude.{◌≡◌, ℕ, ◌+◌, ⊤, length, Some, option_map}
use Rattle.std.specs.List.{slice_get}
use Rattle.tl_spec.specs.Tree.Document.{Node, Tag, Raw, Comment, Document}
use Rattle.tl_spec.specs.Edit.{Edited}

-- the place of a refusal counted from n edits earlier
abbrev pub shift_place_by : ℕ → Edited → Edited
shift_place_by n e = record e { refused = option_map (λ r. (n + r.0, r.1)) e.refused }

-- a tag that stays one keeps its raw and its start, and what was no tag becomes none
abbrev pub KeepsSource : Node → Node → Type 0
KeepsSource (Tag own) (Tag new) = (new.raw ≡ own.raw) × (new.start ≡ own.start)
KeepsSource (Raw bytes) (Tag new) = ⊥
KeepsSource (Comment bytes) (Tag new) = ⊥
KeepsSource old (Raw bytes) = ⊤
KeepsSource old (Comment bytes) = ⊤

-- no node or top node came or went, each tag stands where it stood, and the version is the old one
pub record KeepsShape (d e : Document) : Type 0 where
  pub nodes : length e.nodes ≡ length d.nodes
  pub top : length e.top ≡ length d.top
  pub sources : (n : ℕ) (old new : Node) → slice_get d.nodes n ≡ Some old →
      slice_get e.nodes n ≡ Some new → KeepsSource old new
  pub version : e.is_html5 ≡ d.is_html5
