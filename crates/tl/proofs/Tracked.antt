-- What maps answer with one more node.
use Rattle.std.proofs.Common.{◌≡◌, ℕ, Bool, true, false, ◌++◌, ◌∷◌, [], List, Option, None, Some, is_some, refl, ap, ◌∙◌}
use Rattle.std.proofs.lemmas.Bool.{true≢false}
use Rattle.std.proofs.lemmas.Str.{is_utf8-from_IsUtf8, IsUtf8-from_is_utf8}
use Rattle.std.specs.Str.{IsUtf8, is_utf8}
use Rattle.tl_bytes.specs.Held.{Kept}
use Rattle.tl_bytes.specs.Keys.{same_list}
use Rattle.tl_spec.specs.Lookup.ClassMember.{members, parts}
use Rattle.tl_spec.specs.Tree.Document.{Node}
use Rattle.tl_spec.specs.Lookup.Scan.{id_of, class_of}
use Rattle.tl_spec.specs.Tree.Inline.{InlineVec}
use Rattle.tl_tracking.specs.Options.{Options}
use Rattle.tl_tracking.specs.Tracking.{Tracking, TracksIds, TracksClasses, no_maps, empty_when}
use Rattle.tl_tracking.proofs.Noted.{members_begin, members_end, id_missing}
use Rattle.tl.specs.View.{HTMLTag, HTMLNode, node_view}
use Rattle.tl.specs.Tracked.{AreAsked, AnswerIds, AnswerClasses, AnswerMembers}
use Rattle.tl.specs.declared.parser.tag.node.NodeOf.TheVariants.{Tag, Raw, Comment}

-- a node without an id needs no note
pub ids-without : (t : Tracking Kept) (nodes : List Node) (node : Node) → id_of node ≡ None → AnswerIds t nodes → AnswerIds t (nodes ++ node ∷ [])
ids-without t nodes node e h = id_missing (λ (b : Kept). b.list) same_list t.ids nodes node e h

-- a node is noted where its members are
pub classes-noted : (old new : Tracking Kept) (nodes : List Node) (node : Node) → (AnswerMembers old nodes [] → AnswerMembers new nodes (members (class_of node)))
    → AnswerClasses old nodes → AnswerClasses new (nodes ++ node ∷ [])
classes-noted old new nodes node noted h =
    members_end (λ (b : Kept). b.list) same_list new.classes nodes node (noted ((members_begin (λ (b : Kept). b.list) same_list old.classes nodes).0 h))

-- what is not tracked answers for any nodes
pub ids-untracked : (t : Tracking Kept) (nodes : List Node) → is_some t.ids ≡ false → AnswerIds t nodes
ids-untracked t nodes e = one t.ids e
  where
    one : (ids : Option (List (Kept × ℕ))) → is_some ids ≡ false → TracksIds (λ (b : Kept). b.list) same_list ids nodes
    one None e = tt
    one (Some pairs) e = absurd (true≢false e)

pub classes-untracked : (t : Tracking Kept) (nodes : List Node) → is_some t.classes ≡ false → AnswerClasses t nodes
classes-untracked t nodes e = one t.classes e
  where
    one : (classes : Option (List (Kept × InlineVec ℕ))) → is_some classes ≡ false → TracksClasses (λ (b : Kept). b.list) same_list classes nodes
    one None e = tt
    one (Some pairs) e = absurd (true≢false e)

-- what is no tag has neither
pub no-id : (node : HTMLNode) → ((x : HTMLTag) → node ≡ Tag x → ⊥) → id_of (node_view node) ≡ None
no-id (Tag t) not = absurd (not t refl)
no-id (Raw b) not = refl
no-id (Comment b) not = refl

pub no-class : (node : HTMLNode) → ((x : HTMLTag) → node ≡ Tag x → ⊥) → class_of (node_view node) ≡ None
no-class (Tag t) not = absurd (not t refl)
no-class (Raw b) not = refl
no-class (Comment b) not = refl

-- the members of bytes that are text, and of those that are none
pub members-of-text : (v : List ℕ) → IsUtf8 v → members (Some v) ≡ parts v
members-of-text v h = rw (is_utf8-from_IsUtf8 v h) refl

pub members-of-none : (v : List ℕ) → (IsUtf8 v → ⊥) → members (Some v) ≡ []
members-of-none v not = by (is_utf8 v) refl
  where
    by : (b : Bool) → is_utf8 v ≡ b → members (Some v) ≡ []
    by true e = absurd (not (IsUtf8-from_is_utf8 v e))
    by false e = rw e refl

-- before the first tag there is what is asked for
pub asked-first : (asked : Options) (key : ℕ) (t : Tracking Kept) → t ≡ no_maps asked key → AreAsked asked t
asked-first asked key t is = record { ids = ap (λ (u : Tracking Kept). is_some u.ids) is ∙ some-if _ asked.ids; classes = ap (λ (u : Tracking Kept). is_some u.classes) is ∙ some-if _ asked.classes }
  where
    some-if : (A : Type 0) (b : Bool) → is_some (empty_when {A = A} b) ≡ b
    some-if A true = refl
    some-if A false = refl
