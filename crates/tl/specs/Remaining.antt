-- What a walk has still to give.
use Rattle.std.specs.Prelude.{◌≡◌, ℕ, List, [], ◌∷◌, ◌++◌, map, Option, Some, None, IfSome}
use Rattle.tl_spec.specs.Tree.Document.{Node, Tag, Raw, Comment, TagNode}
use Rattle.tl_spec.specs.Walk.{Event, Walk, end, events, all_tags, faulty, leaves, meets, meets_comment, meets_fault, meets_tag, meets_text, passes_tag, walk}
use Rattle.tl_table.specs.declared.errors.TreeError.{TreeError}
use Rattle.tl_table.specs.TreeFault.{fault_of}

-- a tag that the walk is in, and what is met after it
pub record Around : Type 0 where
  pub own : TagNode
  pub more : Walk

-- what is met next inside the tag that the walk is in, and the tags around it, the innermost first
pub record Remaining : Type 0 where
  pub inside : Walk
  pub around : List Around

-- nothing is left
abbrev pub nothing_left : Remaining
nothing_left = record { inside = end; around = [] }

-- the events that are left once nothing is left inside
abbrev pub events_around : List Around → List Event
events_around [] = []
events_around (tag ∷ outer) = leaves tag.own ∷ events tag.more ++ events_around outer

-- all events that are left, if nothing is skipped
abbrev pub events_left : Remaining → List Event
events_left r = events r.inside ++ events_around r.around

-- the innermost tag is left
abbrev pub step_out : List Around → Option (Event × Remaining)
step_out [] = None
step_out (tag ∷ outer) = Some (leaves tag.own, record { inside = tag.more; around = outer })

-- the next event, and what is left then: nothing comes after a fault
abbrev pub step_in : List Around → Walk → Option (Event × Remaining)
step_in around end = step_out around
step_in around (meets_text h bytes more) =
    Some (meets h (Raw bytes), record { inside = more; around = around })
step_in around (meets_comment h bytes more) =
    Some (meets h (Comment bytes), record { inside = more; around = around })
step_in around (meets_tag h own children more) =
    Some (
      meets h (Tag own),
      record {
        inside = children;
        around = record { own = own; more = more } ∷ around;
      },
    )
step_in around (passes_tag h own more) =
    Some (meets h (Tag own), record { inside = more; around = around })
step_in around (meets_fault e more) = Some (faulty e, nothing_left)

abbrev pub step : Remaining → Option (Event × Remaining)
step r = step_in r.around r.inside

-- the error says the fault that comes next; or memory ran out before what comes next
abbrev pub FailsAt : Option (Event × Remaining) → TreeError → Type 0
FailsAt None error = ⊥
FailsAt (Some next) error = IfSome (fault_of error) (λ fault. next.0 ≡ faulty fault)

-- a tag that a walk is in, by its handle, and the handles that come after it
pub record Within : Type 0 where
  pub handle : ℕ
  pub own : TagNode
  pub rest : List ℕ

-- where a walk over nodes that enters every tag stands: the handles that come next, and the tags
-- that it is in, the innermost first
pub record Place : Type 0 where
  pub nodes : List Node
  pub next : List ℕ
  pub within : List Within

-- the path of these tags, the last handle first
abbrev pub path_within : List Within → List ℕ
path_within tags = map (λ tag. tag.handle) tags

module _ (nodes : List Node) where
  -- what is met after these tags
  abbrev pub around_within : List Within → List Around
  around_within [] = []
  around_within (tag ∷ outer) = record
      { own = tag.own; more = walk all_tags nodes (path_within outer) tag.rest }
      ∷ around_within outer

-- what is left of a walk that stands there
abbrev pub remaining_of : Place → Remaining
remaining_of p = record {
  inside = walk all_tags p.nodes (path_within p.within) p.next;
  around = around_within p.nodes p.within;
}

-- its events, if nothing is skipped
abbrev pub events_of : Place → List Event
events_of p = events_left (remaining_of p)

-- a tag was met at the first place, whose next handle is its own: what hangs below it comes, then
-- it is left, and then comes what comes after it; where what hangs below it is skipped it is left
-- at once
pub record MeetsTag (h : ℕ) (own : TagNode) (p q : Place) : Type 0 where
  pub rest : List ℕ
  pub next : p.next ≡ h ∷ rest
  pub whole : events_of p ≡ meets h (Tag own)
      ∷ events (walk all_tags p.nodes (h ∷ path_within p.within) own.children.items)
      ++ leaves own ∷ events_of (record p { next = rest })
  pub skipped : events_of (record q { next = [] })
      ≡ leaves own ∷ events_of (record p { next = rest })
