-- What a walker has still to give.
use Rattle.std.specs.Prelude.{◌≡◌, ℕ, Bool, List, [], ◌∷◌, ◌++◌, length, map, Option, Some, None, Result, Ok, Err, IfSome, ⊤}
use Rattle.std.specs.List.{slice_get}
use Rattle.tl_spec.specs.Tree.Document.{Node, TagNode}
use Rattle.tl_spec.specs.Walk.{Event as SpecEvent, meets, leaves, faulty, all_tags, prints_children, walk, events, TreeFault}
use Rattle.tl_table.specs.declared.errors.TreeError.{TreeError}
use Rattle.tl_table.specs.TreeFault.{fault_of, IsRefusal}
use Rattle.tl.specs.declared.walk.Entered.{Entered}
use Rattle.tl.specs.declared.walk.Entered.TheVariants.{All, Printed}
use Rattle.tl.specs.declared.walk.Frame.{Frame}
use Rattle.tl.specs.declared.walk.Walker.{Walker}
use Rattle.tl.specs.declared.walk.WalkEvent.{WalkEvent}
use Rattle.tl.specs.declared.walk.WalkEvent.TheVariants.{Meets, Leaves}
use Rattle.tl.specs.Marks.{AreFresh, IsKept}
use Rattle.tl.specs.Remaining.{Around, FailsAt, Place, Remaining, Within, nothing_left, remaining_of, step}
use Rattle.tl.specs.View.{HTMLNode, node_view, tag_view}
use Rattle.tl_spec.specs.Print.Text.{event_text}

-- the names of the tags that are entered
abbrev pub enters : Entered → List ℕ → Bool
enters All = all_tags
enters Printed = prints_children

-- the handles of the frames, the last first, before a path
abbrev pub path_from : List ℕ → List Frame → List ℕ
path_from path [] = path
path_from path (f ∷ fs) = path_from (f.handle ∷ path) fs

module _ (entered : List ℕ → Bool) (nodes : List Node) where
  -- what comes once the frames are taken one by one, the last first, and `later` after them
  abbrev pub after_frames_from : List ℕ → List SpecEvent → List Frame → List SpecEvent
  after_frames_from path later [] = later
  after_frames_from path later (f ∷ fs) =
      after_frames_from (f.handle ∷ path) (leaves (tag_view f.tag.now)
      ∷ (events (walk entered nodes path f.rest.now) ++ later)) fs

  -- what comes once nothing is left below the frames
  unfoldable pub after_frames : List Frame → List SpecEvent
  after_frames fs = after_frames_from [] [] fs

  -- what comes of handles below the frames, and then of the frames
  abbrev pub events_to_come_below : List Frame → List ℕ → List SpecEvent
  events_to_come_below fs hs = events (walk entered nodes (path_from [] fs) hs) ++ after_frames fs

-- the path of a walker
abbrev pub path_of : Walker → List ℕ
path_of w = path_from [] w.frames.items

-- what is left, where these handles come first
abbrev pub events_to_come_at : Walker → List ℕ → List SpecEvent
events_to_come_at w hs =
    events_to_come_below (enters w.entered) (map node_view w.nodes.now) w.frames.items hs

-- what is left once this tag is entered
abbrev pub events_to_come_in : ℕ → TagNode → Walker → List SpecEvent
events_to_come_in h own w = events (walk (enters w.entered) (map node_view w.nodes.now)
    (h ∷ path_of w) own.children.items) ++ (leaves own ∷ events_to_come_at w w.rest.now)

-- what is left
abbrev pub events_to_come : Walker → List SpecEvent
events_to_come w = events_to_come_at w w.rest.now

-- an event in the words of the definitions
abbrev pub event_view : WalkEvent → SpecEvent
event_view (Meets h n) = meets h (node_view n.now)
event_view (Leaves t) = leaves (tag_view t.now)

-- the node that is met is that of its handle in this table
abbrev pub IsMetIn : List HTMLNode → WalkEvent → Type 0
IsMetIn nodes (Meets h n) = slice_get nodes h ≡ Some n.now
IsMetIn nodes (Leaves t) = ⊤

-- a list that begins with this
abbrev pub IsLedBy : SpecEvent → List SpecEvent → Type 0
IsLedBy e es = (rest : List SpecEvent) × (es ≡ e ∷ rest)

-- a fault comes first; or memory ran out
abbrev pub Refuses : List SpecEvent → TreeError → Type 0
Refuses before error = IfSome (fault_of error) (λ fault. IsLedBy (faulty fault) before)

-- one event is taken, or there is none left
abbrev pub Takes : List SpecEvent → Option WalkEvent → List SpecEvent → Type 0
Takes before (Some e) after = before ≡ event_view e ∷ after
Takes before None after = before ≡ []

-- one step of a walk: an event, its end, or its first fault
abbrev pub Steps : List SpecEvent → Result (Option WalkEvent) TreeError → List SpecEvent → Type 0
Steps before (Ok e) after = Takes before e after
Steps before (Err error) after = Refuses before error

-- how a walker knows its path
pub record IsMarked (w : Walker) : Type 0 where
  pub kept : IsKept (length w.nodes.now) (path_of w) w.marks.items
  pub fresh : AreFresh (length w.nodes.now) (path_of w)

module _ (nodes : List Node) where
  -- the tags of the frames, the last first, before those around them
  abbrev pub around_from : List ℕ → List Around → List Frame → List Around
  around_from path outer [] = outer
  around_from path outer (f ∷ fs) = around_from (f.handle ∷ path)
      (record { own = tag_view f.tag.now; more = walk all_tags nodes path f.rest.now } ∷ outer) fs

  unfoldable pub around : List Frame → List Around
  around fs = around_from [] [] fs

  -- what is left of a walk that enters every tag, where these handles come first
  abbrev pub remaining_below : List Frame → List ℕ → Remaining
  remaining_below fs hs = record {
    inside = walk all_tags nodes (path_from [] fs) hs;
    around = around fs;
  }

-- what is left of a walker's walk that enters every tag, where these handles come first
abbrev pub remaining_at : Walker → List ℕ → Remaining
remaining_at w hs = remaining_below (map node_view w.nodes.now) w.frames.items hs

abbrev pub remaining : Walker → Remaining
remaining w = remaining_at w w.rest.now

-- what is left once this tag is entered
abbrev pub remaining_in : ℕ → TagNode → Walker → Remaining
remaining_in h own w =
    let nodes = map node_view w.nodes.now in
    let after = remaining w in
    record {
      inside = walk all_tags nodes (h ∷ path_of w) own.children.items;
      around = record { own = own; more = after.inside } ∷ after.around;
    }

-- the next event is taken, or there is none
abbrev pub TakesNext : Remaining → Option WalkEvent → Remaining → Type 0
TakesNext before (Some e) after = step before ≡ Some (event_view e, after)
TakesNext before None after = (step before ≡ None) × (after ≡ before)

-- one step of a walk that enters every tag
abbrev pub StepsOn : Remaining → Result (Option WalkEvent) TreeError → Remaining → Type 0
StepsOn before (Ok e) after = TakesNext before e after
StepsOn before (Err error) after = FailsAt (step before) error

-- the tags of the frames, the last first, before those around them
abbrev pub within_from : List Within → List Frame → List Within
within_from outer [] = outer
within_from outer (f ∷ fs) = within_from
    (record { handle = f.handle; own = tag_view f.tag.now; rest = f.rest.now } ∷ outer) fs

-- where a walker stands
abbrev pub place_of : Walker → Place
place_of w = record {
  nodes = map node_view w.nodes.now;
  next = w.rest.now;
  within = within_from [] w.frames.items;
}

-- what `next` of a walk gives, of what is left of it: nothing is left after an error
abbrev pub Gives : Remaining → Option (Result WalkEvent TreeError) → Remaining → Type 0
Gives before None after = (step before ≡ None) × (after ≡ before)
Gives before (Some (Ok e)) after = step before ≡ Some (event_view e, after)
Gives before (Some (Err error)) after = FailsAt (step before) error × (after ≡ nothing_left)

abbrev pub IsNext : Place → Option (Result WalkEvent TreeError) → Place → Type 0
IsNext before result after = Gives (remaining_of before) result (remaining_of after)

-- where there is no fault the text was written after `old`
abbrev pub Writes : {A : Type 0} → Option TreeFault → List ℕ → List ℕ → Result A TreeError →
    List ℕ → Type 0
Writes fault text old (Ok u) new = (fault ≡ None) × (new ≡ old ++ text)
Writes fault text old (Err error) new = IsRefusal fault error

-- the text of a node by itself: that of a text alone, whichever its handle is
abbrev pub own_text : Node → List ℕ
own_text node = event_text (meets 0 node)
