-- What a walk that enters every tag has still to give.
use Rattle.std.proofs.Common.{◌≡◌, ℕ, ◌<◌, Bool, true, false, ◌⊎◌, inl, inr, List, [], ◌∷◌, ◌++◌, length, map, Option, Some, None, Ok, Err, refl, ap, sym, ◌∙◌, subst, arith, append_assoc}
use Rattle.std.specs.List.{slice_get, AllByRecursion}
use Rattle.tl_spec.specs.Tree.Document.{Node, Tag, Raw, Comment, TagNode}
use Rattle.tl_spec.specs.Walk.{Cycle, Dangling, Event, Walk, end, events, all_tags, faulty, handle_walk, leaves, meets, meets_comment, meets_fault, meets_tag, meets_text, passes_tag, stands_on, TreeFault, walk}
use Rattle.tl_spec.proofs.Walk.Events.{Enters}
use Rattle.tl_spec.proofs.Walk.Walks.{walk-cons, walk-nil}
use Rattle.tl_table.specs.declared.errors.TreeError.TheVariants.{Dangling as DanglingError, Cycle as CycleError, OutOfMemory}
use Rattle.tl.specs.declared.walk.Frame.{Frame}
use Rattle.tl.specs.Remaining.{Around, FailsAt, Place, Remaining, Within, around_within, events_around, events_left, nothing_left, path_within, remaining_of, step, step_in, step_out}
use Rattle.tl.specs.View.{node_view, tag_view}
use Rattle.tl.specs.Walker.{IsLedBy, IsNext, around, around_from, path_from, place_of, remaining, remaining_below, event_view, within_from}
use Rattle.tl.specs.declared.walk.Walker.{Walker}
use Rattle.tl.specs.declared.walk.WalkEvent.{WalkEvent}
use Rattle.tl_table.specs.declared.errors.TreeError.{TreeError}
use Rattle.tl.proofs.Frames.{path-push}

-- an event, and what is left then
abbrev pub next_at : Event → Remaining → Option (Event × Remaining)
next_at e left = Some (e, left)

module _ (nodes : List Node) where
  around_from-push : (path : List ℕ) (outer : List Around) (fs : List Frame) (f : Frame) →
      around_from nodes path outer (fs ++ f ∷ []) ≡ record { own = tag_view f.tag.now; more = walk all_tags nodes (path_from path fs) f.rest.now } ∷ around_from nodes path outer fs
  around_from-push path outer [] f = refl
  around_from-push path outer (g ∷ fs) f = around_from-push (g.handle ∷ path) (record { own = tag_view g.tag.now; more = walk all_tags nodes path g.rest.now } ∷ outer) fs f

  pub around-push : (fs : List Frame) (f : Frame) →
      around nodes (fs ++ f ∷ []) ≡ record { own = tag_view f.tag.now; more = walk all_tags nodes (path_from [] fs) f.rest.now } ∷ around nodes fs
  unfolding around
  around-push fs f = around_from-push [] [] fs f

  pub around-none : around nodes [] ≡ []
  unfolding around
  around-none = refl

  -- a walk that has ended
  pub remaining-over : (frames : List Frame) (hs : List ℕ) → frames ≡ [] → hs ≡ [] → remaining_below nodes frames hs ≡ nothing_left
  remaining-over frames hs e r = rw (e, r, around-none, walk-nil all_tags nodes []) refl

  -- nothing is left inside
  pub remaining-skipped : (frames : List Frame) (hs : List ℕ) → hs ≡ [] → remaining_below nodes frames hs ≡ record { inside = end; around = around nodes frames }
  remaining-skipped frames hs r = rw (r, walk-nil all_tags nodes (path_from [] frames)) refl

  module _ (rest : List ℕ) (frames : List Frame) where
    -- the last frame is taken where nothing is left inside
    pub step-popped : (fs : List Frame) (f : Frame) → rest ≡ [] → frames ≡ fs ++ f ∷ [] →
        step (remaining_below nodes frames rest) ≡ Some (leaves (tag_view f.tag.now), remaining_below nodes fs f.rest.now)
    step-popped fs f r e =
        ap step (remaining-skipped frames rest r)
        ∙ ap step_out (ap (around nodes) e ∙ around-push fs f)

    -- nothing is left at all
    pub step-drained : rest ≡ [] → frames ≡ [] → step (remaining_below nodes frames rest) ≡ None
    step-drained r e = ap step (remaining-over frames rest e r)

    -- a frame more
    pub remaining-pushed : (new : List Frame) (h : ℕ) (f : Frame) (hs : List ℕ) → new ≡ frames ++ f ∷ [] → f.handle ≡ h → f.rest.now ≡ rest →
        remaining_below nodes new hs
        ≡ record { inside = walk all_tags nodes (h ∷ path_from [] frames) hs; around = record { own = tag_view f.tag.now; more = walk all_tags nodes (path_from [] frames) rest } ∷ around nodes frames }
    remaining-pushed new h f hs n fh fr =
        let longer : path_from [] new ≡ h ∷ path_from [] frames = ap (path_from []) n ∙ path-push [] frames f ∙ ap (λ x. x ∷ path_from [] frames) fh in
        let outer : around nodes new ≡ record { own = tag_view f.tag.now; more = walk all_tags nodes (path_from [] frames) rest } ∷ around nodes frames
        = ap (around nodes) n ∙ around-push frames f ∙ ap (λ r. record { own = tag_view f.tag.now; more = walk all_tags nodes (path_from [] frames) r } ∷ around nodes frames) fr in
        (λ i. record { inside = walk all_tags nodes (longer i) hs; around = outer i })

    module _ (h : ℕ) where
      step-handle : (b : Bool) (o : Option Node) → stands_on (path_from [] frames) h ≡ b → slice_get nodes h ≡ o →
          step (remaining_below nodes frames (h ∷ rest))
          ≡ step_in (around nodes frames) (handle_walk all_tags nodes (walk all_tags nodes (h ∷ path_from [] frames)) h (walk all_tags nodes (path_from [] frames) rest) b o)
      step-handle b o stands is = ap (step_in (around nodes frames)) (walk-cons all_tags nodes (path_from [] frames) h rest b o stands is)

      step-dangling : slice_get nodes h ≡ None → step (remaining_below nodes frames (h ∷ rest)) ≡ Some (faulty (Dangling h), nothing_left)
      step-dangling is = step-handle (stands_on (path_from [] frames) h) None refl is

      step-cycle : (node : Node) → slice_get nodes h ≡ Some node → stands_on (path_from [] frames) h ≡ true → step (remaining_below nodes frames (h ∷ rest)) ≡ Some (faulty (Cycle h), nothing_left)
      step-cycle node is stands = step-handle true (Some node) stands is

      pub step-text : (bytes : List ℕ) → slice_get nodes h ≡ Some (Raw bytes) → stands_on (path_from [] frames) h ≡ false →
          step (remaining_below nodes frames (h ∷ rest)) ≡ Some (meets h (Raw bytes), remaining_below nodes frames rest)
      step-text bytes is new = step-handle false (Some (Raw bytes)) new is

      pub step-comment : (bytes : List ℕ) → slice_get nodes h ≡ Some (Comment bytes) → stands_on (path_from [] frames) h ≡ false →
          step (remaining_below nodes frames (h ∷ rest)) ≡ Some (meets h (Comment bytes), remaining_below nodes frames rest)
      step-comment bytes is new = step-handle false (Some (Comment bytes)) new is

      pub step-tag : (own : TagNode) → slice_get nodes h ≡ Some (Tag own) → stands_on (path_from [] frames) h ≡ false →
          step (remaining_below nodes frames (h ∷ rest))
          ≡ Some (meets h (Tag own), record { inside = walk all_tags nodes (h ∷ path_from [] frames) own.children.items; around = record { own = own; more = walk all_tags nodes (path_from [] frames) rest } ∷ around nodes frames })
      step-tag own is new = step-handle false (Some (Tag own)) new is

      memory-by : (below : List ℕ → Walk) (m : Walk) (b : Bool) (o : Option Node) → FailsAt (step_in (around nodes frames) (handle_walk all_tags nodes below h m b o)) OutOfMemory
      memory-by below m b None = tt
      memory-by below m true (Some node) = tt
      memory-by below m false (Some (Raw bytes)) = tt
      memory-by below m false (Some (Comment bytes)) = tt
      memory-by below m false (Some (Tag own)) = tt

      pub fails-dangling : slice_get nodes h ≡ None → FailsAt (step (remaining_below nodes frames (h ∷ rest))) (DanglingError h)
      fails-dangling is = subst (λ s. FailsAt s (DanglingError h)) (sym (step-dangling is)) refl

      pub fails-cycle : (node : Node) → slice_get nodes h ≡ Some node → stands_on (path_from [] frames) h ≡ true → FailsAt (step (remaining_below nodes frames (h ∷ rest))) (CycleError h)
      fails-cycle node is stands = subst (λ s. FailsAt s (CycleError h)) (sym (step-cycle node is stands)) refl

      -- where a handle is left an event comes, which want of memory may hide
      pub fails-memory : FailsAt (step (remaining_below nodes frames (h ∷ rest))) OutOfMemory
      fails-memory =
          subst (λ s. FailsAt s OutOfMemory) (sym (step-handle (stands_on (path_from [] frames) h) (slice_get nodes h) refl refl))
          (memory-by (walk all_tags nodes (h ∷ path_from [] frames)) (walk all_tags nodes (path_from [] frames) rest) (stands_on (path_from [] frames) h) (slice_get nodes h))

abbrev step_pair : Event → Remaining → Event × Remaining
step_pair e left = (e, left)

pub next_same : (e f : Event) (left other : Remaining) → next_at e left ≡ next_at f other → (e ≡ f) × (left ≡ other)
next_same e f left other s =
    let both : step_pair e left ≡ step_pair f other = cc in
    (ap (λ (p : Event × Remaining). p.0) both, ap (λ (p : Event × Remaining). p.1) both)

-- a step takes the first of the events that are left, but that nothing comes after a fault

-- the first of these is the event; what is left are the others, but nothing after a fault
abbrev pub FollowsIn : List Event → Event → Remaining → Type 0
FollowsIn before e after = (before ≡ e ∷ events_left after) ⊎ ((fault : TreeFault) × (e ≡ faulty fault) × (after ≡ nothing_left) × IsLedBy e before)

module _ (e : Event) (after : Remaining) where
  follows : (f : Event) (left : Remaining) (before : List Event) → next_at f left ≡ next_at e after → before ≡ f ∷ events_left left → FollowsIn before e after
  follows f left before s b = let same = next_same f e left after s in inl (b ∙ (λ i. same.0 i ∷ events_left (same.1 i)))

  follows-out : (outer : List Around) → step_out outer ≡ Some (e, after) → FollowsIn (events_around outer) e after
  follows-out [] s = absurd (cc)
  follows-out (tag ∷ outer) s = follows (leaves tag.own) (record { inside = tag.more; around = outer }) (events_around (tag ∷ outer)) s refl

  follows-in : (outer : List Around) (w : Walk) → step_in outer w ≡ Some (e, after) → FollowsIn (events w ++ events_around outer) e after
  follows-in outer end s = follows-out outer s
  follows-in outer (meets_text h bytes more) s = follows (meets h (Raw bytes)) (record { inside = more; around = outer }) (events (meets_text h bytes more) ++ events_around outer) s refl
  follows-in outer (meets_comment h bytes more) s = follows (meets h (Comment bytes)) (record { inside = more; around = outer }) (events (meets_comment h bytes more) ++ events_around outer) s refl
  follows-in outer (meets_tag h own children more) s =
      follows (meets h (Tag own)) (record { inside = children; around = record { own = own; more = more } ∷ outer }) (events (meets_tag h own children more) ++ events_around outer) s
      (ap (λ es. meets h (Tag own) ∷ es) (append_assoc (events children) (leaves own ∷ events more) (events_around outer)))
  follows-in outer (passes_tag h own more) s = follows (meets h (Tag own)) (record { inside = more; around = outer }) (events (passes_tag h own more) ++ events_around outer) s refl
  follows-in outer (meets_fault f more) s =
      let same = next_same (faulty f) e nothing_left after s in
      inr (f, sym same.0, sym same.1, (events more ++ events_around outer, (λ i. same.0 i ∷ (events more ++ events_around outer))))

pub follows-step : (r : Remaining) (e : Event) (after : Remaining) → step r ≡ Some (e, after) → FollowsIn (events_left r) e after
follows-step r e after s = follows-in e after r.around r.inside s

-- so fewer are left
pub fewer-step : (r : Remaining) (e : Event) (after : Remaining) → step r ≡ Some (e, after) → length (events_left after) < length (events_left r)
fewer-step r e after s = elim (follows-step r e after s) [
  | inl f ↦ let n = ap length f in omega arith
  | inr f ↦ let n = ap length f.3.1 in let none : length (events_left after) ≡ 0 = ap (λ (q : Remaining). length (events_left q)) f.2 in omega arith
]

fewer-at : (r q : Remaining) (error : TreeError) (o : Option (Event × Remaining)) → step r ≡ o → FailsAt o error → q ≡ nothing_left → length (events_left q) < length (events_left r)
fewer-at r q error None s fails over = absurd fails
fewer-at r q error (Some next) s fails over =
    let less = fewer-step r next.0 next.1 s in
    let none : length (events_left q) ≡ 0 = ap (λ (x : Remaining). length (events_left x)) over in
    omega arith

-- and none after an error
pub fewer-error : (r q : Remaining) (error : TreeError) → FailsAt (step r) error → q ≡ nothing_left → length (events_left q) < length (events_left r)
fewer-error r q error fails over = fewer-at r q error (step r) refl fails over

-- every tag is entered

abbrev pub IsEntered : Remaining → Type 0
IsEntered r = Enters all_tags r.inside × AllByRecursion (λ tag. Enters all_tags tag.more) r.around

module _ (e : Event) (after : Remaining) where
  entered-at : (f : Event) (left : Remaining) → next_at f left ≡ next_at e after → IsEntered left → IsEntered after
  entered-at f left s enters = subst IsEntered (next_same f e left after s).1 enters

  entered-out : (outer : List Around) → step_out outer ≡ Some (e, after) → AllByRecursion (λ tag. Enters all_tags tag.more) outer → IsEntered after
  entered-out [] s all = absurd (cc)
  entered-out (tag ∷ outer) s all = entered-at (leaves tag.own) (record { inside = tag.more; around = outer }) s all

  entered-in : (outer : List Around) (w : Walk) → step_in outer w ≡ Some (e, after) → Enters all_tags w → AllByRecursion (λ tag. Enters all_tags tag.more) outer → IsEntered after
  entered-in outer end s here all = entered-out outer s all
  entered-in outer (meets_text h bytes more) s here all = entered-at (meets h (Raw bytes)) (record { inside = more; around = outer }) s (here, all)
  entered-in outer (meets_comment h bytes more) s here all = entered-at (meets h (Comment bytes)) (record { inside = more; around = outer }) s (here, all)
  entered-in outer (meets_tag h own children more) s here all =
      entered-at (meets h (Tag own)) (record { inside = children; around = record { own = own; more = more } ∷ outer }) s (here.1, (here.2, all))
  entered-in outer (passes_tag h own more) s here all = entered-at (meets h (Tag own)) (record { inside = more; around = outer }) s (here.1, all)
  entered-in outer (meets_fault f more) s here all = entered-at (faulty f) nothing_left s (tt, tt)

-- what is left by the place of a walk

-- the place of a walk over nodes with these frames
abbrev pub fresh_place : List Node → List ℕ → List Frame → Place
fresh_place nodes next frames = record { nodes = nodes; next = next; within = within_from [] frames }

place-around : (nodes : List Node) (outer : List Within) (fs : List Frame) → around_within nodes (within_from outer fs) ≡ around_from nodes (path_within outer) (around_within nodes outer) fs
place-around nodes outer [] = refl
place-around nodes outer (f ∷ fs) = place-around nodes (record { handle = f.handle; own = tag_view f.tag.now; rest = f.rest.now } ∷ outer) fs

place-path : (outer : List Within) (fs : List Frame) → path_within (within_from outer fs) ≡ path_from (path_within outer) fs
place-path outer [] = refl
place-path outer (f ∷ fs) = place-path (record { handle = f.handle; own = tag_view f.tag.now; rest = f.rest.now } ∷ outer) fs

pub place-remaining : (w : Walker) → remaining_of (place_of w) ≡ remaining w
unfolding around
place-remaining w =
    let nodes = map node_view w.nodes.now in
    let path = place-path [] w.frames.items in
    let outer = place-around nodes [] w.frames.items in
    (λ i. record { inside = walk all_tags nodes (path i) w.rest.now; around = outer i })

pub place-skipped : (p : Place) → remaining_of (record p { next = [] }) ≡ record (remaining_of p) { inside = end }
place-skipped p = (λ i. record { inside = walk-nil all_tags p.nodes (path_within p.within) i; around = around_within p.nodes p.within })

-- one step of a walker that enters every tag is one of the walk

module _ (w v : Walker) where
  pub given-event : (e : WalkEvent) → step (remaining w) ≡ Some (event_view e, remaining v) → IsNext (place_of w) (Some (Ok e)) (place_of v)
  given-event e s = ap step (place-remaining w) ∙ s ∙ ap (next_at (event_view e)) (sym (place-remaining v))

  pub given-end : (step (remaining w) ≡ None) × (remaining v ≡ remaining w) → IsNext (place_of w) None (place_of v)
  given-end s = (ap step (place-remaining w) ∙ s.0, place-remaining v ∙ s.1 ∙ sym (place-remaining w))

  pub given-error : (error : TreeError) → FailsAt (step (remaining w)) error → remaining v ≡ nothing_left → IsNext (place_of w) (Some (Err error)) (place_of v)
  given-error error fails over = (subst (λ (r : Remaining). FailsAt (step r) error) (sym (place-remaining w)) fails, place-remaining v ∙ over)
