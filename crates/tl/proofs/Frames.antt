-- What frames owe.
use Rattle.std.proofs.Common.{◌≡◌, ℕ, Bool, true, false, List, [], ◌∷◌, ◌++◌, length, Some, None, map, option_map, refl, ap, sym, ◌∙◌, append_assoc, append-nil, arith}
use Rattle.std.specs.List.{slice_get}
use Rattle.std.proofs.lemmas.Option.{slice_get-map}
use Rattle.tl_spec.specs.Tree.Document.{Node, Tag, Raw, Comment, TagNode}
use Rattle.tl_spec.specs.Walk.{Event, meets, leaves, faulty, Dangling, Cycle, stands_on, walk, events}
use Rattle.tl_spec.proofs.Walk.Events.{events-nil, events-dangling, events-cycle, events-text, events-comment, events-tag, events-passed}
use Rattle.tl.specs.declared.walk.Frame.{Frame}
use Rattle.tl.specs.View.{HTMLNode, node_view, tag_view}
use Rattle.tl.specs.Walker.{path_from, after_frames_from, after_frames, events_to_come_below}

pub path-push : (path : List ℕ) (fs : List Frame) (f : Frame) → path_from path (fs ++ f ∷ []) ≡ f.handle ∷ path_from path fs
path-push path [] f = refl
path-push path (g ∷ fs) f = path-push (g.handle ∷ path) fs f

pub empty_of_length : {A : Type 0} (xs : List A) → length xs ≡ 0 → xs ≡ []
empty_of_length [] e = refl
empty_of_length (x ∷ xs) e = absurd (omega arith)

module _ (entered : List ℕ → Bool) (nodes : List Node) where
  after_frames_from-push : (path : List ℕ) (later : List Event) (fs : List Frame) (f : Frame) →
      after_frames_from entered nodes path later (fs ++ f ∷ []) ≡ leaves (tag_view f.tag.now) ∷ (events (walk entered nodes (path_from path fs) f.rest.now) ++ after_frames_from entered nodes path later fs)
  after_frames_from-push path later [] f = refl
  after_frames_from-push path later (g ∷ fs) f = after_frames_from-push (g.handle ∷ path) (leaves (tag_view g.tag.now) ∷ (events (walk entered nodes path g.rest.now) ++ later)) fs f

  pub owed-push : (fs : List Frame) (f : Frame) → after_frames entered nodes (fs ++ f ∷ []) ≡ leaves (tag_view f.tag.now) ∷ events_to_come_below entered nodes fs f.rest.now
  unfolding after_frames
  owed-push fs f = after_frames_from-push [] [] fs f

  pub owed_none : after_frames entered nodes [] ≡ []
  unfolding after_frames
  owed_none = refl

  -- a walk that has just begun
  pub left-fresh : (frames : List Frame) (hs : List ℕ) → frames ≡ [] → events_to_come_below entered nodes frames hs ≡ events (walk entered nodes [] hs)
  left-fresh frames hs e = rw (e, owed_none) (append-nil (events (walk entered nodes [] hs)))

  module _ (rest : List ℕ) (frames : List Frame) where
    -- the last frame is taken where nothing is left below it
    pub left-popped : (fs : List Frame) (f : Frame) → rest ≡ [] → frames ≡ fs ++ f ∷ [] → events_to_come_below entered nodes frames rest ≡ leaves (tag_view f.tag.now) ∷ events_to_come_below entered nodes fs f.rest.now
    left-popped fs f r e = rw (r, e, events-nil entered nodes (path_from [] (fs ++ f ∷ []))) (owed-push fs f)

    -- nothing is left at all
    pub left-drained : rest ≡ [] → frames ≡ [] → events_to_come_below entered nodes frames rest ≡ []
    left-drained r e = rw (r, e, events-nil entered nodes [], owed_none) refl

    -- a frame more
    pub left-pushed : (new : List Frame) (h : ℕ) (f : Frame) (hs : List ℕ) → new ≡ frames ++ f ∷ [] → f.handle ≡ h → f.rest.now ≡ rest →
        events_to_come_below entered nodes new hs ≡ events (walk entered nodes (h ∷ path_from [] frames) hs) ++ (leaves (tag_view f.tag.now) ∷ events_to_come_below entered nodes frames rest)
    left-pushed new h f hs n fh fr =
        let longer : path_from [] new ≡ h ∷ path_from [] frames = ap (path_from []) n ∙ path-push [] frames f ∙ ap (λ x. x ∷ path_from [] frames) fh in
        let owes : after_frames entered nodes new ≡ leaves (tag_view f.tag.now) ∷ events_to_come_below entered nodes frames rest = ap (after_frames entered nodes) n ∙ owed-push frames f ∙ ap (λ r. leaves (tag_view f.tag.now) ∷ events_to_come_below entered nodes frames r) fr in
        rw (longer, owes) refl

    module _ (h : ℕ) where
      pub left-dangling : slice_get nodes h ≡ None → events_to_come_below entered nodes frames (h ∷ rest) ≡ faulty (Dangling h) ∷ events_to_come_below entered nodes frames rest
      left-dangling is = ap (λ es. es ++ after_frames entered nodes frames) (events-dangling entered nodes (path_from [] frames) h rest is)

      pub left-cycle : (node : Node) → slice_get nodes h ≡ Some node → stands_on (path_from [] frames) h ≡ true → events_to_come_below entered nodes frames (h ∷ rest) ≡ faulty (Cycle h) ∷ events_to_come_below entered nodes frames rest
      left-cycle node is stands = ap (λ es. es ++ after_frames entered nodes frames) (events-cycle entered nodes (path_from [] frames) h rest node is stands)

      pub left-text : (bytes : List ℕ) → slice_get nodes h ≡ Some (Raw bytes) → stands_on (path_from [] frames) h ≡ false → events_to_come_below entered nodes frames (h ∷ rest) ≡ meets h (Raw bytes) ∷ events_to_come_below entered nodes frames rest
      left-text bytes is new = ap (λ es. es ++ after_frames entered nodes frames) (events-text entered nodes (path_from [] frames) h rest bytes is new)

      pub left-comment : (bytes : List ℕ) → slice_get nodes h ≡ Some (Comment bytes) → stands_on (path_from [] frames) h ≡ false → events_to_come_below entered nodes frames (h ∷ rest) ≡ meets h (Comment bytes) ∷ events_to_come_below entered nodes frames rest
      left-comment bytes is new = ap (λ es. es ++ after_frames entered nodes frames) (events-comment entered nodes (path_from [] frames) h rest bytes is new)

      pub left-passed : (own : TagNode) → slice_get nodes h ≡ Some (Tag own) → stands_on (path_from [] frames) h ≡ false → entered own.name ≡ false →
          events_to_come_below entered nodes frames (h ∷ rest) ≡ meets h (Tag own) ∷ events_to_come_below entered nodes frames rest
      left-passed own is new closed = ap (λ es. es ++ after_frames entered nodes frames) (events-passed entered nodes (path_from [] frames) h rest own is new closed)

      pub left-entered : (own : TagNode) → slice_get nodes h ≡ Some (Tag own) → stands_on (path_from [] frames) h ≡ false → entered own.name ≡ true →
          events_to_come_below entered nodes frames (h ∷ rest) ≡ meets h (Tag own) ∷ (events (walk entered nodes (h ∷ path_from [] frames) own.children.items) ++ (leaves own ∷ events_to_come_below entered nodes frames rest))
      left-entered own is new open_ =
          ap (λ es. es ++ after_frames entered nodes frames) (events-tag entered nodes (path_from [] frames) h rest own is new open_)
          ∙ ap (λ es. meets h (Tag own) ∷ es) (append_assoc (events (walk entered nodes (h ∷ path_from [] frames) own.children.items)) (leaves own ∷ events (walk entered nodes (path_from [] frames) rest)) (after_frames entered nodes frames))

-- a handle's node, as the definitions see it
pub shown_at : (nodes : List HTMLNode) (h : ℕ) (node : HTMLNode) → Some node ≡ slice_get nodes h → slice_get (map node_view nodes) h ≡ Some (node_view node)
shown_at nodes h node is = slice_get-map node_view nodes h ∙ ap (option_map node_view) (sym is)

pub shown_past : (nodes : List HTMLNode) (h : ℕ) → None ≡ slice_get nodes h → slice_get (map node_view nodes) h ≡ None
shown_past nodes h is = slice_get-map node_view nodes h ∙ ap (option_map node_view) (sym is)
