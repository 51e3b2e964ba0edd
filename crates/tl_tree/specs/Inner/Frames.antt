-- What a path of frames stands for, in words of `tl_dom_spec`.
use Rattle.std.specs.Prelude.{Bool, List, [], false, if◌then◌else◌, length, map, not, reverse, suc, take, zero, ℕ, ◌&&◌, ◌∷◌}
use Rattle.tl_dom_spec.specs.Dispatcher.{is_html_place}
use Rattle.tl_dom_spec.specs.Path as dom
use Rattle.tl_dom_spec.specs.Tags.{is_implied}
use Rattle.tl_tree.specs.Inner.Framed.{frame_is_within}
use Rattle.tl_tree.specs.Inner.Gone.{there}
use Rattle.tl_tree.specs.Inner.Store.{nodes_of, tag_at}
use Rattle.tl_tree.specs.Inner.Tests.{tag_test_of}
use Rattle.tl_tree.specs.declared.frame.Frame.{Frame}
use Rattle.tl_tree.specs.declared.frame.Place.{Place}
use Rattle.tl_tree.specs.declared.frame.Place.TheVariants.{Behind, Here, Into, IntoHead}
use Rattle.tl_tree.specs.declared.path.FramePath.{FramePath}
use Rattle.tl_tree.specs.declared.store.Store.{Store}
use Rattle.tl_tree.specs.declared.test.Test.{Test}
use Rattle.tl_tree.specs.declared.test.Test.TheVariants.{HtmlPlace, ImpliedBut, Nothing, Number, Tag}

abbrev pub place_of : Place → dom.Place
place_of Here = dom.here
place_of (Into number) = dom.into number
place_of (Behind number) = dom.behind number
place_of IntoHead = dom.into_head

-- with what goes to the end of the `head` among them
abbrev pub children_of : Store → Frame → dom.Nodes
children_of s f = dom.at_head (nodes_of s f.children) (nodes_of s f.late)

abbrev pub frame_of : Store → Frame → dom.Frame
frame_of s f = record {
  number = f.number;
  tag = tag_at s f.tag;
  children = children_of s f;
  waiting = nodes_of s f.waiting;
  place = place_of f.place;
  is_open = f.is_open;
}

-- the frames, the outermost first, as they are kept
unfoldable pub frames_of : FramePath → List dom.Frame
frames_of p = map (frame_of p.store) p.frames.items

-- frames without those that are gone, the innermost first, as they are seen
abbrev pub seen : List Bool → List dom.Frame → dom.Path
seen marks frames = reverse (there marks frames)

abbrev pub path_of : FramePath → dom.Path
path_of p = seen p.gaps.marks.items (frames_of p)

-- what is around a place
abbrev pub around : FramePath → ℕ → dom.Path
around p n = seen p.gaps.marks.items (take n (frames_of p))

abbrev pub is_frame : FramePath → Frame → Bool
is_frame p f = frame_is_within (length p.store.tags.items) (length p.store.cells.items) f

-- one frame changed
abbrev pub changed : ℕ → (dom.Frame → dom.Frame) → List dom.Frame → List dom.Frame
changed n change [] = []
changed zero change (f ∷ frames) = change f ∷ frames
changed (suc n) change (f ∷ frames) = f ∷ changed n change frames

abbrev pub test_of : Test → dom.Frame → Bool
test_of Nothing = dom.no_frame
test_of (Number k) = dom.has_number k
test_of (Tag test) = dom.has_tag (tag_test_of test)
test_of (ImpliedBut but) = λ (f : dom.Frame). is_implied f.tag && not (tag_test_of but f.tag)
test_of HtmlPlace = is_html_place

-- a test, or one for all others
abbrev pub test_or_other : Bool → Test → dom.Frame → Bool
test_or_other is_other test f = if is_other then not (test_of test f) else test_of test f

-- nodes at the end of the `head` among the children
abbrev pub with_late : dom.Nodes → dom.Frame → dom.Frame
with_late nodes f = record f { children = dom.at_head f.children nodes }

-- an element that left the stack
abbrev pub closed : dom.Frame → dom.Frame
closed f = record f { is_open = false }

-- what a search through so many of the outermost frames says
unfoldable pub sought : (dom.Frame → Bool) → (dom.Frame → Bool) → FramePath → ℕ → Bool
sought test bounds p n = dom.within test bounds (dom.elements (reverse (take n (frames_of p))))

-- where a node is foster parented, as so many of the outermost frames say
unfoldable pub fostered : FramePath → ℕ → dom.Place
fostered p n = dom.foster_place (around p n)
