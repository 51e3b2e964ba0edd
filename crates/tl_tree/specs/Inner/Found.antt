-- What an end tag in foreign content finds, in words of `tl_dom_spec`.
use Rattle.std.specs.Prelude.{List, reverse, slice_index_or, take, ℕ}
use Rattle.tl_dom_spec.specs.Dispatcher as dispatcher
use Rattle.tl_dom_spec.specs.Path as dom
use Rattle.tl_tree.specs.Inner.Frames.{frames_of}
use Rattle.tl_tree.specs.declared.found.Found.{Found}
use Rattle.tl_tree.specs.declared.found.Found.TheVariants.{ByMode, Frame, Nothing}
use Rattle.tl_tree.specs.declared.path.FramePath.{FramePath}

abbrev pub found_of : Found → dispatcher.Found
found_of (Frame number) = dispatcher.the_frame number
found_of ByMode = dispatcher.by_mode
found_of Nothing = dispatcher.nothing

-- the frame at a place
unfoldable pub framed : FramePath → ℕ → dom.Frame
framed p n = slice_index_or (frames_of p) n dom.document

-- the stack among so many of the outermost frames
unfoldable pub stack_to : FramePath → ℕ → List dom.Frame
stack_to p n = dom.elements (reverse (take n (frames_of p)))
