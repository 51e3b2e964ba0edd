-- What single rules ask of a path of frames, and what they change in it.
use Rattle.std.specs.Prelude.{List, [], drop, map, slice_index_or, ℕ, ◌∷◌}
use Rattle.tl_dom_spec.specs.Path.{Frame, Path, elements}
use Rattle.tl_dom_spec.specs.Tags.{Tag}
use Rattle.tl_tree.specs.Inner.Frames.{frames_of}
use Rattle.tl_tree.specs.declared.frame.Frame as own
use Rattle.tl_tree.specs.declared.path.FramePath.{FramePath}

-- the number of the tag of a frame
abbrev pub tag_in : FramePath → ℕ → ℕ
tag_in p n = slice_index_or (map (λ (f : own.Frame). f.tag) p.frames.items) n 0

-- another tag
abbrev pub retagged : Tag → Frame → Frame
retagged tag f = record f { tag = tag }

abbrev pub retagged_by : (Tag → Tag) → Frame → Frame
retagged_by change f = record f { tag = change f.tag }

-- without the innermost frame
abbrev pub inner : Path → Path
inner [] = []
inner (f ∷ path) = path

-- the open frames behind so many of the outermost
unfoldable pub opened_from : FramePath → ℕ → List Frame
opened_from p n = elements (drop n (frames_of p))
