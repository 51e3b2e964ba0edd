-- From where on no frame of a path passes a test.
use Rattle.std.specs.List.{list_all}
use Rattle.std.specs.Str.{bytes_eq}
use Rattle.std.specs.Prelude.{Bool, List, drop, not, ℕ}
use Rattle.tl_dom_spec.specs.Path as dom
use Rattle.tl_tree.specs.Inner.Frames.{frames_of}
use Rattle.tl_tree.specs.Inner.MetNames.{in_lower_case}
use Rattle.tl_tree.specs.Inner.Roles.{is_of, role_of}
use Rattle.tl_tree.specs.declared.path.FramePath.{FramePath}
use Rattle.tl_tree.specs.declared.role.Kind.{Kind}

-- no frame from a place on passes a test
unfoldable pub none_from : (dom.Frame → Bool) → FramePath → ℕ → Bool
none_from test p n = list_all (λ (f : dom.Frame). not (test f)) (drop n (frames_of p))

abbrev pub is_of_kind : Kind → dom.Frame → Bool
is_of_kind kind f = is_of kind (role_of f.tag 0)

-- whether the name of a frame is this one in lower case
abbrev pub is_lowered : List ℕ → dom.Frame → Bool
is_lowered name f = bytes_eq (in_lower_case f.tag.name) name
