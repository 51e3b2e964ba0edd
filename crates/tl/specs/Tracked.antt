-- What the maps of a table answer, where their keys are byte strings.
use Rattle.std.specs.Prelude.{◌≡◌, ℕ, List, is_some}
use Rattle.tl_bytes.specs.Held.{Kept}
use Rattle.tl_bytes.specs.Keys.{same_list}
use Rattle.tl_spec.specs.Tree.Document.{Node}
use Rattle.tl_tracking.specs.Options.{Options}
use Rattle.tl_tracking.specs.Tracking.{Tracking, TracksIds, TracksClasses, TracksMembers}

-- there is a map exactly where one is asked for
pub record AreAsked (asked : Options) (t : Tracking Kept) : Type 0 where
  pub ids : is_some t.ids ≡ asked.ids
  pub classes : is_some t.classes ≡ asked.classes

-- where ids are tracked, each is answered as by a scan of these nodes
abbrev pub AnswerIds : Tracking Kept → List Node → Type 0
AnswerIds t nodes = TracksIds (λ (b : Kept). b.list) same_list t.ids nodes

-- where classes are tracked, each member is answered as by a scan of these nodes
abbrev pub AnswerClasses : Tracking Kept → List Node → Type 0
AnswerClasses t nodes = TracksClasses (λ (b : Kept). b.list) same_list t.classes nodes

-- where classes are tracked, each member is answered as by a scan of these nodes, and the tag after
-- them stands under these of its members
abbrev pub AnswerMembers : Tracking Kept → List Node → List (List ℕ) → Type 0
AnswerMembers t nodes noted = TracksMembers (λ (b : Kept). b.list) same_list t.classes nodes noted
