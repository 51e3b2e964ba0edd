-- What a document answers that is asked for an id or for a class: by its map, where it has one, and
-- else by the table as it stands.
use Rattle.std.specs.Prelude.{ℕ, List, Option, is_some, if◌then◌else◌, ◌<◌, ◌^◌, ⊤}
use Rattle.tl_bytes.specs.Held.{Kept, borrowed}
use Rattle.tl_bytes.specs.Keys.{same_list}
use Rattle.tl_spec.specs.Lookup.Scan.{id_scan, class_scan}
use Rattle.tl_tracking.specs.Tracking.{id_in, class_in}
use Rattle.tl.specs.View.{HTMLTable, document_of}
use Rattle.std.specs.List.{AllByRecursion}
use Rattle.tl.specs.declared.vdom.lookup.RemainingHandles.{RemainingHandles}
use Rattle.tl.specs.declared.vdom.lookup.RemainingHandles.TheVariants.{Tracked, Scanned}

-- the first tag with an id
abbrev pub with_id : HTMLTable → Kept → Option ℕ
with_id d id = if is_some d.tracking.ids then id_in same_list d.tracking.ids id
    else id_scan (document_of d).nodes id.list

-- the tags with a class member
abbrev pub with_member : HTMLTable → List ℕ → List ℕ
with_member d member = if is_some d.tracking.classes then class_in same_list d.tracking.classes
    (record { list = member; held = borrowed }) else class_scan (document_of d).nodes member

-- the handles in order
abbrev pub remaining_handles : RemainingHandles → List ℕ
remaining_handles (Tracked numbers) = numbers.now
remaining_handles (Scanned places) = places

-- the places of a scan are handles
abbrev pub AreRemainingHandles : RemainingHandles → Type 0
AreRemainingHandles (Tracked numbers) = ⊤
AreRemainingHandles (Scanned places) = AllByRecursion (λ n. n < 2 ^ 32) places
