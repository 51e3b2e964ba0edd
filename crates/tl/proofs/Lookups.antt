-- What lookups answer where a map answers as a scan of some nodes does.
use Rattle.std.proofs.Common.{◌≡◌, ℕ, Bool, cond, List, Option, None, Some, is_some, ap, sym, ◌∙◌}
use Rattle.tl_bytes.specs.Held.{Kept, borrowed}
use Rattle.tl_bytes.specs.Keys.{same_list}
use Rattle.tl_tracking.specs.Options.{Options}
use Rattle.tl_spec.specs.Tree.Document.{Node}
use Rattle.tl_spec.specs.Tree.Inline.{InlineVec}
use Rattle.tl_spec.specs.Lookup.Scan.{id_scan, class_scan}
use Rattle.tl_tracking.specs.Tracking.{TracksIds, TracksClasses, id_in, class_in}
use Rattle.tl.specs.View.{HTMLTable, document_of}
use Rattle.tl.specs.Lookup.{with_id, with_member}
use Rattle.tl.specs.Tracked.{AreAsked, AnswerIds, AnswerClasses}

by_ids : (ids : Option (List (Kept × ℕ))) (nodes read : List Node) (id : Kept) → nodes ≡ read → TracksIds (λ (b : Kept). b.list) same_list ids read
    → cond (is_some ids) (id_in same_list ids id) (id_scan nodes id.list) ≡ id_scan read id.list
by_ids None nodes read id e h = ap (λ ns. id_scan ns id.list) e
by_ids (Some pairs) nodes read id e h = h id

by_classes : (classes : Option (List (Kept × InlineVec ℕ))) (nodes read : List Node) (member : List ℕ) → nodes ≡ read → TracksClasses (λ (b : Kept). b.list) same_list classes read
    → cond (is_some classes) (class_in same_list classes (record { list = member; held = borrowed })) (class_scan nodes member) ≡ class_scan read member
by_classes None nodes read member e h = ap (λ ns. class_scan ns member) e
by_classes (Some pairs) nodes read member e h = h (record { list = member; held = borrowed })

-- where the table is the one that the maps are of, a lookup answers as a scan of it
pub fresh_id : (d : HTMLTable) (nodes : List Node) (id : Kept) → (document_of d).nodes ≡ nodes → AnswerIds d.tracking nodes → with_id d id ≡ id_scan nodes id.list
fresh_id d nodes id e h = by_ids d.tracking.ids (document_of d).nodes nodes id e h

pub fresh_member : (d : HTMLTable) (nodes : List Node) (member : List ℕ) → (document_of d).nodes ≡ nodes → AnswerClasses d.tracking nodes → with_member d member ≡ class_scan nodes member
fresh_member d nodes member e h = by_classes d.tracking.classes (document_of d).nodes nodes member e h

ids_alike : (one other : Option (List (Kept × ℕ))) (asked : Bool) (nodes more read : List Node) (id : Kept) → nodes ≡ more
    → is_some one ≡ asked → is_some other ≡ asked → TracksIds (λ (b : Kept). b.list) same_list one read → TracksIds (λ (b : Kept). b.list) same_list other read
    → cond (is_some one) (id_in same_list one id) (id_scan nodes id.list) ≡ cond (is_some other) (id_in same_list other id) (id_scan more id.list)
ids_alike None None asked nodes more read id e a b h k = ap (λ ns. id_scan ns id.list) e
ids_alike None (Some pairs) asked nodes more read id e a b h k = cc
ids_alike (Some pairs) None asked nodes more read id e a b h k = cc
ids_alike (Some pairs) (Some others) asked nodes more read id e a b h k = h id ∙ sym (k id)

classes_alike : (one other : Option (List (Kept × InlineVec ℕ))) (asked : Bool) (nodes more read : List Node) (member : List ℕ) → nodes ≡ more
    → is_some one ≡ asked → is_some other ≡ asked → TracksClasses (λ (b : Kept). b.list) same_list one read → TracksClasses (λ (b : Kept). b.list) same_list other read
    → cond (is_some one) (class_in same_list one (record { list = member; held = borrowed })) (class_scan nodes member)
    ≡ cond (is_some other) (class_in same_list other (record { list = member; held = borrowed })) (class_scan more member)
classes_alike None None asked nodes more read member e a b h k = ap (λ ns. class_scan ns member) e
classes_alike None (Some pairs) asked nodes more read member e a b h k = cc
classes_alike (Some pairs) None asked nodes more read member e a b h k = cc
classes_alike (Some pairs) (Some others) asked nodes more read member e a b h k = h (record { list = member; held = borrowed }) ∙ sym (k (record { list = member; held = borrowed }))

-- two documents of the same nodes, whose maps answer alike where both have them, answer alike
pub same_id : (d e : HTMLTable) (asked : Options) (read : List Node) (id : Kept) → (document_of d).nodes ≡ (document_of e).nodes → AreAsked asked d.tracking → AreAsked asked e.tracking
    → AnswerIds d.tracking read → AnswerIds e.tracking read → with_id d id ≡ with_id e id
same_id d e asked read id nodes a b h k = ids_alike d.tracking.ids e.tracking.ids asked.ids (document_of d).nodes (document_of e).nodes read id nodes a.ids b.ids h k

pub same_member : (d e : HTMLTable) (asked : Options) (read : List Node) (member : List ℕ) → (document_of d).nodes ≡ (document_of e).nodes → AreAsked asked d.tracking → AreAsked asked e.tracking
    → AnswerClasses d.tracking read → AnswerClasses e.tracking read → with_member d member ≡ with_member e member
same_member d e asked read member nodes a b h k = classes_alike d.tracking.classes e.tracking.classes asked.classes (document_of d).nodes (document_of e).nodes read member nodes a.classes b.classes h k
