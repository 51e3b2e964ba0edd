-- Maps that answer by scans, with one more tag.
use Rattle.std.proofs.Common.{◌≡◌, ◌↔◌, ℕ, Bool, cond, List, [], ◌∷◌, ◌++◌, length, Option, None, Some, refl, sym, ◌∙◌, ap, arith, append-nil}
use Rattle.std.specs.List.{list_any}
use Rattle.std.specs.Option.{option_or}
use Rattle.std.specs.Str.{bytes_eq}
use Rattle.std.proofs.lemmas.List.Folds.{list_any-append}
use Rattle.tl_spec.specs.Lookup.ClassMember.{members}
use Rattle.tl_spec.specs.Tree.Document.{Node}
use Rattle.tl_spec.specs.Tree.Inline.{InlineVec}
use Rattle.tl_spec.specs.Lookup.Scan.{id_of, class_of, is_value, has_id, is_in_class, id_scan, class_scan}
use Rattle.tl_tracking.specs.Tracking.{IdPairs, ClassPairs, KeepsFirst, AddsMember, with_number, singleton_when, TracksIds, TracksClasses, TracksMembers}
use Rattle.tl_tracking.proofs.Places.{position-more, places-more, places-below, number-noted}

module _ {B : Type 0} (list : B → List ℕ) (eq : B → B → Bool) (same : (x y : B) → eq x y ≡ bytes_eq (list x) (list y)) where
  -- the first tag of an id stays
  pub id-noted : (old new : List (B × ℕ)) (id : B) (number : ℕ) → KeepsFirst eq id number old new
      → (nodes : List Node) (node : Node) → id_of node ≡ Some (list id) → number ≡ length nodes → TracksIds list eq (Some old) nodes → TracksIds list eq (Some new) (nodes ++ node ∷ [])
  id-noted old new id number u nodes node here e h key =
      u key
      ∙ ap (λ o. option_or o (cond (eq key id) (Some number) None)) (h key)
      ∙ ap (λ b. option_or (id_scan nodes (list key)) (cond b (Some number) None)) (same key id ∙ ap (is_value (list key)) (sym here))
      ∙ sym (position-more (has_id (list key)) 0 number nodes node (omega (arith, e)))

  -- a tag noted under one more of its members
  pub member-noted : (old new : List (B × InlineVec ℕ)) (member : B) (number : ℕ) → AddsMember eq member number old new
      → (nodes : List Node) (noted : List (List ℕ)) → number ≡ length nodes → TracksMembers list eq (Some old) nodes noted → TracksMembers list eq (Some new) nodes (noted ++ list member ∷ [])
  member-noted old new member number u nodes noted e h key =
      let before = list_any (bytes_eq (list key)) noted in
      let now = bytes_eq (list key) (list member) in
      let found = class_scan nodes (list key) ++ singleton_when before (length nodes) in
      u key
      ∙ ap (λ ns. cond (eq key member) (with_number number ns) ns) (h key)
      ∙ ap (λ b. cond b (with_number number found) found) (same key member)
      ∙ ap (λ n. cond now (with_number n found) found) e
      ∙ number-noted (length nodes) (class_scan nodes (list key)) (places-below (is_in_class (list key)) 0 (length nodes) nodes (omega arith)) before now
      ∙ ap (λ b. class_scan nodes (list key) ++ singleton_when b (length nodes)) (sym (list_any-append (bytes_eq (list key)) noted (list member ∷ [])))

or-none : {X : Type 0} (o : Option X) → o ≡ option_or o None
or-none None = refl
or-none (Some x) = refl

module _ {B : Type 0} (list : B → List ℕ) (eq : B → B → Bool) where
  -- before the first member, and after the last
  pub members_begin : (classes : ClassPairs B) (nodes : List Node) → TracksClasses list eq classes nodes ↔ TracksMembers list eq classes nodes []
  members_begin None nodes = (λ _. tt, λ _. tt)
  members_begin (Some pairs) nodes =
      (λ h member. h member ∙ sym (append-nil (class_scan nodes (list member))), λ h member. h member ∙ append-nil (class_scan nodes (list member)))

  pub members_end : (classes : ClassPairs B) (nodes : List Node) (node : Node) → TracksMembers list eq classes nodes (members (class_of node)) → TracksClasses list eq classes (nodes ++ node ∷ [])
  members_end None nodes node h = tt
  members_end (Some pairs) nodes node h = λ member. h member ∙ sym (places-more (is_in_class (list member)) 0 (length nodes) nodes node (omega arith))

  pub id_missing : (ids : IdPairs B) (nodes : List Node) (node : Node) → id_of node ≡ None → TracksIds list eq ids nodes → TracksIds list eq ids (nodes ++ node ∷ [])
  id_missing None nodes node e h = tt
  id_missing (Some pairs) nodes node e h = λ id.
      h id
      ∙ or-none (id_scan nodes (list id))
      ∙ ap (λ v. option_or (id_scan nodes (list id)) (cond (is_value (list id) v) (Some (length nodes)) None)) (sym e)
      ∙ sym (position-more (has_id (list id)) 0 (length nodes) nodes node (omega arith))

  pub same_ids : (ids : IdPairs B) (nodes more : List Node) → ((i : List ℕ) → id_scan more i ≡ id_scan nodes i) → TracksIds list eq ids nodes → TracksIds list eq ids more
  same_ids None nodes more e h = tt
  same_ids (Some pairs) nodes more e h = λ id. h id ∙ sym (e (list id))

  pub same_classes : (classes : ClassPairs B) (nodes more : List Node) → ((c : List ℕ) → class_scan more c ≡ class_scan nodes c) → TracksClasses list eq classes nodes → TracksClasses list eq classes more
  same_classes None nodes more e h = tt
  same_classes (Some pairs) nodes more e h = λ member. h member ∙ sym (e (list member))

pub ruleset laws = (members_begin, members_end, id_missing, same_ids, same_classes)
