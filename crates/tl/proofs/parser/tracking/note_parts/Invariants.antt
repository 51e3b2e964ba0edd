use Rattle.std.proofs.Common.{◌≡◌, ◌≤◌, ◌-◌, List, ℕ, ◌++◌, [], length, drop, is_some}
use Rattle.tl_spec.specs.Lookup.ClassMember.{parts}
use Rattle.tl_spec.specs.Tree.Document.{Node}
use Rattle.tl.specs.Tracked.{AnswerMembers}
use Rattle.tl.proofs.parser.tracking.note_parts.Given as goal

abbrev pub invariant-loop-start : goal.invariant-loop-start
invariant-loop-start l = record {
  within : l.at ≤ length l.fn.class.list;
  noted : (done : List (List ℕ)) × (done ++ parts (drop l.at l.fn.class.list) ≡ parts l.fn.class.list) × ((nodes : List Node) → l.number ≡ length nodes → AnswerMembers l.initial.tracking nodes [] → AnswerMembers l.tracking nodes done);
  ids : l.tracking.ids ≡ l.initial.tracking.ids;
  tracked : is_some l.tracking.classes ≡ is_some l.initial.tracking.classes;
  key : l.tracking.key ≡ l.initial.tracking.key;
}

abbrev pub decreases-loop-start : goal.decreases-loop-start
decreases-loop-start l = length l.fn.class.list - l.at
