use Rattle.std.proofs.Common.{◌≡◌, None, Option, Some, refl, sym, ap, ◌∙◌, subst}
use Rattle.std.specs.Option.{option_copied, option_map}
use Rattle.std.proofs.lemmas.Result.{on_ok_weaker}
use Rattle.tl_bytes.specs.Held.{Kept}
use Rattle.tl_spec.specs.Lookup.ClassMember.{members}
use Rattle.tl_spec.specs.Lookup.Scan.{class_of}
use Rattle.tl.specs.View.{HTMLNode, node_view}
use Rattle.tl.specs.Tracked.{AnswerMembers}
use Rattle.tl.proofs.Tracked.{classes-noted, no-class}
use Rattle.tl.proofs.parser.tracking.note_class_of.Goals as goal

pub returns-in_default : goal.returns-in_default
returns-in_default c =
    let t = c.args.tracking.now in
    record {
      classes = λ nodes e h. classes-noted t t nodes (node_view c.args.node.now) (λ m. subst (λ class. AnswerMembers t nodes (members class)) (sym (no-class c.args.node.now c.in_default.not-Tag)) m) h;
      ids = refl;
      tracked = refl;
      key = refl;
    }

pub returns-in_default-class-clause-classes : goal.returns-in_default-class-clause-classes
returns-in_default-class-clause-classes c =
    let t = c.args.tracking.now in
    let kept : ◌≡◌ {A = Option Kept} c.in-Tag.tag.attributes.class None = ap (λ a. a.class) (sym c.attributes.ensures) ∙ sym c.class.ensures ∙ ap option_copied c.in_default-class.is in
    let none : class_of (node_view c.args.node.now) ≡ None = ap (λ (n : HTMLNode). class_of (node_view n)) c.in-Tag.is ∙ ap (option_map (λ (b : Kept). b.list)) kept in
    λ nodes e h. classes-noted t t nodes (node_view c.args.node.now) (λ m. subst (λ class. AnswerMembers t nodes (members class)) (sym none) m) h

pub returns-clause-classes : goal.returns-clause-classes
returns-clause-classes c =
    let t = c.args.tracking.now in
    let kept : ◌≡◌ {A = Option Kept} c.in-Tag.tag.attributes.class (Some c.in-Some.class.now) = ap (λ a. a.class) (sym c.attributes.ensures) ∙ sym c.class.ensures ∙ ap option_copied c.in-Some.is in
    let some : class_of (node_view c.args.node.now) ≡ Some c.in-Some.class.now.list = ap (λ (n : HTMLNode). class_of (node_view n)) c.in-Tag.is ∙ ap (option_map (λ (b : Kept). b.list)) kept in
    on_ok_weaker c.note_members.result (λ noted nodes e h. classes-noted t c.note_members.new.tracking nodes (node_view c.args.node.now) (λ m. subst (λ class. AnswerMembers c.note_members.new.tracking nodes (members class)) (sym some) (noted nodes e m)) h) c.note_members.ensures.members
