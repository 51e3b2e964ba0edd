use Rattle.std.proofs.Common.{◌≡◌, Some, sym, subst}
use Rattle.std.proofs.lemmas.Result.{on_ok_weaker}
use Rattle.std.specs.Str.{IsUtf8}
use Rattle.tl_spec.specs.Lookup.ClassMember.{members, parts}
use Rattle.tl.specs.Tracked.{AnswerMembers}
use Rattle.tl.proofs.Tracked.{members-of-text, members-of-none}
use Rattle.tl.proofs.parser.tracking.note_members.Goals as goal

pub returns-in-Ok-clause-members : goal.returns-in-Ok-clause-members
returns-in-Ok-clause-members c =
    let class = c.args.class.now.list in
    let all : parts class ≡ members (Some class) = sym (members-of-text class (subst IsUtf8 c.as_bytes.ensures c.in-Ok.ensures.cases.1)) in
    on_ok_weaker c.note_parts.result (λ noted nodes e h. subst (λ ms. AnswerMembers c.note_parts.new.tracking nodes ms) all (noted nodes e h)) c.note_parts.ensures.members

pub returns-in-Err-clause-members : goal.returns-in-Err-clause-members
returns-in-Err-clause-members c =
    let class = c.args.class.now.list in
    λ nodes e h. subst (λ ms. AnswerMembers c.args.tracking.now nodes ms) (sym (members-of-none class (subst (λ v. IsUtf8 v → ⊥) c.as_bytes.ensures c.in-Err.ensures.cases.0))) h
