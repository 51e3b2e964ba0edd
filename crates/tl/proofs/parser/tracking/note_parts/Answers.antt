use Rattle.std.proofs.Common.{◌≡◌, ◌≤◌, ap, ◌∙◌, ◌++◌, ◌∷◌, [], List, ℕ, length, drop, slice_range, sym, subst}
use Rattle.std.proofs.lemmas.List.{append_assoc}
use Rattle.tl_bytes.specs.Held.{Kept}
use Rattle.tl_spec.specs.Lookup.ClassMember.{parts}
use Rattle.tl.specs.Tracked.{AnswerMembers}
use Rattle.tl.proofs.parser.tracking.note_parts.Goals as goal

pub loop-start-preserved : goal.loop-start-preserved
loop-start-preserved c =
    let class = c.args.class.now.list in
    let old = c.loop-start.invariant in
    let done = old.noted.0 in
    let member = slice_range class c.in-Some.start c.in-Some.end in
    let rest = parts (drop c.in-Some.end class) in
    let first : parts (drop c.loop-start.at class) ≡ member ∷ rest =
    subst (λ (v : List ℕ). parts (drop c.loop-start.at v) ≡ slice_range v c.in-Some.start c.in-Some.end ∷ parts (drop c.in-Some.end v)) c.as_bytes.ensures c.in-Some.ensures.first in
    let is : c.in_ok-member.member.list ≡ member = ap (λ (k : Kept). k.list) c.in_ok-member.ensures.ok in
    record {
      within = subst (λ (v : List ℕ). c.in-Some.end ≤ length v) c.as_bytes.ensures c.in-Some.ensures.within;
      noted = (
        done ++ member ∷ [],
        append_assoc done (member ∷ []) rest ∙ ap (λ (s : List (List ℕ)). done ++ s) (sym first) ∙ old.noted.1,
        λ nodes e h. subst (λ v. AnswerMembers c.note_class.new.self nodes (done ++ v ∷ [])) is (c.in_ok-note_class.ensures.noted nodes done e (old.noted.2 nodes e h)),
      );
      ids = c.note_class.ensures.ids ∙ old.ids;
      tracked = c.note_class.ensures.tracked ∙ old.tracked;
      key = c.note_class.ensures.key ∙ old.key;
    }
