use Rattle.std.proofs.Common.{ap, ◌∙◌, sym, rules, Some, cond}
use Rattle.std.proofs.lemmas.Map.Steps.{set_value_same}
use Rattle.tl_tracking.specs.Tracking.{numbers_of, class_at, with_number}
use Rattle.tl_tracking.proofs.Maps.{put_member, on_ok, on_err}
use Rattle.tl_tracking.proofs.postings.add_member.Goals as goal

pub returns-in-Some-clause-ok : goal.returns-in-Some-clause-ok
returns-in-Some-clause-ok g c =
    let number = c.args.number in
    on_ok c.add_last.result c.add_last.ensures.ok
    (λ e. put_member g.B.PartialEq.eq g.met.B.Eq.laws c.args.classes.now (c.get_mut.follows.lender c.add_last.new.numbers) c.args.member c.add_last.new.numbers number ((c.get_mut.follows.holds c.add_last.new.numbers).3 (search rules)) (e ∙ ap (λ o. with_number number (numbers_of o)) c.in-Some.ensures.value))

pub returns-in-Some-clause-err : goal.returns-in-Some-clause-err
returns-in-Some-clause-err g c =
    on_err c.add_last.result c.add_last.ensures.err
    (λ e. (c.get_mut.follows.holds c.add_last.new.numbers).0 ∙ set_value_same (g.B.PartialEq.eq c.args.member) c.args.classes.now.entries c.add_last.new.numbers (sym c.in-Some.ensures.value ∙ ap Some (sym e)))

pub returns-in-Some-clause-hasher : goal.returns-in-Some-clause-hasher
returns-in-Some-clause-hasher g c = (c.get_mut.follows.holds c.add_last.new.numbers).5

pub returns-in_ok-insert-in-None-clause-ok : goal.returns-in_ok-insert-in-None-clause-ok
returns-in_ok-insert-in-None-clause-ok g c =
    let eq = g.B.PartialEq.eq in
    let number = c.args.number in
    let m = c.get_mut.follows.lender-at-none in
    let unchanged = c.get_mut.follows.holds-at-none in
    λ key. put_member eq g.met.B.Eq.laws m c.insert.new.self c.args.member c.add_last-in-None.new.numbers number c.in_ok-insert-in-None.ensures.updates (
    c.in_ok-add_last-in-None.ensures.ok
    ∙ ap (λ ns. with_number number ns) c.new-numbers.ensures.items
    ∙ ap (λ o. with_number number (numbers_of o)) c.in-None.ensures.value
    ∙ ap (λ z. with_number number (class_at eq z.entries c.args.member)) (sym unchanged)
    ) key
    ∙ ap (λ z. cond (eq key c.args.member) (with_number number (class_at eq z.entries key)) (class_at eq z.entries key)) unchanged
