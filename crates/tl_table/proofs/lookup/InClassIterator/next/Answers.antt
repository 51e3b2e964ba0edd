use Rattle.std.proofs.Common.{◌≡◌, [], map, refl, subst, sym, ◌∙◌, rules}
use Rattle.std.specs.List.{position_from}
use Rattle.tl_spec.specs.Lookup.Scan.{is_in_class}
use Rattle.tl_table.proofs.Places.{places-none, places-next}
use Rattle.tl_table.proofs.lookup.InClassIterator.next.Goals as goal

pub returns-in_default : goal.returns-in_default
returns-in_default g c =
    let seen = c.self.inside in
    let first = subst (λ r. r ≡ position_from (is_in_class seen.class.now) 0 (map g.N.Element.node seen.nodes.now)) c.in_default.is c.first_in_class.ensures.scan in
    let none : c.args.self.now ≡ [] = sym c.self.view_is ∙ places-none (is_in_class seen.class.now) seen.place 0 (map g.N.Element.node seen.nodes.now) (sym first) in
    record { steps = (none, refl); goes = search rules }

pub returns : goal.returns
returns g c =
    let seen = c.self.inside in
    let next = sym c.self.view_is ∙ places-next g.N.Element.node (is_in_class seen.class.now) seen.place c.in-Some.skipped seen.nodes.now c.in-Some.ensures.scan in
    record { steps = next; goes = search rules }
