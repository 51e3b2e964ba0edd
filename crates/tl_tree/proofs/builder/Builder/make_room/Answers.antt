use Rattle.std.proofs.Common.{List, ap, refl, ◌∙◌}
use Rattle.tl_dom_spec.specs.Builder as dom
use Rattle.tl_tree.proofs.Built.{known-listed}
use Rattle.tl_tree.specs.Inner.Active.{seen}
use Rattle.tl_tree.specs.Inner.Builders.{builder_of, token_of}
use Rattle.tl_tree.proofs.builder.Builder.make_room.Goals as goal

pub returns-in-Some-clause-ok : goal.returns-in-Some-clause-ok
unfolding builder_of
returns-in-Some-clause-ok c =
    let b = c.args.self.now in
    ap (λ (entries : List dom.Entry). record (builder_of b) { active = entries })
    (ap (seen b.path.store) c.remove.ensures.entries ∙ c.in-Some.ensures.some)

pub returns-in-Some-clause-token : goal.returns-in-Some-clause-token
unfolding token_of
returns-in-Some-clause-token c = refl

pub returns-in-None-clause-ok : goal.returns-in-None-clause-ok
unfolding builder_of
returns-in-None-clause-ok c =
    let b = c.args.self.now in
    ap (λ (entries : List dom.Entry). record (builder_of b) { active = entries }) (c.in-None.ensures.none refl)

pub remove-requires-clause-listed : goal.remove-requires-clause-listed
remove-requires-clause-listed c = c.args.self.now.known.listed

pub invariant_of-self : goal.invariant_of-self
invariant_of-self c =
    let b = c.args.self.now in
    record { known = known-listed b c.remove.new.self c.remove.ensures.number c.remove.ensures.tag (c.remove.ensures.tallied b.known.tallied) }
