use Rattle.std.proofs.Common.{ap, refl, List}
use Rattle.std.proofs.lemmas.Result.{on_ok_weaker}
use Rattle.tl_dom_spec.specs.Builder as dom
use Rattle.tl_tree.proofs.Built.{known-listed}
use Rattle.tl_tree.specs.Inner.Builders.{builder_of, token_of}
use Rattle.tl_tree.proofs.builder.Builder.insert_marker.Goals as goal

pub invariant_of-self : goal.invariant_of-self
invariant_of-self c =
    let b = c.args.self.now in
    record { known = known-listed b c.push_marker.new.self c.push_marker.ensures.number c.push_marker.ensures.tag (c.push_marker.ensures.tallied b.path.store b.known.tallied) }

pub returns-clause-ok : goal.returns-clause-ok
unfolding builder_of
returns-clause-ok c =
    let b = c.args.self.now in
    on_ok_weaker c.push_marker.result
    (λ is. ap (λ (entries : List dom.Entry). record (builder_of b) { active = entries }) (is b.path.store))
    c.push_marker.ensures.active

pub returns-clause-token : goal.returns-clause-token
unfolding token_of
returns-clause-token c = refl
