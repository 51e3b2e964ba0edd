use Rattle.std.proofs.Common.{ap, refl, List}
use Rattle.tl_dom_spec.specs.Builder as dom
use Rattle.tl_tree.proofs.Built.{known-listed}
use Rattle.tl_tree.specs.Inner.Builders.{builder_of, token_of}
use Rattle.tl_tree.proofs.builder.Builder.clear_to_last_marker.Goals as goal

pub invariant_of-self : goal.invariant_of-self
invariant_of-self c =
    let b = c.args.self.now in
    record { known = known-listed b c.clear_to_last_marker.new.self c.clear_to_last_marker.ensures.number c.clear_to_last_marker.ensures.tag (c.clear_to_last_marker.ensures.tallied b.known.tallied) }

pub returns-clause-ok : goal.returns-clause-ok
unfolding builder_of
returns-clause-ok c =
    let b = c.args.self.now in
    ap (λ (entries : List dom.Entry). record (builder_of b) { active = entries }) (c.clear_to_last_marker.ensures.active b.path.store)

pub returns-clause-token : goal.returns-clause-token
unfolding token_of
returns-clause-token c = refl
