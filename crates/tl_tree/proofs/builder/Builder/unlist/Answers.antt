use Rattle.std.proofs.Common.{List, ap, refl}
use Rattle.tl_dom_spec.specs.Builder as dom
use Rattle.tl_tree.proofs.Built.{known-listed}
use Rattle.tl_tree.specs.Inner.Builders.{builder_of, token_of}
use Rattle.tl_tree.proofs.builder.Builder.unlist.Goals as goal

pub invariant_of-self : goal.invariant_of-self
invariant_of-self c =
    let b = c.args.self.now in
    record { known = known-listed b c.unlist.new.self c.unlist.ensures.number c.unlist.ensures.tag (c.unlist.ensures.tallied b.known.tallied) }

pub returns-clause-ok : goal.returns-clause-ok
unfolding builder_of
returns-clause-ok c =
    let b = c.args.self.now in
    ap (λ (entries : List dom.Entry). record (builder_of b) { active = entries }) (c.unlist.ensures.active b.path.store)

pub returns-clause-token : goal.returns-clause-token
unfolding token_of
returns-clause-token c = refl
