use Rattle.std.proofs.Common.{List, ap, arith, refl}
use Rattle.std.specs.Vec.{vec_len}
use Rattle.tl_dom_spec.specs.Builder.{Mode}
use Rattle.tl_tree.proofs.Resets.{current-gone}
use Rattle.tl_tree.specs.Inner.Builders.{builder_of, token_of}
use Rattle.tl_tree.proofs.builder.Builder.pop_template_mode.Goals as goal

pub returns-clause-ok : goal.returns-clause-ok
unfolding builder_of
returns-clause-ok c =
    let b = c.args.self.now in
    let many = b.templates.ok.0 in
    ap (λ (modes : List Mode). record (builder_of b) { templates = modes })
    (current-gone b.templates.items c.pop.new.self.items (vec_len b.templates) c.pop.ensures.rest (omega arith))

pub returns-clause-token : goal.returns-clause-token
unfolding token_of
returns-clause-token c = refl
