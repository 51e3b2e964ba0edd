use Rattle.std.proofs.Common.{List, ap, refl, ℕ}
use Rattle.tl_dom_spec.specs.Builder.{in_table_text}
use Rattle.tl_tree.specs.Inner.Builders.{builder_of, token_of}
use Rattle.tl_tree.proofs.builder.Builder.await_text.Goals as goal

pub returns-clause-ok : goal.returns-clause-ok
unfolding builder_of
returns-clause-ok c =
    let b = builder_of c.args.self.now in
    ap (λ (own : List ℕ). record b { pending = own; original = b.mode; mode = in_table_text }) c.clear.ensures.items

pub returns-clause-token : goal.returns-clause-token
unfolding token_of
returns-clause-token c = refl
