use Rattle.std.proofs.Common.{◌≡◌, None, inr, sym, ap, subst}
use Rattle.std.specs.Prelude.{IsSomeAnd}
use Rattle.tl.specs.Inner.Node.{tag_of}
use Rattle.tl_program.proofs.Tables.{set_same}
use Rattle.tl_program.proofs.script.edit.tag_mut.Goals as goal

pub returns-in_default-as_tag_mut : goal.returns-in_default-as_tag_mut
returns-in_default-as_tag_mut g c = (
  ap (λ nodes. inr (record c.args.table.now { nodes = nodes })) (set_same c.args.table.now.nodes c.args.number c.in-Some.node.now c.in-Some.ensures.value),
  record {
    writes_back = tt;
    value = subst (λ o. IsSomeAnd o (λ node. tag_of node ≡ None)) c.in-Some.ensures.value (sym c.in_default-as_tag_mut.ensures.value);
  },
)
