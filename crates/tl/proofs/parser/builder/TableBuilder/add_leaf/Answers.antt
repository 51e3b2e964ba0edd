use Rattle.std.proofs.Common.{subst}
use Rattle.std.proofs.lemmas.Result.{on_ok_weaker}
use Rattle.tl.proofs.parser.builder.TableBuilder.add_leaf.Goals as goal

pub returns-clause-ok : goal.returns-clause-ok
returns-clause-ok g c = on_ok_weaker c.add.result (λ is. (c.leaf-node.result, subst (λ b. g.F.FnOnce.post c.args.leaf (b, tt) c.leaf-node.result) c.in_ok-bytes.ensures.ok c.leaf-node.ensures, is)) c.add.ensures.ok

pub returns-clause-held : goal.returns-clause-held
returns-clause-held g c = on_ok_weaker c.add.result (λ held each all. held g.S.Source.held all (each c.leaf-node.result (subst (λ b. g.F.FnOnce.post c.args.leaf (b, tt) c.leaf-node.result) c.in_ok-bytes.ensures.ok c.leaf-node.ensures))) c.add.ensures.held
