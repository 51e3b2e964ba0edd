use Rattle.std.proofs.Common.{OnOk, subst, ◌≡◌}
use Rattle.tl_dom_spec.specs.Builder.{an_end}
use Rattle.tl_dom_spec.specs.Dispatcher.{token_done}
use Rattle.tl_dom_spec.specs.Groups.{Group}
use Rattle.tl_tree.specs.Inner.Builders.{builder_of}
use Rattle.tl_tree.proofs.builder.Builder.take_end.Goals as goal

pub returns-clause-ok : goal.returns-clause-ok
returns-clause-ok c =
    let b = builder_of c.args.self.now in
    subst (λ (group : Group). OnOk c.take_token.result (builder_of c.take_token.new.self ≡ token_done b (an_end group c.args.name.now)))
    (c.group_of-group.ensures c.args.name.now c.known_name.ensures)
    c.take_token.ensures.ok
