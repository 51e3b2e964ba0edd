use Rattle.std.proofs.Common.{sym, ◌∙◌}
use Rattle.std.proofs.lemmas.Result.{on_ok_weaker}
use Rattle.tl_dom_spec.specs.Path.{elements}
use Rattle.tl_tree.proofs.Items.{list-item-found, list-item-none}
use Rattle.tl_tree.specs.Inner.Builders.{builder_of}
use Rattle.tl_tree.proofs.builder.Builder.earlier_list_item_closed.Goals as goal

pub returns-then-not-has_item-clause-ok : goal.returns-then-not-has_item-clause-ok
returns-then-not-has_item-clause-ok c =
    let b = builder_of c.args.self.now in
    sym (list-item-none b.flags.counts_search (elements b.path) b (sym c.has_item.ensures ∙ c.if-not-has_item.true))

pub returns-clause-ok : goal.returns-clause-ok
returns-clause-ok c =
    let b = builder_of c.args.self.now in
    on_ok_weaker c.close_except_for.result
    (λ is. is ∙ sym (list-item-found b.flags.counts_search (elements b.path) b (sym c.has_item.ensures ∙ c.if-not-has_item.false)))
    c.close_except_for.ensures.ok
