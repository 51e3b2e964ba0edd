use Rattle.std.proofs.Common.{ap, arith, ◌∙◌, ◌+◌}
use Rattle.std.proofs.lemmas.Result.{on_ok_weaker}
use Rattle.tl_dom_spec.specs.Builder.{formatting}
use Rattle.tl_tree.proofs.Actives.{list-behind-none, list-behind-one, none-of}
use Rattle.tl_tree.specs.Inner.Active.{seen}
use Rattle.tl_tree.specs.Inner.Store.{tag_at}
use Rattle.tl_tree.specs.declared.active_entry.Entry.TheVariants.{Formatting}
use Rattle.tl_tree.proofs.active.ActiveList.list_behind.Goals as goal

pub returns-in_default-clause-active : goal.returns-in_default-clause-active
returns-in_default-clause-active c =
    λ s. list-behind-none s c.args.number (formatting c.args.new (tag_at s c.args.tag)) c.args.self.now.entries.items (c.find.ensures.none (none-of c.find.result c.in_default.not-Some))

pub returns-clause-active : goal.returns-clause-active
returns-clause-active c =
    let a = c.args.self.now in
    let place = c.in-Some.place in
    on_ok_weaker c.put.result (λ entries s. ap (seen s) entries ∙ list-behind-one s c.args.number place (place + 1) (Formatting c.args.new c.args.tag) a.entries.items c.in-Some.ensures.some (omega arith)) c.put.ensures.entries
