use Rattle.std.proofs.Common.{◌∙◌, ap}
use Rattle.std.proofs.lemmas.Result.{on_ok_weaker}
use Rattle.tl_tree.proofs.Actives.{put-last}
use Rattle.tl_tree.specs.Inner.Active.{seen}
use Rattle.tl_tree.specs.declared.active_entry.Entry.TheVariants.{Formatting}
use Rattle.tl_tree.proofs.active.ActiveList.push.Goals as goal

pub returns-clause-active : goal.returns-clause-active
returns-clause-active c =
    let a = c.args.self.now in
    on_ok_weaker c.put.result (λ entries s. ap (seen s) entries ∙ put-last s c.len-place.result a.entries.items (Formatting c.args.number c.args.tag) (c.len-place.ensures ∙ a.entries.ok.0)) c.put.ensures.entries
