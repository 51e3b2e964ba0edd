use Rattle.std.proofs.Common.{◌≡◌, sym, ◌∙◌}
use Rattle.tl_values.proofs.Kept.{added, there}
use Rattle.tl_values.proofs.names.Names.add.Goals as goal

pub returns-then-contains_key : goal.returns-then-contains_key
returns-then-contains_key c = λ used k. there c.args.self.now used c.args.name.now k (sym c.contains_key.ensures ∙ c.if-contains_key.true)

pub returns : goal.returns
returns c = λ used k.
    added c.args.self.now c.put.new.self used c.args.name.now _ k (sym c.contains_key.ensures ∙ c.if-contains_key.false) c.in_ok-name.ensures.ok c.in_ok-put.ensures.put c.in_ok-put.ensures.len
