use Rattle.std.proofs.Common.{Some, ap, arith, sym, ◌∙◌}
use Rattle.tl_tree.proofs.NumberedNames.{known-number}
use Rattle.tl_tree.proofs.Skipped.{name-none, none-end}
use Rattle.tl_tree.specs.Inner.Limits.{is_lowered}
use Rattle.tl_tree.specs.Inner.MetNames.{in_lower_case}
use Rattle.tl_tree.proofs.path.FramePath.known_limit.Goals as goal

pub returns-then-knows_all-clause-skips : goal.returns-then-knows_all-clause-skips
returns-then-knows_all-clause-skips c n listed e =
    let p = c.args.self.now in
    name-none n c.known_number.result p c.limit_of.result
    (known-number p.store.names n listed ∙ ap Some (sym (c.known_number.ensures n listed e)))
    (c.knows_all.ensures c.if-knows_all.true) c.limit_of.ensures.skips

pub returns-else-knows_all-clause-skips : goal.returns-else-knows_all-clause-skips
returns-else-knows_all-clause-skips c n listed e =
    let own = c.args.self.now.frames.ok.0 in
    none-end (is_lowered (in_lower_case n)) c.args.self.now c.len.result (omega arith)
