use Rattle.std.proofs.Common.{arith, false, nat_eq, sym, ◌∙◌, ◌≡◌}
use Rattle.std.proofs.lemmas.Bool.{not-true}
use Rattle.tl_tree.proofs.NumberedNames.{known-among}
use Rattle.tl_tree.proofs.Skipped.{name-none, none-end, unmet-none}
use Rattle.tl_tree.specs.Inner.Limits.{is_lowered}
use Rattle.tl_tree.specs.Inner.MetNames.{in_lower_case}
use Rattle.tl_tree.proofs.path.FramePath.name_limit.Goals as goal

pub returns-then-ne-clause-skips : goal.returns-then-ne-clause-skips
returns-then-ne-clause-skips c =
    let own : nat_eq c.of-known.result.number 159 ≡ false = not-true (nat_eq c.of-known.result.number 159) (sym c.ne.ensures ∙ c.if-ne.true) in
    c.known_limit.ensures.skips c.args.name.now (known-among c.of-known.result c.args.name.now c.of-known.ensures own) c.of-known.ensures

pub returns-then-not-knows_all-clause-skips : goal.returns-then-not-knows_all-clause-skips
returns-then-not-knows_all-clause-skips c =
    let own = c.args.self.now.frames.ok.0 in
    none-end (is_lowered (in_lower_case c.args.name.now)) c.args.self.now c.len.result (omega arith)

pub returns-in-Ok-Some-clause-skips : goal.returns-in-Ok-Some-clause-skips
returns-in-Ok-Some-clause-skips c =
    name-none c.args.name.now c.in-Ok-Some.number c.args.self.now c.limit_of.result (sym c.in-Ok-Some.ensures ∙ c.in-Ok-Some.field-0-is) (c.knows_all.ensures c.if-not-knows_all.false) c.limit_of.ensures.skips

pub returns-in-Ok-None-clause-skips : goal.returns-in-Ok-None-clause-skips
returns-in-Ok-None-clause-skips c =
    unmet-none c.args.name.now c.args.self.now (sym c.in-Ok-None.ensures ∙ c.in-Ok-None.field-0-is)

pub returns-in-Err-clause-skips : goal.returns-in-Err-clause-skips
returns-in-Err-clause-skips c =
    let own = c.args.self.now.frames.ok.0 in
    none-end (is_lowered (in_lower_case c.args.name.now)) c.args.self.now c.len-in-Err.result (omega arith)
