use Rattle.std.proofs.Common.{sym, ◌∙◌}
use Rattle.std.proofs.lemmas.Result.{IfOk-equal}
use Rattle.tl_safe_fit.specs.Kinds.{is_void_kind}
use Rattle.tl_tree_safe.proofs.WalkSteps.{if-false, if-true}
use Rattle.tl_tree_safe.proofs.writer.Writer.stand_behind.Goals as goal

pub returns-then-is_void_kind : goal.returns-then-is_void_kind
returns-then-is_void_kind c =
    sym (if-true (is_void_kind c.args.kind) _ _ (sym c.is_void_kind.ensures ∙ c.if-is_void_kind.true))

pub returns : goal.returns
returns c =
    IfOk-equal c.enter.result _ _ _ c.enter.ensures (sym (if-false (is_void_kind c.args.kind) _ _ (sym c.is_void_kind.ensures ∙ c.if-is_void_kind.false)))
