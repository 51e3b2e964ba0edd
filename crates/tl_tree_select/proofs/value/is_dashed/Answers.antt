use Rattle.std.proofs.Common.{None, Some}
use Rattle.std.proofs.lemmas.Bool.Decides.{Decides-eqb}
use Rattle.std.proofs.lemmas.Slice.Eq.{strip_prefix_is}
use Rattle.tl_tree_select.proofs.Values.{dashed_is, not_dashed}
use Rattle.tl_tree_select.proofs.value.is_dashed.Goals as goal

pub returns-in_default : goal.returns-in_default
returns-in_default c =
    let own = c.args.own.now in
    let value = c.args.value.now in
    not_dashed own value (strip_prefix_is Decides-eqb own value None c.in_default.ensures.cases)

pub returns : goal.returns
returns c =
    let own = c.args.own.now in
    let value = c.args.value.now in
    dashed_is own value c.in-Some.rest.now c.ends_or_is_dashed.result
    (strip_prefix_is Decides-eqb own value (Some c.in-Some.rest) c.in-Some.ensures.cases) c.ends_or_is_dashed.ensures
