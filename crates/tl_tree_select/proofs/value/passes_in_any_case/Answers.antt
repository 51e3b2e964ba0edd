use Rattle.std.proofs.Common.{arith}
use Rattle.std.specs.Str.{str_to_ascii_lowercase}
use Rattle.std.specs.Char.{to_ascii_lowercase}
use Rattle.std.proofs.lemmas.Bool.{false≢true}
use Rattle.std.proofs.lemmas.List.{length-map}
use Rattle.tl_tree_select.proofs.Values.{none_longer}
use Rattle.tl_tree_select.proofs.value.passes_in_any_case.Goals as goal

pub returns-then-own-value : goal.returns-then-own-value
returns-then-own-value c =
    let own = c.args.own.now in
    let value = c.args.value.now in
    let lt = c.if-own-value.true in
    let o = length-map own to_ascii_lowercase in
    let v = length-map value to_ascii_lowercase in (
      λ e. absurd (false≢true e),
      λ h. absurd (none_longer c.args.op (str_to_ascii_lowercase value) (str_to_ascii_lowercase own) (omega (arith, lt, o, v)) h),
    )
