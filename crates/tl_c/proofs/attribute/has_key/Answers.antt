use Rattle.std.proofs.Common.{None, Some, ap, sym, ◌∙◌}
use Rattle.std.proofs.lemmas.Bool.Decides.{Decides-eqb}
use Rattle.std.proofs.lemmas.Slice.Eq.{strip_prefix_is}
use Rattle.std.specs.Str.{bytes_eq}
use Rattle.tl_c.proofs.Keys.{key_behind, key_elsewhere}
use Rattle.tl_c.proofs.attribute.has_key.Goals as goal

pub returns-in_default : goal.returns-in_default
returns-in_default c =
    let prefix = c.attribute_prefix.result.now in
    let wanted = c.args.key.now in
    sym
    (ap (λ named. bytes_eq named wanted) (sym c.attribute_prefix.ensures)
    ∙ key_elsewhere prefix c.args.attribute.key.now wanted (strip_prefix_is Decides-eqb wanted prefix None c.in_default.ensures.cases))

pub returns : goal.returns
returns c =
    let prefix = c.attribute_prefix.result.now in
    let wanted = c.args.key.now in
    c.eq.ensures
    ∙ key_behind prefix c.args.attribute.key.now wanted c.in-Some.own.now (strip_prefix_is Decides-eqb wanted prefix (Some c.in-Some.own) c.in-Some.ensures.cases)
    ∙ ap (λ named. bytes_eq named wanted) c.attribute_prefix.ensures
