use Rattle.std.proofs.Common.{ap, sym, ◌∙◌}
use Rattle.std.proofs.lemmas.Slice.Eq.{bytes_eq-Decides}
use Rattle.tl_names.specs.ElementNames.{name_of}
use Rattle.tl_tree.proofs.builder.Builder.known_name.Goals as goal

pub returns-then-are_same : goal.returns-then-are_same
returns-then-are_same c =
    c.tag-own.ensures.known
    ∙ ap name_of (sym c.bytes.ensures ∙ sym ((bytes_eq-Decides c.args.name.now c.bytes.result.now).0 (sym c.are_same.ensures ∙ c.if-are_same.true)))
