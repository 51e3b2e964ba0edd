use Rattle.std.proofs.Common.{Bool, ap, sym, true, ◌∙◌}
use Rattle.tl_dom_spec.specs.Adjusted.{cased}
use Rattle.tl_tree.specs.Inner.Foreign.{own_name}
use Rattle.tl_tree.specs.Inner.Store.{space_of}
use Rattle.tl_tree.specs.declared.entries.Namespace.{Namespace}
use Rattle.tl_tree.proofs.foreign_words.name_words.Goals as goal

pub returns-in-Svg : goal.returns-in-Svg
returns-in-Svg c name =
    ap (cased name) c.svg_names.ensures
    ∙ (ap (λ (space : Namespace). own_name true (space_of space) name) (sym c.in-Svg.is)
    ∙ ap (λ (is_renamed : Bool). own_name is_renamed (space_of c.args.space) name) (sym c.if-not-is_renamed.false))
