use Rattle.std.proofs.Common.{ap, sym, ◌∙◌}
use Rattle.tl_dom_spec.specs.Adjusted.{cased, foreign_key}
use Rattle.tl_tree.specs.Inner.Store.{space_of}
use Rattle.tl_tree.specs.declared.entries.Namespace.{Namespace}
use Rattle.tl_tree.proofs.foreign_words.key_words.Goals as goal

pub returns-in-Svg : goal.returns-in-Svg
returns-in-Svg c key =
    ap (cased key) c.svg_keys.ensures
    ∙ ap (λ (space : Namespace). foreign_key (space_of space) key) (sym c.in-Svg.is)
