use Rattle.std.proofs.Common.{ap, sym, ◌∙◌}
use Rattle.tl_dom_spec.specs.Runs.{with_replacements}
use Rattle.tl_tree.proofs.RunBytes.{replaced-none}
use Rattle.tl_tree.proofs.builder.Builder.replaced_text.Goals as goal

pub returns-then-has_no_null-clause-stands : goal.returns-then-has_no_null-clause-stands
returns-then-has_no_null-clause-stands c =
    sym c.bytes.ensures
    ∙ (sym (replaced-none c.bytes.result.now c.if-has_no_null.ensures) ∙ ap with_replacements c.bytes.ensures)
