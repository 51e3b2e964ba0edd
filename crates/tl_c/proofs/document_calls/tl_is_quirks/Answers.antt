use Rattle.std.proofs.Common.{◌∙◌, ap}
use Rattle.tl_c.specs.Queries.{is_quirks_held, one_if}
use Rattle.tl_c.proofs.document_calls.tl_is_quirks.Goals as goal

pub returns-clause-quirks : goal.returns-clause-quirks
returns-clause-quirks c =
    c.one_if-is_quirks.ensures ∙ ap one_if (c.is_quirks.ensures ∙ ap is_quirks_held c.replace-held.ensures.replaced)
