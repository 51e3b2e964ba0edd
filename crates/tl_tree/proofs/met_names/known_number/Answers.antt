use Rattle.std.proofs.Common.{ap, get_or, ℕ, ◌∙◌}
use Rattle.tl_tree.proofs.NumberedNames.{number-told}
use Rattle.tl_tree.specs.declared.met_names.TheConstants.{KNOWN_NUMBERS}
use Rattle.tl_tree.proofs.met_names.known_number.Goals as goal

pub returns : goal.returns
returns c n listed e =
    ap (λ (k : ℕ). get_or KNOWN_NUMBERS k 0) c.number.ensures ∙ number-told c.args.name n listed e
