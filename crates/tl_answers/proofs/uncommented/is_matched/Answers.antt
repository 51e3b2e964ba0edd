use Rattle.std.proofs.Common.{List, ap₂, ◌∙◌, ℕ}
use Rattle.std.specs.Prelude.{is_some}
use Rattle.regex.specs.Patterns.{find}
use Rattle.tl_answers.proofs.uncommented.is_matched.Goals as goal

pub returns-clause-found : goal.returns-clause-found
returns-clause-found c = c.is_match.ensures.found ∙ ap₂ (λ p (text : List ℕ). is_some (find p text 0)) c.requires c.said_at.ensures

pub returns-clause-same : goal.returns-clause-same
returns-clause-same c = c.is_match.ensures.same ∙ c.requires
