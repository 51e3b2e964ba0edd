use Rattle.std.proofs.Common.{List, ap, ℕ, ◌∙◌}
use Rattle.std.proofs.lemmas.Result.{IfOk-weaker}
use Rattle.regex.specs.Patterns.{find_all}
use Rattle.tl_values.proofs.Written.{by-pattern}
use Rattle.tl_values.proofs.pattern.Pattern.replaced.Goals as goal

pub returns-clause-made : goal.returns-clause-made
returns-clause-made c =
    let value : List ℕ = c.args.value.now in
    IfOk-weaker c.replace_all.result _ _
    (λ new written. by-pattern c.args.self.now value new.items _ (ap (λ p. find_all p value) c.requires) written)
    c.replace_all.ensures.written

pub returns-clause-same : goal.returns-clause-same
returns-clause-same c = c.replace_all.ensures.same ∙ c.requires
