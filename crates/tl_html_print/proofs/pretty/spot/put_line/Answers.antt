use Rattle.std.proofs.Common.{List, ap, rules, take, ◌*◌, ◌+◌, ◌++◌, ◌∙◌, ◌≡◌, ◌∷◌, ℕ}
use Rattle.std.proofs.lemmas.Result.{IfOk-equal}
use Rattle.std.specs.Prelude.{min}
use Rattle.tl_html_print.proofs.Laid.{line_front, spaces}
use Rattle.tl_html_print.proofs.pretty.spot.put_line.Goals as goal

pub returns : goal.returns
returns c =
    let o : List ℕ = c.args.out.now.items in
    let level : c.min-level.result ≡ min c.args.depth 40 = c.min-level.ensures in
    IfOk-equal c.extend_from_slice.result _ _ _ (search rules)
    (ap (λ k. o ++ take (1 + 2 * k) (10 ∷ spaces 80)) level ∙ ap (λ x. o ++ x) (line_front c.args.depth))
