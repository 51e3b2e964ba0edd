use Rattle.std.proofs.Common.{◌<◌, arith, rules}
use Rattle.std.proofs.lemmas.Bool.{false≢true}
use Rattle.tl_tree_select.specs.Page.{seen}
use Rattle.tl_tree_select.proofs.Contents.{in_contents}
use Rattle.tl_tree_select.proofs.search.is_found.Goals as goal

pub returns-then-number-behind : goal.returns-then-number-behind
returns-then-number-behind c e start finds answered at =
    let lt : c.args.place.number < c.args.place.behind = search rules in
    (λ f. absurd (false≢true f), λ h. absurd (h.2 ((in_contents (seen c.args.page.now) start c.args.place.number c.args.place.behind at.1).0 lt)))

pub returns : goal.returns
returns c e start finds answered at =
    let outside : c.args.place.number < c.args.place.behind → ⊥ = λ lt. omega (arith, lt) in
    let holds = c.in_ok-holds.ensures e finds answered in (
      λ f. (holds.0 f, at.0, λ h. outside ((in_contents (seen c.args.page.now) start c.args.place.number c.args.place.behind at.1).1 h)),
      λ h. holds.1 h.0,
    )
