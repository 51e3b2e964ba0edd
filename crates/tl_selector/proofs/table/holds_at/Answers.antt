use Rattle.std.proofs.Common.{◌≡◌, ◌∙◌, subst, sym, map, Bool, false}
use Rattle.std.specs.Bool.{Decides}
use Rattle.tl_spec.specs.Select.Meaning.{Holds, has_combinator}
use Rattle.tl_selector.specs.View.{selector}
use Rattle.tl_selector.proofs.Marked.{without_tells}
use Rattle.tl_selector.proofs.table.holds_at.Goals as goal

pub returns-else-has_combinator-clause-held : goal.returns-else-has_combinator-clause-held
returns-else-has_combinator-clause-held g c =
    let nodes = map g.N.Element.node c.args.nodes.now in
    let none : has_combinator (selector c.args.e.now) ≡ false = sym c.has_combinator.ensures ∙ c.if-has_combinator.false in
    subst (λ (b : Bool). Decides b (Holds nodes (selector c.args.e.now) c.args.number)) (sym c.holds_alone_at.ensures) (without_tells (selector c.args.e.now) none nodes c.args.number)
