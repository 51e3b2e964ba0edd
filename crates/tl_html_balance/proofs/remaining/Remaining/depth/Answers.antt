use Rattle.std.proofs.Common.{◌≡◌, ◌∙◌, sym, ap, min, length}
use Rattle.tl_html_spec.specs.Balanced.{looked_at}
use Rattle.tl_html_balance.specs.Classes.{is}
use Rattle.tl_html_balance.specs.View.{names_left}
use Rattle.tl_html_balance.proofs.Depths.{search-begins, search-ends, search-finds, search-passes, search-stops}
use Rattle.tl_html_balance.proofs.Lacking.{search-none}
use Rattle.tl_html_balance.proofs.remaining.Remaining.depth.Goals as goal

pub returns-then-not-may_have-clause-value : goal.returns-then-not-may_have-clause-value
returns-then-not-may_have-clause-value c =
    search-none (is c.args.found) (is c.args.stops) (names_left c.args.self.now) (c.may_have.ensures c.if-not-may_have.true)

pub loop-depth-init : goal.loop-depth-init
loop-depth-init c = search-begins (is c.args.found) (is c.args.stops) (names_left c.args.self.now)

pub returns-then-is-clause-value : goal.returns-then-is-clause-value
returns-then-is-clause-value c =
    let end : c.min-depth-end.result ≡ min (length (names_left c.args.self.now)) looked_at = c.min-depth-end.ensures ∙ ap (λ n. min n looked_at) c.len.ensures in
    sym (c.loop-depth.invariant ∙ search-finds (is c.args.found) (is c.args.stops) (names_left c.args.self.now) c.loop-depth.depth c.min-depth-end.result c.loop-depth-test.true end (sym c.is.ensures ∙ c.if-is.true))

pub returns-then-is-2-clause-value : goal.returns-then-is-2-clause-value
returns-then-is-2-clause-value c =
    let end : c.min-depth-end.result ≡ min (length (names_left c.args.self.now)) looked_at = c.min-depth-end.ensures ∙ ap (λ n. min n looked_at) c.len.ensures in
    sym (c.loop-depth.invariant
    ∙ search-stops (is c.args.found) (is c.args.stops) (names_left c.args.self.now) c.loop-depth.depth c.min-depth-end.result c.loop-depth-test.true end (sym c.is.ensures ∙ c.if-is.false) (sym c.is-in-loop-depth.ensures ∙ c.if-is-2.true))

pub loop-depth-preserved : goal.loop-depth-preserved
loop-depth-preserved c =
    let end : c.min-depth-end.result ≡ min (length (names_left c.args.self.now)) looked_at = c.min-depth-end.ensures ∙ ap (λ n. min n looked_at) c.len.ensures in
    c.loop-depth.invariant
    ∙ search-passes (is c.args.found) (is c.args.stops) (names_left c.args.self.now) c.loop-depth.depth c.min-depth-end.result c.loop-depth-test.true end (sym c.is.ensures ∙ c.if-is.false) (sym c.is-in-loop-depth.ensures ∙ c.if-is-2.false)

pub returns-clause-value : goal.returns-clause-value
returns-clause-value c =
    let end : c.min-depth-end.result ≡ min (length (names_left c.args.self.now)) looked_at = c.min-depth-end.ensures ∙ ap (λ n. min n looked_at) c.len.ensures in
    sym (c.loop-depth.invariant ∙ search-ends (is c.args.found) (is c.args.stops) (names_left c.args.self.now) c.loop-depth.depth c.min-depth-end.result c.loop-depth-test.false end)
