use Rattle.std.proofs.Common.{◌≡◌, ◌∙◌, sym, ap, not, min, length, refl}
use Rattle.tl_html_spec.specs.Balanced.{looked_at, never}
use Rattle.tl_html_balance.specs.Classes.{is}
use Rattle.tl_html_balance.specs.View.{names_left}
use Rattle.std.specs.Option.{is_some}
use Rattle.tl_html_balance.proofs.Depths.{search-begins, search-ends, search-finds, search-passes}
use Rattle.tl_html_balance.proofs.remaining.Remaining.has_other.Goals as goal

pub loop-depth-init : goal.loop-depth-init
loop-depth-init c = search-begins (λ name. not (is c.args.passed name)) never (names_left c.args.self.now)

pub returns-then-not-is : goal.returns-then-not-is
returns-then-not-is c =
    let end : c.min-depth-end.result ≡ min (length (names_left c.args.self.now)) looked_at = c.min-depth-end.ensures ∙ ap (λ n. min n looked_at) c.len.ensures in
    sym (ap is_some
    (c.loop-depth.invariant
    ∙ search-finds (λ name. not (is c.args.passed name)) never (names_left c.args.self.now) c.loop-depth.depth c.min-depth-end.result c.loop-depth-test.true end (ap not (sym c.is.ensures) ∙ ap not c.if-not-is.true)))

pub loop-depth-preserved : goal.loop-depth-preserved
loop-depth-preserved c =
    let end : c.min-depth-end.result ≡ min (length (names_left c.args.self.now)) looked_at = c.min-depth-end.ensures ∙ ap (λ n. min n looked_at) c.len.ensures in
    c.loop-depth.invariant
    ∙ search-passes (λ name. not (is c.args.passed name)) never (names_left c.args.self.now) c.loop-depth.depth c.min-depth-end.result c.loop-depth-test.true end (ap not (sym c.is.ensures) ∙ ap not c.if-not-is.false) refl

pub returns : goal.returns
returns c =
    let end : c.min-depth-end.result ≡ min (length (names_left c.args.self.now)) looked_at = c.min-depth-end.ensures ∙ ap (λ n. min n looked_at) c.len.ensures in
    sym (ap is_some (c.loop-depth.invariant ∙ search-ends (λ name. not (is c.args.passed name)) never (names_left c.args.self.now) c.loop-depth.depth c.min-depth-end.result c.loop-depth-test.false end))
