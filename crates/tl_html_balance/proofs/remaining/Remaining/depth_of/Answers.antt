use Rattle.std.proofs.Common.{◌≡◌, ◌∙◌, sym, ap, min, length}
use Rattle.std.specs.Str.{bytes_eq}
use Rattle.tl_html_spec.specs.Balanced.{looked_at}
use Rattle.tl_html_balance.specs.Classes.{is}
use Rattle.tl_html_balance.specs.View.{name_of, names_left}
use Rattle.tl_html_balance.proofs.Depths.{search-begins, search-ends, search-finds, search-passes, search-stops}
use Rattle.tl_html_balance.proofs.remaining.Remaining.depth_of.Goals as goal

pub loop-depth-init : goal.loop-depth-init
loop-depth-init c = search-begins (bytes_eq (name_of c.args.name.now)) (is c.args.stops) (names_left c.args.self.now)

pub returns-then-has_name-clause-value : goal.returns-then-has_name-clause-value
returns-then-has_name-clause-value c =
    let end : c.min-depth-end.result ≡ min (length (names_left c.args.self.now)) looked_at = c.min-depth-end.ensures ∙ ap (λ n. min n looked_at) c.len.ensures in
    sym (c.loop-depth.invariant ∙ search-finds (bytes_eq (name_of c.args.name.now)) (is c.args.stops) (names_left c.args.self.now) c.loop-depth.depth c.min-depth-end.result c.loop-depth-test.true end (sym c.has_name.ensures ∙ c.if-has_name.true))

pub returns-then-is-clause-value : goal.returns-then-is-clause-value
returns-then-is-clause-value c =
    let end : c.min-depth-end.result ≡ min (length (names_left c.args.self.now)) looked_at = c.min-depth-end.ensures ∙ ap (λ n. min n looked_at) c.len.ensures in
    sym (c.loop-depth.invariant
    ∙ search-stops (bytes_eq (name_of c.args.name.now)) (is c.args.stops) (names_left c.args.self.now) c.loop-depth.depth c.min-depth-end.result c.loop-depth-test.true end (sym c.has_name.ensures ∙ c.if-has_name.false) (sym c.is.ensures ∙ c.if-is.true))

pub loop-depth-preserved : goal.loop-depth-preserved
loop-depth-preserved c =
    let end : c.min-depth-end.result ≡ min (length (names_left c.args.self.now)) looked_at = c.min-depth-end.ensures ∙ ap (λ n. min n looked_at) c.len.ensures in
    c.loop-depth.invariant
    ∙ search-passes (bytes_eq (name_of c.args.name.now)) (is c.args.stops) (names_left c.args.self.now) c.loop-depth.depth c.min-depth-end.result c.loop-depth-test.true end (sym c.has_name.ensures ∙ c.if-has_name.false) (sym c.is.ensures ∙ c.if-is.false)

pub returns-clause-value : goal.returns-clause-value
returns-clause-value c =
    let end : c.min-depth-end.result ≡ min (length (names_left c.args.self.now)) looked_at = c.min-depth-end.ensures ∙ ap (λ n. min n looked_at) c.len.ensures in
    sym (c.loop-depth.invariant ∙ search-ends (bytes_eq (name_of c.args.name.now)) (is c.args.stops) (names_left c.args.self.now) c.loop-depth.depth c.min-depth-end.result c.loop-depth-test.false end)
