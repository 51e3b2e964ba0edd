use Rattle.std.proofs.Common.{ap, sym, true, ◌∙◌}
use Rattle.tl_dom_spec.specs.Reset as reset
use Rattle.tl_tree.proofs.Resets.{decided-none, decided-some, mode-closed, mode-inner, mode-last}
use Rattle.tl_tree.proofs.Sought.{is-opened, is-shut}
use Rattle.tl_tree.specs.Inner.Builders.{builder_of}
use Rattle.tl_tree.specs.Inner.Resets.{mode_from}
use Rattle.tl_tree.proofs.builder.Builder.mode_by.Goals as goal

pub returns-then-not-frame-clause-none : goal.returns-then-not-frame-clause-none
returns-then-not-frame-clause-none c = λ _.
    mode-closed c.args.self.now c.args.index c.index-frame.result.now c.index-frame.ensures c.requires (is-shut c.index-frame.result.now.is_open c.if-not-frame.true)

pub returns-then-has_open_among-clause-some : goal.returns-then-has_open_among-clause-some
returns-then-has_open_among-clause-some c =
    let b = c.args.self.now in
    decided-some c.tag_mode.result _ (mode_from b c.args.index) _ c.tag_mode.ensures
    (mode-inner b c.args.index c.index-frame.result.now c.index-frame.ensures c.requires (is-opened c.index-frame.result.now.is_open c.if-not-frame.false) (sym c.has_open_among.ensures ∙ c.if-has_open_among.true))

pub returns-then-has_open_among-clause-none : goal.returns-then-has_open_among-clause-none
returns-then-has_open_among-clause-none c =
    let b = c.args.self.now in
    decided-none c.tag_mode.result _ (mode_from b c.args.index) _ c.tag_mode.ensures
    (mode-inner b c.args.index c.index-frame.result.now c.index-frame.ensures c.requires (is-opened c.index-frame.result.now.is_open c.if-not-frame.false) (sym c.has_open_among.ensures ∙ c.if-has_open_among.true))

pub returns-clause-some : goal.returns-clause-some
returns-clause-some c =
    let b = c.args.self.now in
    decided-some c.tag_mode-2.result _ (mode_from b c.args.index) _ (c.tag_mode-2.ensures ∙ ap (reset.tag_mode (builder_of b) true) c.last_tag.ensures.stands)
    (mode-last b c.args.index c.index-frame.result.now c.index-frame.ensures c.requires (is-opened c.index-frame.result.now.is_open c.if-not-frame.false) (sym c.has_open_among.ensures ∙ c.if-has_open_among.false))

pub returns-clause-none : goal.returns-clause-none
returns-clause-none c =
    let b = c.args.self.now in
    decided-none c.tag_mode-2.result _ (mode_from b c.args.index) _ (c.tag_mode-2.ensures ∙ ap (reset.tag_mode (builder_of b) true) c.last_tag.ensures.stands)
    (mode-last b c.args.index c.index-frame.result.now c.index-frame.ensures c.requires (is-opened c.index-frame.result.now.is_open c.if-not-frame.false) (sym c.has_open_among.ensures ∙ c.if-has_open_among.false))
