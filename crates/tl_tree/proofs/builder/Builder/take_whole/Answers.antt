use Rattle.std.proofs.Common.{ap, filter, length, map, sym, ◌≡◌, ◌∙◌, ℕ}
use Rattle.tl_dom_spec.specs.Builder as dom
use Rattle.tl_dom_spec.specs.Builder.{a_character}
use Rattle.tl_dom_spec.specs.Dispatcher.{calm, tokens_done}
use Rattle.tl_dom_spec.specs.Runs.{count_tokens, goes_in, html_run}
use Rattle.tl_tree.proofs.AtRests.{whole-in-html}
use Rattle.tl_tree.proofs.RunTexts.{ok-then, said-length}
use Rattle.tl_tree.specs.Inner.Builders.{Said, builder_of, token_of}
use Rattle.tl_tree.specs.Inner.Store.{bytes_of}
use Rattle.tl_tree.proofs.builder.Builder.take_whole.Goals as goal

pub returns-clause-ok : goal.returns-clause-ok
unfolding token_of
returns-clause-ok c =
    let b = c.args.self.now in
    let b1 = c.calm.new.self in
    let text = (token_of b).text in
    let kept = λ (own : dom.Builder). html_run own.mode (filter (goes_in own.mode) text) own in
    let same : bytes_of b1.path.store b1.text ≡ text = ap (λ (said : Said). said.text) c.calm.ensures.token in
    let many : b1.text.len ≡ length text = sym (said-length b1) ∙ ap length same in
    let run : builder_of c.run_in_html.new.self ≡ kept (calm (builder_of b)) =
    c.in_ok-run_in_html.ensures.ok
    ∙ ap (λ own. html_run (builder_of b1).mode (filter (goes_in (builder_of b1).mode) own) (builder_of b1)) same
    ∙ ap kept c.calm.ensures.ok in
    ok-then c.count_tokens.result (builder_of c.count_tokens.new.self)
    (count_tokens b1.text.len (builder_of c.run_in_html.new.self))
    (tokens_done (builder_of b) (map a_character text))
    (ap (λ (n : ℕ). count_tokens n (builder_of c.run_in_html.new.self)) many ∙ ap (count_tokens (length text)) run ∙ sym (whole-in-html (builder_of b) text c.requires.rest c.requires.some)) c.count_tokens.ensures.ok
