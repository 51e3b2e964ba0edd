use Rattle.std.proofs.Common.{ap, filter, ◌∙◌}
use Rattle.std.proofs.lemmas.Result.{on_ok_weaker}
use Rattle.tl_dom_spec.specs.Runs.{goes_in, html_run}
use Rattle.tl_tree.specs.Inner.Builders.{builder_of}
use Rattle.tl_tree.specs.Inner.Modes.{mode_of}
use Rattle.tl_tree.specs.Inner.Store.{bytes_of}
use Rattle.tl_tree.proofs.builder.Builder.run_in_html.Goals as goal

pub returns-clause-ok : goal.returns-clause-ok
unfolding builder_of
returns-clause-ok c =
    let b = c.args.self.now in
    let mode = mode_of b.mode in
    let kept = filter (goes_in mode) (bytes_of b.path.store c.args.text) in
    on_ok_weaker c.html_run.result
    (λ is.
    is ∙ ap (λ bytes. html_run mode bytes (builder_of c.kept_text.new.self)) c.in_ok-kept.ensures.stands
    ∙ ap (html_run mode kept) c.kept_text.ensures.ok)
    c.html_run.ensures.ok
