use Rattle.std.proofs.Common.{ap, arith, sym, ◌<◌, ◌∙◌}
use Rattle.std.proofs.lemmas.Result.{on_ok_weaker}
use Rattle.tl_dom_spec.specs.Runs.{count_tokens, run_taken}
use Rattle.tl_tree.proofs.RunTexts.{bytes-length, bytes-none, run-some}
use Rattle.tl_tree.specs.Inner.Builders.{builder_of}
use Rattle.tl_tree.specs.Inner.Store.{bytes_of}
use Rattle.tl_tree.proofs.builder.Builder.run_taken.Goals as goal

pub returns-then-text-eq0-clause-ok : goal.returns-then-text-eq0-clause-ok
returns-then-text-eq0-clause-ok c =
    let b = c.args.self.now in
    sym (ap (λ bytes. run_taken bytes (builder_of b)) (bytes-none b.path.store c.args.text c.if-text-eq0.true))

pub returns-clause-ok : goal.returns-clause-ok
returns-clause-ok c =
    let b = c.args.self.now in
    let text = c.args.text in
    let other = c.if-text-eq0.false in
    let some : 0 < text.len = omega (arith, other) in
    on_ok_weaker c.count_tokens.result
    (λ is.
    is ∙ ap (count_tokens text.len) c.in_ok-run_dispatched.ensures.ok
    ∙ run-some (bytes_of b.path.store text) (builder_of b) text.len (sym (bytes-length b.path.store text c.requires)) some)
    c.count_tokens.ensures.ok
