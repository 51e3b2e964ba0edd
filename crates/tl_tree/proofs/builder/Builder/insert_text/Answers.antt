use Rattle.std.proofs.Common.{ap, arith, length, sym, ◌<◌, ◌∙◌}
use Rattle.std.proofs.lemmas.Result.{on_ok_weaker}
use Rattle.tl_dom_spec.specs.Runs.{insert_text}
use Rattle.tl_tree.proofs.RunTexts.{bytes-length, bytes-none, text-some}
use Rattle.tl_tree.specs.Inner.Builders.{builder_of}
use Rattle.tl_tree.specs.Inner.Store.{bytes_of}
use Rattle.tl_tree.proofs.builder.Builder.insert_text.Goals as goal

pub returns-then-text-eq0-clause-ok : goal.returns-then-text-eq0-clause-ok
returns-then-text-eq0-clause-ok c =
    let b = c.args.self.now in
    sym (ap (λ bytes. insert_text bytes (builder_of b)) (bytes-none b.path.store c.args.text c.if-text-eq0.true))

pub returns-clause-ok : goal.returns-clause-ok
returns-clause-ok c =
    let b = c.args.self.now in
    let long = bytes-length b.path.store c.args.text c.requires in
    let other = c.if-text-eq0.false in
    let some : 0 < length (bytes_of b.path.store c.args.text) = omega (arith, long, other) in
    on_ok_weaker c.insert_bytes.result
    (λ is. is ∙ sym (text-some (bytes_of b.path.store c.args.text) (builder_of b) some))
    c.insert_bytes.ensures.ok
