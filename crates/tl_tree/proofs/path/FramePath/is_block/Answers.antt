use Rattle.std.proofs.Common.{ap, sym, ◌&&◌, ◌∙◌}
use Rattle.tl_tree.proofs.Furthest.{frame-there}
use Rattle.tl_tree.specs.Inner.Adopted.{is_block}
use Rattle.tl_tree.specs.Inner.Store.{tag_at}
use Rattle.tl_tree.specs.Inner.Tests.{tag_test_of}
use Rattle.tl_tree.proofs.path.FramePath.is_block.Goals as goal

pub returns-then-frame : goal.returns-then-frame
returns-then-frame c =
    let p = c.args.self.now in
    let f = c.index-frame.result.now in
    let test = tag_test_of c.args.test in
    c.passes.ensures
    ∙ sym (ap (is_block test) (frame-there p c.args.index f c.index-frame.ensures c.requires)
    ∙ ap (λ b. b && test (tag_at p.store f.tag)) c.if-frame.true)

pub returns-else-frame : goal.returns-else-frame
returns-else-frame c =
    let p = c.args.self.now in
    let f = c.index-frame.result.now in
    let test = tag_test_of c.args.test in
    c.if-frame.false
    ∙ sym (ap (is_block test) (frame-there p c.args.index f c.index-frame.ensures c.requires)
    ∙ ap (λ b. b && test (tag_at p.store f.tag)) c.if-frame.false)
