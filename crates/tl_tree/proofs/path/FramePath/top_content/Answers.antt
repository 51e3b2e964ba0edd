use Rattle.std.proofs.Common.{ap, ◌∙◌}
use Rattle.std.proofs.lemmas.Result.{IfOk-weaker}
use Rattle.tl_dom_spec.specs.Path as dom
use Rattle.tl_tree.proofs.Written.{content-none, content-some}
use Rattle.tl_tree.proofs.path.FramePath.top_content.Goals as goal

whole : dom.Frame → dom.Nodes
whole f = dom.joined f.children f.waiting

pub returns-then-frame-eq0-clause-stands : goal.returns-then-frame-eq0-clause-stands
unfolding whole
returns-then-frame-eq0-clause-stands c =
    content-none c.args.self.now.store c.folded.new.self.store c.top-top.result c.in_ok-frame.frame c.in_ok-frame.ensures.stands c.in_ok-frame.ensures.late c.if-frame-eq0.true
    ∙ ap whole c.top-top.ensures.stands

pub returns-clause-stands : goal.returns-clause-stands
unfolding whole
returns-clause-stands c =
    IfOk-weaker c.add.result _ _
    (λ row is.
    content-some c.args.self.now.store c.folded.new.self.store c.add.new.self.store c.top-top.result c.in_ok-frame.frame row c.in_ok-frame.ensures.stands c.in_ok-frame.ensures.late is
    ∙ ap whole c.top-top.ensures.stands)
    c.add.ensures.stands
