use Rattle.tl_tree.proofs.Resets.{current-none, current-some}
use Rattle.tl_tree.specs.Inner.Builders.{builder_of}
use Rattle.tl_tree.proofs.builder.Builder.current_template_mode.Goals as goal

pub returns-in-Some : goal.returns-in-Some
unfolding builder_of
returns-in-Some c =
    current-some c.deref.result.now c.args.self.now.templates.items c.in-Some.mode.now c.deref.ensures.value c.in-Some.ensures.item.0 c.in-Some.ensures.item.1

pub returns-in-None : goal.returns-in-None
unfolding builder_of
returns-in-None c =
    current-none c.deref.result.now c.args.self.now.templates.items c.deref.ensures.value c.in-None.ensures.item.0
