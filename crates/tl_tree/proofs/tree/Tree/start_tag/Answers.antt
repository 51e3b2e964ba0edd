use Rattle.std.proofs.Common.{sym, ◌∙◌}
use Rattle.tl_tree.proofs.Asks.{no-start-tag, some-start-tag}
use Rattle.tl_tree.proofs.tree.Tree.start_tag.Goals as goal

pub returns-then-entry-eq0 : goal.returns-then-entry-eq0
returns-then-entry-eq0 c = sym (no-start-tag c.args.self.now c.args.tag c.tag-entry.result c.tag-entry.ensures.stands c.if-entry-eq0.true)

pub returns : goal.returns
returns c = c.place.ensures ∙ sym (some-start-tag c.args.self.now c.args.tag c.tag-entry.result c.tag-entry.ensures.stands c.if-entry-eq0.false)
