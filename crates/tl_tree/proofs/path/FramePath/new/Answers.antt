use Rattle.std.proofs.Common.{◌∙◌}
use Rattle.tl_tree.proofs.Written.{path-new}
use Rattle.tl_tree.proofs.path.FramePath.new.Goals as goal

pub returns-clause-path : goal.returns-clause-path
returns-clause-path c =
    path-new _ c.in_ok-store.store c.in_ok-tag.tag c.new-frames.result.items c.new-gaps.ensures c.new-frames.ensures.items c.in_ok-push.ensures.items c.in_ok-tag.ensures.stands

pub returns-clause-page : goal.returns-clause-page
returns-clause-page c = c.add_tag.ensures.grows.page ∙ c.in_ok-store.ensures.page
