use Rattle.tl_dom_spec.specs.HtmlTree.{html_fragment}
use Rattle.tl_tree_safe.proofs.RemovedPlaces.{tell}
use Rattle.tl_tree_safe.specs.InDiv.{div}
use Rattle.tl_tree_safe.specs.OfPolicy.{lists_of}
use Rattle.tl_tree_safe.proofs.fragment.sanitize_fragment_telling.Goals as goal

pub returns-in-Ok-clause-print : goal.returns-in-Ok-clause-print
returns-in-Ok-clause-print c = c.in-Ok.ensures.print (html_fragment div c.args.text.now) c.in_ok-tree.ensures.tree

pub returns-in-Ok-clause-lines : goal.returns-in-Ok-clause-lines
returns-in-Ok-clause-lines c =
    tell c.args.text.now c.in_ok-tree.tree c.in_ok-tree.ensures.tree c.in_ok-tree.ensures.sources (lists_of c.args.policy.now) c.args.file.now c.in-Ok.told.lines.items
    (c.in-Ok.ensures.told (html_fragment div c.args.text.now) c.in_ok-tree.ensures.tree)
