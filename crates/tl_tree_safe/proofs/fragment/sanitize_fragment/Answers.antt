use Rattle.tl_dom_spec.specs.HtmlTree.{html_fragment}
use Rattle.tl_tree_safe.specs.InDiv.{div}
use Rattle.tl_tree_safe.proofs.InDiv.{built, listed, read}
use Rattle.tl_tree_safe.specs.OfPolicy.{lists_of}
use Rattle.tl_tree_safe.proofs.fragment.sanitize_fragment.Goals as goal

pub returns-clause-print : goal.returns-clause-print
returns-clause-print c = c.in-Ok.ensures (html_fragment div c.args.text.now) c.in_ok-tree.ensures.tree

pub returns-clause-read : goal.returns-clause-read
returns-clause-read c = λ rest.
    read (lists_of c.args.policy.now) c.args.policy.now.words c.args.text.now c.in-Ok.page.items
    (c.in-Ok.ensures (html_fragment div c.args.text.now) c.in_ok-tree.ensures.tree) rest

pub returns-clause-built : goal.returns-clause-built
returns-clause-built c = λ context counts_search flow.
    built (lists_of c.args.policy.now) c.args.policy.now.words c.args.text.now c.in-Ok.page.items
    (c.in-Ok.ensures (html_fragment div c.args.text.now) c.in_ok-tree.ensures.tree) context flow counts_search

pub returns-clause-listed : goal.returns-clause-listed
returns-clause-listed c =
    listed (lists_of c.args.policy.now) c.args.policy.now.words c.args.text.now c.in-Ok.page.items
    (c.in-Ok.ensures (html_fragment div c.args.text.now) c.in_ok-tree.ensures.tree)
