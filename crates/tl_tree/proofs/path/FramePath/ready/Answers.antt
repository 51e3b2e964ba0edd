use Rattle.std.proofs.Common.{sym, ◌∙◌}
use Rattle.tl_tree.proofs.HeadRows.{plain-headless}
use Rattle.tl_tree.proofs.Heads.{at-head-behind}
use Rattle.tl_tree.proofs.Written.{ready-folded, ready-folded-ok}
use Rattle.tl_tree.specs.Inner.Store.{node_of, nodes_of}
use Rattle.tl_tree.proofs.path.FramePath.ready.Goals as goal

pub returns-then-frame-eq0-clause-behind : goal.returns-then-frame-eq0-clause-behind
returns-then-frame-eq0-clause-behind c =
    let s = c.args.self.now.store in
    ready-folded s c.args.frame (node_of s c.args.node) c.if-frame-eq0.true

pub returns-then-is_plain-clause-behind : goal.returns-then-is_plain-clause-behind
returns-then-is_plain-clause-behind c =
    let s = c.args.self.now.store in
    at-head-behind (nodes_of s c.args.frame.children) (node_of s c.args.node) (nodes_of s c.args.frame.late) (plain-headless s c.args.node (sym c.is_plain.ensures ∙ c.if-is_plain.true))

pub returns-clause-behind : goal.returns-clause-behind
returns-clause-behind c =
    ready-folded-ok c.fold.new.self.store (node_of c.args.self.now.store c.args.node) c.fold.result c.fold.ensures.late
