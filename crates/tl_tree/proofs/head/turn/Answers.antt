use Rattle.std.proofs.Common.{[], ◌++◌, ◌∷◌, subst}
use Rattle.std.proofs.lemmas.Result.{on_ok_weaker}
use Rattle.tl_tree.proofs.HeadRows.{less-turned, plain-other, turned}
use Rattle.tl_tree.specs.Inner.Heads.{IsSplit}
use Rattle.tl_tree.specs.declared.cell.Node.{Node}
use Rattle.tl_tree.proofs.head.turn.Goals as goal

pub returns-in-Joined-clause-split : goal.returns-in-Joined-clause-split
returns-in-Joined-clause-split c =
    let s = c.args.store.now in
    on_ok_weaker c.open.result
    (λ split nodes given. split nodes c.args.behind.now.items (subst (λ (node : Node). IsSplit s nodes (c.args.front.now.items ++ node ∷ []) c.args.behind.now.items) c.in-Joined.is given))
    c.open.ensures.split

pub returns-in_ok-push-in_default : goal.returns-in_ok-push-in_default
returns-in_ok-push-in_default c =
    let s = c.args.store.now in record {
      split = turned s c.args.node c.args.front.now.items c.args.behind.now.items c.push.new.self.items (plain-other s c.args.node c.requires.is c.in_default.not-Joined) c.in_ok-push-in_default.ensures.items;
      less = less-turned s c.args.node c.args.front.now.items;
    }
